-- What the rule says at every moment, in sentences of its own.
use Rattle.std.proofs.Common.{◌≡◌, ◌≢◌, ℕ, zero, suc, ◌+◌, ◌<◌, ◌≤◌, ◌==◌, true, List, [], ◌∷◌, ◌++◌, map, length, take, refl, sym, ap, ◌∙◌, subst, arith}
use Rattle.std.proofs.lemmas.Bool.{eq-eqb}
use Rattle.std.specs.List.{filter}
use Rattle.std.proofs.lemmas.List.{map-append}
use Rattle.std.proofs.lemmas.List.Elements.{filter-append}
use mathlib.Core.Option.{some, some-injective, some-ne-none}
use mathlib.Core.Logic.{dite}
use native.Mathlib.Decide.{ℕ_discrete, dec_lt}
use lib.ListN.{get_elem?}
use base.Stored.{Gv}
use Rattle.atomic_table.specs.Seated.{TableId}
use Rattle.atomic_table.proofs.Lists.{at_map, at_longer}
use Rattle.slot_tags.specs.declared.tag.SlotTag.{SlotTag}
use Rattle.slot_tags.specs.Tags.{table_of_tag}
use Rattle.job_queue.specs.declared.view.Post.{Post}
use Rattle.job_queue.specs.declared.view.Role.TheVariants.{Working}
use Rattle.job_queue.specs.declared.view.JobView.{JobView}
use Rattle.job_queue.specs.Rule.{IsPosted, posts_of, posted_in, post_in, taken_by, Lie, Queued}
use Rattle.job_queue.proofs.RingSteps.{role_as}
use Rattle.job_queue.proofs.Kept.{one_number, there, from_map, KeptAt, kept_at, is_kept, later_kept}

module _ {J : Type 0} (code : J → Gv) where
  abbrev by_poster : ℕ → Post J → Rattle.std.proofs.Common.Bool
  by_poster seat e = e.poster == seat

  abbrev by_taker : ℕ → ℕ × Post J → Rattle.std.proofs.Common.Bool
  by_taker seat x = x.0 == seat

  -- the post of a tag that lies in the ring
  lies_at : (table : TableId) (items : List SlotTag) (waiting : List (Post J)) → Lie code table items waiting → (k : ℕ) (t : SlotTag) → get_elem? items k ≡ some t
      → (e : Post J) × (get_elem? waiting k ≡ some e) × (table_of_tag t ≡ table) × IsPosted code t e.posted
  lies_at table [] waiting lie k t at = absurd (some-ne-none t (sym at))
  lies_at table (x ∷ xs) [] lie k t at = absurd lie
  lies_at table (x ∷ xs) (y ∷ ys) lie zero t at = let is = some-injective x t at in (y, refl, subst (λ u. table_of_tag u ≡ table) is lie.0.0, subst (λ u. IsPosted code u y.posted) is lie.0.1)
  lies_at table (x ∷ xs) (y ∷ ys) lie (suc k) t at = lies_at table xs ys lie.1 k t at

  as_many : (table : TableId) (items : List SlotTag) (waiting : List (Post J)) → Lie code table items waiting → length waiting ≡ length items
  as_many table [] [] lie = refl
  as_many table [] (y ∷ ys) lie = absurd lie
  as_many table (x ∷ xs) [] lie = absurd lie
  as_many table (x ∷ xs) (y ∷ ys) lie = ap suc (as_many table xs ys lie.1)

  module _ (items : List SlotTag) (views : List (JobView J)) (h : Queued code items views) where
    -- the posts that were taken, and all posts so far
    abbrev taken : List (Post J)
    taken = map post_in h.taken

    abbrev posts : List (Post J)
    posts = taken ++ h.waiting

    -- as many posts wait as there are tags in the ring
    pub as_many_wait : length h.waiting ≡ length items
    as_many_wait = as_many h.table items h.waiting h.lie

    -- each tag in the ring is of the one table, and full with the job that was posted with it
    pub tags_are_full : (k : ℕ) (t : SlotTag) → get_elem? items k ≡ some t → (e : Post J) × (get_elem? h.waiting k ≡ some e) × (table_of_tag t ≡ h.table) × IsPosted code t e.posted
    tags_are_full = lies_at h.table items h.waiting h.lie

    -- a post is, of those of its poster, the one of its number
    has_number : (n : ℕ) (e : Post J) → get_elem? posts n ≡ some e → e.number ≡ length (posts_of e.poster (take n posts))
    has_number n e at = h.numbered e.poster (length (posts_of e.poster (take n posts))) e (is_kept (by_poster e.poster) posts n e at (eq-eqb e.poster e.poster refl))

    module _ (i : ℕ) (v : JobView J) (at : get_elem? views i ≡ some v) where
      -- where in all that was taken a post stands that the seat took
      took_at : (a : ℕ) (e : Post J) → get_elem? v.took a ≡ some e → (x : ℕ × Post J) × (x.0 ≡ i) × (x.1 ≡ e) × KeptAt (by_taker i) h.taken a x
      took_at a e q =
          let x = from_map post_in (filter (by_taker i) h.taken) a e (subst (λ l. get_elem? l a ≡ some e) (h.seats i v at).took q) in
          let k = kept_at (by_taker i) h.taken a x.0 x.1 in
          (x.0, one_number x.0.0 i k.passes, x.2, k)

      -- its place among all posts
      post_at : (a : ℕ) (e : Post J) (q : get_elem? v.took a ≡ some e) → get_elem? posts (took_at a e q).3.place ≡ some e
      post_at a e q =
          let t = took_at a e q in
          at_longer taken h.waiting t.3.place e (at_map post_in h.taken t.3.place t.0 t.3.at ∙ ap (λ (y : Post J). some y) t.2)

      -- each job seat has a number of its own, and names the table
      pub has_own_number : v.role ≡ Working → (v.number ≡ i) × (v.table.id ≡ h.table)
      has_own_number working = role_as code v.role Working h.table posts (length views) i v.number v.table.id working (h.seats i v at).role

      -- what the ring holds of a seat is the last part of what the seat posted, in its order
      pub ring_holds_the_last : v.posted ≡ map posted_in (posts_of i taken) ++ map posted_in (posts_of i h.waiting)
      ring_holds_the_last = (h.seats i v at).posted ∙ ap (map posted_in) (filter-append (by_poster i) taken h.waiting) ∙ map-append posted_in (posts_of i taken) (posts_of i h.waiting)

      -- each post before that part stands in what a seat took
      pub others_are_taken : (k : ℕ) → k < length (posts_of i taken)
          → (j : ℕ) × (u : JobView J) × (a : ℕ) × (e : Post J) × (get_elem? views j ≡ some u) × (get_elem? u.took a ≡ some e) × (e.poster ≡ i) × (e.number ≡ k) × (get_elem? v.posted k ≡ some e.posted)
      others_are_taken k less =
          let p = there (posts_of i taken) k less in
          let e : Post J = p.0 in
          let q = kept_at (by_poster i) taken k e p.1 in
          let x = from_map post_in h.taken q.place e q.at in
          let j : ℕ = x.0.0 in
          let a : ℕ = length (filter (by_taker j) (take q.place h.taken)) in
          let kept : get_elem? (taken_by j h.taken) a ≡ some e =
          at_map post_in (filter (by_taker j) h.taken) a x.0 (is_kept (by_taker j) h.taken q.place x.0 x.1 (eq-eqb j j refl)) ∙ ap (λ (y : Post J). some y) x.2 in
          let inside : j < length views = dite (dec_lt j (length views)) (λ lt. lt) (λ far. absurd (some-ne-none e (sym (subst (λ l. get_elem? l a ≡ some e) (h.others j (omega arith)).1 kept)))) in
          let u = there views j inside in
          let all : get_elem? (posts_of i posts) k ≡ some e = subst (λ l. get_elem? l k ≡ some e) (sym (filter-append (by_poster i) taken h.waiting)) (at_longer (posts_of i taken) (posts_of i h.waiting) k e p.1) in (
            j,
            u.0,
            a,
            e,
            u.1,
            subst (λ l. get_elem? l a ≡ some e) (sym (h.seats j u.0 u.1).took) kept,
            one_number e.poster i q.passes,
            h.numbered i k e all,
            subst (λ l. get_elem? l k ≡ some e.posted) (sym (h.seats i v at).posted) (at_map posted_in (posts_of i posts) k e all),
          )

      -- nothing else stands there: what a seat took is the post of its number of its poster, with the same tag and job
      pub took_what_was_posted : (a : ℕ) (e : Post J) → get_elem? v.took a ≡ some e → (u : JobView J) × (get_elem? views e.poster ≡ some u) × (get_elem? u.posted e.number ≡ some e.posted)
      took_what_was_posted a e q =
          let n : ℕ = (took_at a e q).3.place in
          let here = post_at a e q in
          let p : ℕ = e.poster in
          let kept = is_kept (by_poster p) posts n e here (eq-eqb p p refl) in
          let numbered : get_elem? (posts_of p posts) e.number ≡ some e = subst (λ k. get_elem? (posts_of p posts) k ≡ some e) (sym (has_number n e here)) kept in
          let inside : p < length views = dite (dec_lt p (length views)) (λ lt. lt) (λ far. absurd (some-ne-none e (sym (subst (λ l. get_elem? l e.number ≡ some e) (h.others p (omega arith)).0 numbered)))) in
          let u = there views p inside in
          (u.0, u.1, subst (λ l. get_elem? l e.number ≡ some e.posted) (sym (h.seats p u.0 u.1).posted) (at_map posted_in (posts_of p posts) e.number e numbered))

      -- in what one seat took, the numbers of one poster rise
      pub numbers_rise : (a b : ℕ) (e d : Post J) → get_elem? v.took a ≡ some e → get_elem? v.took b ≡ some d → a < b → e.poster ≡ d.poster → e.number < d.number
      numbers_rise a b e d q r less same =
          let s = took_at a e q in
          let t = took_at b d r in
          let n : ℕ = s.3.place in
          let m : ℕ = t.3.place in
          let sooner : n < m = dite (dec_lt n m) (λ lt. lt)
          (λ no. dite (ℕ_discrete n m)
          (λ (one : n ≡ m). let x = s.3.before in let y = t.3.before in let z = ap (λ k. length (filter (by_taker i) (take k h.taken))) one in absurd (omega arith))
          (λ two. let x = s.3.before in let y = t.3.before in let z = later_kept (by_taker i) h.taken m n t.0 t.3.at t.3.passes (omega arith) in absurd (omega arith))) in
          let x = has_number n e (post_at a e q) in
          let y = has_number m d (post_at b d r) in
          let z = later_kept (by_poster e.poster) posts n m e (post_at a e q) (eq-eqb e.poster e.poster refl) sooner in
          let w = ap (λ p. length (posts_of p (take m posts))) same in
          omega arith

    -- a post stands in what one seat took, once
    pub taken_once : (i j : ℕ) (v u : JobView J) → get_elem? views i ≡ some v → get_elem? views j ≡ some u
        → (a b : ℕ) (e d : Post J) → get_elem? v.took a ≡ some e → get_elem? u.took b ≡ some d → e.poster ≡ d.poster → e.number ≡ d.number → (i ≡ j) × (a ≡ b)
    taken_once i j v u at there a b e d q r same number =
        let s = took_at i v at a e q in
        let t = took_at j u there b d r in
        let n : ℕ = s.3.place in
        let m : ℕ = t.3.place in
        let x = has_number n e (post_at i v at a e q) in
        let y = has_number m d (post_at j u there b d r) in
        let w = ap (λ p. length (posts_of p (take m posts))) same in
        let one : n ≡ m = dite (ℕ_discrete n m) (λ (is : n ≡ m). is)
        (λ two. dite (dec_lt n m)
        (λ lt. let z = later_kept (by_poster e.poster) posts n m e (post_at i v at a e q) (eq-eqb e.poster e.poster refl) lt in absurd (omega arith))
        (λ no.
        let z = later_kept (by_poster e.poster) posts m n d (post_at j u there b d r) (eq-eqb d.poster e.poster (sym same)) (omega arith) in
        absurd (omega arith))) in
        let pair : s.0 ≡ t.0 = some-injective s.0 t.0 (sym s.3.at ∙ ap (λ k. get_elem? h.taken k) one ∙ t.3.at) in
        let seat : i ≡ j = sym s.1 ∙ ap (λ (z : ℕ × Post J). z.0) pair ∙ t.1 in
        (seat, sym s.3.before ∙ (λ k. length (filter (by_taker (seat k)) (take (one k) h.taken))) ∙ t.3.before)
