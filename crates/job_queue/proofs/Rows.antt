-- Lists of posts that grow by one, and the tags that lie in the ring.
use Rattle.std.proofs.Common.{◌≡◌, ◌≢◌, ◌⊎◌, ℕ, zero, suc, ◌+◌, ◌<◌, cond, ◌==◌, List, [], ◌∷◌, ◌++◌, map, length, refl, sym, ap, ◌∙◌, inl, inr, ⊎_elim, arith}
use Rattle.std.proofs.lemmas.Bool.{eq-eqb, ne_eqb}
use Rattle.std.specs.List.{filter, range_with_len}
use Rattle.std.proofs.lemmas.List.{append-nil, map-append, map-id}
use Rattle.std.proofs.lemmas.List.FromFn.{map-range_with_len_more}
use Rattle.std.proofs.lemmas.List.Elements.{filter-append}
use mathlib.Core.Option.{some, some-injective, some-ne-none}
use lib.ListN.{get_elem?}
use base.Stored.{Gv}
use Rattle.atomic_table.specs.Seated.{TableId}
use Rattle.slot_tags.specs.declared.tag.SlotTag.{SlotTag}
use Rattle.slot_tags.specs.Tags.{table_of_tag}
use Rattle.job_queue.specs.declared.view.Post.{Post}
use Rattle.job_queue.specs.Rule.{IsPosted, posts_of, post_in, taken_by, Lie}

-- one number more
pub one_more : (a n j : ℕ) → a + n ≡ j → range_with_len a (n + 1) ≡ range_with_len a n ++ j ∷ []
one_more a n j e = sym (map-id (range_with_len a (n + 1))) ∙ map-range_with_len_more (λ (x : ℕ). x) a n j e ∙ ap (λ xs. xs ++ j ∷ []) (map-id (range_with_len a n))

module _ {A : Type 0} where
  -- an element of a list with one more is one of the list, or the last
  pub at_end : (l : List A) (a b : A) (j : ℕ) → get_elem? (l ++ a ∷ []) j ≡ some b → (get_elem? l j ≡ some b) ⊎ ((j ≡ length l) × (a ≡ b))
  at_end [] a b zero e = inr (refl, some-injective a b e)
  at_end [] a b (suc j) e = absurd (some-ne-none b (sym e))
  at_end (x ∷ xs) a b zero e = inl e
  at_end (x ∷ xs) a b (suc j) e = ⊎_elim (λ p. inl p) (λ p. inr (ap suc p.0, p.1)) (at_end xs a b j e)

  pub below : (l : List A) (i : ℕ) (a : A) → get_elem? l i ≡ some a → i < length l
  below [] i a e = absurd (some-ne-none a (sym e))
  below (x ∷ xs) zero a e = omega arith
  below (x ∷ xs) (suc i) a e = let p = below xs i a e in omega arith

  pub the_only : (a b : A) (i : ℕ) → get_elem? (a ∷ []) i ≡ some b → (i ≡ 0) × (a ≡ b)
  the_only a b zero e = (refl, some-injective a b e)
  the_only a b (suc i) e = absurd (some-ne-none b (sym e))

  pub nothing_behind : (xs ys : List A) → xs ++ ys ≡ [] → ys ≡ []
  nothing_behind [] ys e = e
  nothing_behind (x ∷ xs) ys e = absurd (cc)

module _ {J : Type 0} where
  pub posts_own : (seat : ℕ) (posts : List (Post J)) (e : Post J) → e.poster ≡ seat → posts_of seat (posts ++ e ∷ []) ≡ posts_of seat posts ++ e ∷ []
  posts_own seat posts e own = filter-append (λ (x : Post J). x.poster == seat) posts (e ∷ []) ∙ ap (λ b. posts_of seat posts ++ cond b (e ∷ []) []) (eq-eqb e.poster seat own)

  pub posts_else : (seat : ℕ) (posts : List (Post J)) (e : Post J) → e.poster ≢ seat → posts_of seat (posts ++ e ∷ []) ≡ posts_of seat posts
  posts_else seat posts e other = filter-append (λ (x : Post J). x.poster == seat) posts (e ∷ []) ∙ ap (λ b. posts_of seat posts ++ cond b (e ∷ []) []) (ne_eqb e.poster seat other) ∙ append-nil (posts_of seat posts)

  pub taken_own : (seat : ℕ) (taken : List (ℕ × Post J)) (x : ℕ × Post J) → x.0 ≡ seat → taken_by seat (taken ++ x ∷ []) ≡ taken_by seat taken ++ x.1 ∷ []
  taken_own seat taken x own =
      let kept : List (ℕ × Post J) = filter (λ (y : ℕ × Post J). y.0 == seat) taken in
      ap (map post_in) (filter-append (λ (y : ℕ × Post J). y.0 == seat) taken (x ∷ []) ∙ ap (λ b. kept ++ cond b (x ∷ []) []) (eq-eqb x.0 seat own)) ∙ map-append post_in kept (x ∷ [])

  pub taken_else : (seat : ℕ) (taken : List (ℕ × Post J)) (x : ℕ × Post J) → x.0 ≢ seat → taken_by seat (taken ++ x ∷ []) ≡ taken_by seat taken
  taken_else seat taken x other =
      let kept : List (ℕ × Post J) = filter (λ (y : ℕ × Post J). y.0 == seat) taken in
      ap (map post_in) (filter-append (λ (y : ℕ × Post J). y.0 == seat) taken (x ∷ []) ∙ ap (λ b. kept ++ cond b (x ∷ []) []) (ne_eqb x.0 seat other) ∙ append-nil kept)

  module _ (code : J → Gv) where
    -- the tag is of the table, and full with the job that was posted with it
    abbrev pub LiesOne : TableId → SlotTag → Post J → Type 0
    LiesOne table t e = (table_of_tag t ≡ table) × IsPosted code t e.posted

    pub lie_longer : (table : TableId) (items : List SlotTag) (waiting : List (Post J)) → Lie code table items waiting → (t : SlotTag) (e : Post J) → LiesOne table t e → Lie code table (items ++ t ∷ []) (waiting ++ e ∷ [])
    lie_longer table [] [] lie t e one = (one, tt)
    lie_longer table [] (y ∷ ys) lie t e one = absurd lie
    lie_longer table (x ∷ xs) [] lie t e one = absurd lie
    lie_longer table (x ∷ xs) (y ∷ ys) lie t e one = (lie.0, lie_longer table xs ys lie.1 t e one)

    -- the post of the tag at the front, and the others
    pub record Front (table : TableId) (t : SlotTag) (items : List SlotTag) (waiting : List (Post J)) : Type 0 where
      pub post : Post J
      pub later : List (Post J)
      pub waiting_are : waiting ≡ post ∷ later
      pub one : LiesOne table t post
      pub lie : Lie code table items later

    pub front : (table : TableId) (t : SlotTag) (items : List SlotTag) (waiting : List (Post J)) → Lie code table (t ∷ items) waiting → Front table t items waiting
    front table t items [] lie = absurd lie
    front table t items (y ∷ ys) lie = record { post = y; later = ys; waiting_are = refl; one = lie.0; lie = lie.1 }

    -- where nothing waits, nothing lies in the ring
    pub nothing_lies : (table table' : TableId) (items : List SlotTag) (waiting : List (Post J)) → waiting ≡ [] → Lie code table items waiting → Lie code table' items waiting
    nothing_lies table table' [] [] none lie = tt
    nothing_lies table table' [] (y ∷ ys) none lie = absurd lie
    nothing_lies table table' (x ∷ xs) [] none lie = absurd lie
    nothing_lies table table' (x ∷ xs) (y ∷ ys) none lie = absurd (cc)
