-- The pages of reels, drawn one after the other.
use Rattle.std.proofs.Common.{◌≡◌, ◌≢◌, ℕ, ◌+◌, ◌<◌, ◌≤◌, true, false, cond, nat_lt, List, [], ◌∷◌, ◌++◌, length, map, take, get_or, set, sym, ◌∙◌, ap, subst, arith}
use Rattle.std.specs.Prelude.{Option, Some, None, min}
use Rattle.std.specs.List.{AllWithin, enumerate_from, filter, flat_map, range_with_len}
use Rattle.std.proofs.lemmas.Bool.{lt-ltb, le-ltb}
use Rattle.std.proofs.lemmas.List.{append_assoc, append-nil, get_or-set_other, length-set, flat_map_more, length-take-le, map-append, map-id, take_more}
use Rattle.std.proofs.lemmas.List.FromFn.{map-range_with_len_more}
use Rattle.std.proofs.lemmas.List.Elements.{filter-append}
use Rattle.exec_reel.specs.ClipPages.{page_total}
use Rattle.exec_reel.specs.Reels.{clip_of, drawn_of, Draws}
use Rattle.exec_reel.specs.Tickets.{number_of, reel_of_ticket}
use Rattle.exec_reel.specs.declared.reel.Reel.{Reel}
use Rattle.exec_reel.specs.declared.ticket.Ticket.{Ticket}
use Rattle.resource_mgr.specs.PageOrder.{ReelPage, ReelPages, page_at, pages_at, IsDrawnTo}
use Rattle.resource_mgr.specs.Works.{page_in}
use Rattle.resource_mgr.specs.declared.source.Source.{Source}
use Rattle.resource_mgr.specs.declared.work.Work.{Work}
use Rattle.resource_mgr.specs.declared.work.Work.TheVariants.{Page}

enumerate_more : {X : Type 0} (n : ℕ) (xs : List X) (x : X) → enumerate_from n (xs ++ x ∷ []) ≡ enumerate_from n xs ++ (n + length xs, x) ∷ []
enumerate_more n [] x = let start : n ≡ n + 0 = omega arith in ap (λ i. (i, x) ∷ []) start
enumerate_more n (y ∷ xs) x =
    let places : n + 1 + length xs ≡ n + length (y ∷ xs) = omega arith in
    ap (λ ys. (n, y) ∷ ys) (enumerate_more (n + 1) xs x ∙ ap (λ i. enumerate_from (n + 1) xs ++ (i, x) ∷ []) places)

-- one reel more
pages_more : (k : ℕ) (reels : List ReelPages) (x : ReelPages) → pages_at k (reels ++ x ∷ []) ≡ pages_at k reels ++ map (page_at k) (cond (nat_lt k x.pages) ((length reels, x) ∷ []) [])
pages_more k reels x =
    let n : ℕ × ReelPages = (length reels, x) in
    let start : (0 + length reels) ≡ length reels = omega arith in
    ap (λ xs. map (page_at k) (filter (λ (y : ℕ × ReelPages). nat_lt k y.1.pages) xs)) (enumerate_more 0 reels x ∙ ap (λ i. enumerate_from 0 reels ++ (i, x) ∷ []) start)
    ∙ ap (map (page_at k)) (filter-append (λ (y : ℕ × ReelPages). nat_lt k y.1.pages) (enumerate_from 0 reels) (n ∷ []))
    ∙ map-append (page_at k) (filter (λ (y : ℕ × ReelPages). nat_lt k y.1.pages) (enumerate_from 0 reels)) (cond (nat_lt k x.pages) (n ∷ []) [])

-- the pages of the number k of the first i reels and of the next one
module _ (k i : ℕ) (reels : List ReelPages) (x : ReelPages) (there : i < length reels) (here : get_or reels i x ≡ x) where
  with_next : pages_at k (take (i + 1) reels) ≡ pages_at k (take i reels) ++ map (page_at k) (cond (nat_lt k x.pages) ((i, x) ∷ []) [])
  with_next =
      let within : i ≤ length reels = omega (arith, there) in
      let count = length-take-le i reels within in
      ap (pages_at k) (take_more reels i x there ∙ ap (λ y. take i reels ++ y ∷ []) here) ∙ pages_more k (take i reels) x
      ∙ ap (λ n. pages_at k (take i reels) ++ map (page_at k) (cond (nat_lt k x.pages) ((n, x) ∷ []) [])) count

  -- jobs of pages, from these on, in order
  abbrev pub AreJobs : List (Option ReelPage) → ℕ → List Work → Type 0
  AreJobs base n jobs = map page_in jobs ≡ base ++ map (λ page. Some page) (pages_at k (take n reels))

  pub jobs_with : (base : List (Option ReelPage)) (jobs jobs' : List Work) (t : Ticket) → AreJobs base i jobs → jobs' ≡ jobs ++ Page i t ∷ [] → nat_lt k x.pages ≡ true → number_of t ≡ k → reel_of_ticket t ≡ x.reel
      → AreJobs base (i + 1) jobs'
  jobs_with base jobs jobs' t are more less number reel =
      let p : ReelPage = page_at k (i, x) in
      let same : page_in (Page i t) ≡ Some p = λ j. Some record { resource = i; page = number j; reel = reel j } in
      ap (map page_in) more ∙ map-append page_in jobs (Page i t ∷ []) ∙ ap (λ o. map page_in jobs ++ o ∷ []) same ∙ ap (λ ps. ps ++ Some p ∷ []) are
      ∙ append_assoc base (map (λ page. Some page) (pages_at k (take i reels))) (Some p ∷ [])
      ∙ ap (λ ps. base ++ ps) (sym (map-append (λ page. Some page) (pages_at k (take i reels)) (p ∷ [])))
      ∙ ap (λ ps. base ++ map (λ page. Some page) ps) (ap (λ b. pages_at k (take i reels) ++ map (page_at k) (cond b ((i, x) ∷ []) [])) (sym less) ∙ sym with_next)

  pub jobs_without : (base : List (Option ReelPage)) (jobs jobs' : List Work) → AreJobs base i jobs → jobs' ≡ jobs → nat_lt k x.pages ≡ false → AreJobs base (i + 1) jobs'
  jobs_without base jobs jobs' are same less =
      ap (map page_in) same ∙ are
      ∙ ap (λ ps. base ++ map (λ page. Some page) ps) (sym (append-nil (pages_at k (take i reels))) ∙ ap (λ b. pages_at k (take i reels) ++ map (page_at k) (cond b ((i, x) ∷ []) [])) (sym less) ∙ sym with_next)

-- a source of which page k is drawn
module _ (k : ℕ) (old new : Source) (drawn : IsDrawnTo k old) (same : new.reel ≡ old.reel) where
  pub drawn_next : (r : Option Ticket) → Draws old.reel old.drawer new.drawer r → IsDrawnTo (k + 1) new
  drawn_next r draws = subst (λ (reel : Reel). drawn_of new.drawer ≡ min (k + 1) (page_total (clip_of reel))) (sym same) (by_ticket r draws)
    where
      by_ticket : (r : Option Ticket) → Draws old.reel old.drawer new.drawer r → drawn_of new.drawer ≡ min (k + 1) (page_total (clip_of old.reel))
      by_ticket None d = let a = d.drawn in let b = d.same.0 in omega (arith, a, b, drawn)
      by_ticket (Some t) d = let a = d.number in let b = d.below in let e = d.drawn in omega (arith, a, b, e, drawn)

  pub draws_it : (t : Ticket) → Draws old.reel old.drawer new.drawer (Some t) → (nat_lt k (page_total (clip_of old.reel)) ≡ true) × (number_of t ≡ k)
  draws_it t d = let a = d.number in let b = d.below in let number : number_of t ≡ k = omega (arith, a, b, drawn) in (lt-ltb k (page_total (clip_of old.reel)) (omega (arith, b, number)), number)

  pub draws_none : Draws old.reel old.drawer new.drawer None → nat_lt k (page_total (clip_of old.reel)) ≡ false
  draws_none d = let a = d.drawn in le-ltb k (page_total (clip_of old.reel)) (omega (arith, a, drawn))

-- the sources from the next one on are as before
pub left_still : (k i : ℕ) (xs : List Source) (y : Source) → AllWithin (IsDrawnTo k) xs i (length xs) → AllWithin (IsDrawnTo k) (set xs i y) (i + 1) (length (set xs i y))
left_still k i xs y left j d low high =
    let other : j ≢ i = omega arith in
    let count = length-set xs i y in
    subst (IsDrawnTo k) (sym (get_or-set_other xs i j y d other)) (left j d (omega arith) (omega (arith, count)))

-- the pages of one number more
pub pages_to_next : (k : ℕ) (reels : List ReelPages) (jobs jobs' : List (Option ReelPage)) → jobs ≡ map (λ page. Some page) (flat_map (λ n. pages_at n reels) (range_with_len 0 k))
    → jobs' ≡ jobs ++ map (λ page. Some page) (pages_at k reels) → jobs' ≡ map (λ page. Some page) (flat_map (λ n. pages_at n reels) (range_with_len 0 (k + 1)))
pages_to_next k reels jobs jobs' are more =
    let row = λ (n : ℕ). pages_at n reels in
    let start : 0 + k ≡ k = omega arith in
    let some = λ (page : ReelPage). Some page in
    more ∙ ap (λ ps. ps ++ map some (row k)) are
    ∙ sym (map-append some (flat_map row (range_with_len 0 k)) (row k))
    ∙ ap (map some) (flat_map_more row [] (range_with_len 0 k) k ∙ ap (flat_map row) (sym (one_number_more 0 k k start)))
  where
    one_number_more : (a n j : ℕ) → a + n ≡ j → range_with_len a (n + 1) ≡ range_with_len a n ++ j ∷ []
    one_number_more a n j e = sym (map-id (range_with_len a (n + 1))) ∙ map-range_with_len_more (λ (x : ℕ). x) a n j e ∙ ap (λ xs. xs ++ j ∷ []) (map-id (range_with_len a n))
