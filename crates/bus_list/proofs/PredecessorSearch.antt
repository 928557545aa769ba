-- The search for the bus that leads to another.
use Rattle.std.proofs.Common.{◌≡◌, ℕ, ◌≤◌, ◌<◌, true, cond, ◌==◌, List, [], ◌∷◌, ◌++◌, length, refl, sym, ap, ◌∙◌, subst, arith, true≢false, append_assoc}
use Rattle.std.specs.Prelude.{slice_index}
use Rattle.std.proofs.lemmas.Bool.{ne_eqb}
use Rattle.bus_list.specs.Visits.{has, Distinct, Each}
use Rattle.bus_list.specs.Invariant.{Path, first_of, last_of}
use Rattle.bus_list.specs.Seats.{IsPredecessor}
use Rattle.bus_list.specs.Steps.{Route}
use Rattle.bus_list.proofs.Chains.{same, has_not, not_append, has_cons, path_at, last_of_append, last_not}

-- What follows the bus c in a list; and the whole list where c is the dummy.
abbrev pub after : ℕ → List ℕ → List ℕ
after c [] = []
after c (x ∷ xs) = cond (x == c) xs (after c xs)

abbrev pub beyond : ℕ → ℕ → List ℕ → List ℕ
beyond N c xs = cond (c == N) xs (after c xs)

-- The search stands at a bus, or the dummy, and the bus that it looks for is further along the chain.
pub record IsAhead (N : ℕ) (chain : List ℕ) (bus at : ℕ) : Type 0 where
  pub pre : List ℕ
  pub post : List ℕ
  pub parts : chain ≡ pre ++ post
  pub last : last_of N pre ≡ at
  pub there : has bus post ≡ true
  pub low : at ≤ N

pub starts : (N : ℕ) (links chain : List ℕ) (bus : ℕ) → Route N links chain bus → IsAhead N chain bus N
starts N links chain bus r = record { pre = []; post = chain; parts = refl; last = refl; there = r.there; low = omega arith }

leads : (N : ℕ) (links chain : List ℕ) (bus at : ℕ) → Route N links chain bus → (b : IsAhead N chain bus at) → slice_index links at ≡ first_of N b.post
leads N links chain bus at r b = ap (λ x. slice_index links x) (sym b.last) ∙ path_at N (λ x. slice_index links x) N b.pre b.post (subst (λ c. Path N (λ x. slice_index links x) (slice_index links N) c) b.parts r.path)

pub found : (N : ℕ) (links chain : List ℕ) (bus at : ℕ) → Route N links chain bus → IsAhead N chain bus at → slice_index links at ≡ bus → IsPredecessor N bus at chain
found N links chain bus at r b is = from b.post refl
  where
    from : (post : List ℕ) → b.post ≡ post → IsPredecessor N bus at chain
    from [] e = absurd (true≢false (sym b.there ∙ ap (has bus) e))
    from (y ∷ ys) e =
        let q : bus ≡ y = sym is ∙ (leads N links chain bus at r b ∙ ap (first_of N) e) in
        (b.pre, ys, b.parts ∙ (ap (λ l. b.pre ++ l) e ∙ (λ i. b.pre ++ sym q i ∷ ys)), b.last)

after_last : (x : ℕ) (pre post : List ℕ) → Distinct (x ∷ pre ++ post) → after (last_of x pre) (x ∷ pre ++ post) ≡ post
after_last x [] post d = rw (same x) refl
after_last x (z ∷ pre) post d =
    let n = not_append x (z ∷ pre) post d.0 in
    let m = has_not x z pre n.0 in
    rw (ne_eqb x (last_of z pre) (λ e. last_not z x pre (λ q. m.0 (sym q)) m.1 (sym e))) (after_last z pre post d.1)

last_lt : (N x : ℕ) (pre post : List ℕ) → Each (λ b. b < N) (x ∷ pre ++ post) → last_of x pre < N
last_lt N x [] post e = e.0
last_lt N x (z ∷ pre) post e = last_lt N z pre post e.1

pub beyond_is : (N : ℕ) (links chain : List ℕ) (bus at : ℕ) → Route N links chain bus → (b : IsAhead N chain bus at) → beyond N at chain ≡ b.post
beyond_is N links chain bus at r b = subst (λ x. beyond N x chain ≡ b.post) b.last (from b.pre b.parts)
  where
    from : (pre : List ℕ) → chain ≡ pre ++ b.post → beyond N (last_of N pre) chain ≡ b.post
    from [] e = rw (same N) e
    from (x ∷ pre) e =
        let lt = last_lt N x pre b.post (subst (Each (λ b. b < N)) e r.inside) in
        rw (ne_eqb (last_of x pre) N (λ q. absurd (omega arith))) (ap (after (last_of x pre)) e ∙ after_last x pre b.post (subst Distinct e r.apart))

-- One bus on.
pub record Onward (N : ℕ) (chain : List ℕ) (bus at next : ℕ) : Type 0 where
  pub behind : IsAhead N chain bus next
  pub less : length (beyond N next chain) < length (beyond N at chain)

pub onward : (N : ℕ) (links chain : List ℕ) (bus at : ℕ) → Route N links chain bus → IsAhead N chain bus at → (slice_index links at ≡ bus → ⊥) → Onward N chain bus at (slice_index links at)
onward N links chain bus at r b isnt = from b.post refl
  where
    from : (post : List ℕ) → b.post ≡ post → Onward N chain bus at (slice_index links at)
    from [] e = absurd (true≢false (sym b.there ∙ ap (has bus) e))
    from (y ∷ ys) e =
        let q : slice_index links at ≡ y = leads N links chain bus at r b ∙ ap (first_of N) e in
        let parts : chain ≡ (b.pre ++ y ∷ []) ++ ys = b.parts ∙ (ap (λ l. b.pre ++ l) e ∙ rw append_assoc refl) in
        let inside : Each (λ b. b < N) (b.pre ++ y ∷ ys) = subst (Each (λ b. b < N)) (b.parts ∙ ap (λ l. b.pre ++ l) e) r.inside in
        let yl : y < N = in_middle b.pre ys y inside in
        let next : IsAhead N chain bus y = record { pre = b.pre ++ y ∷ []; post = ys; parts = parts; last = last_of_append N b.pre (y ∷ []); there = sym (has_cons bus y ys (λ z. isnt (q ∙ sym z))) ∙ (sym (ap (has bus) e) ∙ b.there); low = omega arith } in
        subst (Onward N chain bus at) (sym q) (record {
          behind = next;
          less = let f = beyond_is N links chain bus at r b ∙ e in let g = beyond_is N links chain bus y r next in rw f (rw g (omega arith));
        })
      where
        in_middle : (xs ys : List ℕ) (y : ℕ) → Each (λ b. b < N) (xs ++ y ∷ ys) → y < N
        in_middle [] ys y e = e.0
        in_middle (x ∷ xs) ys y e = in_middle xs ys y e.1
