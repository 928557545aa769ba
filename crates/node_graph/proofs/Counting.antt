-- How often a number stands in a list, and the list of the buses that are attached to a node.
use Rattle.std.proofs.Common.{◌≡◌, ℕ, zero, suc, ◌+◌, ◌<◌, ◌≤◌, Bool, true, false, not, cond, List, [], ◌∷◌, ◌++◌, length, refl, sym, ◌∙◌, ap, subst, arith, Option, inl, inr}
use Rattle.std.specs.Prelude.{◌==◌, if◌then◌else◌, filter, IsPermutation}
use Rattle.std.specs.List.{range_with_len}
use Rattle.std.specs.Option.{option_map_or}
use Rattle.std.proofs.lemmas.Bool.{true≢false, false≢true, eqb-true, eqb-false, eq-eqb, ne_eqb, cases_lt}
use Rattle.std.proofs.lemmas.List.FromFn.{length-range_with_len}
use Rattle.std.proofs.lemmas.List.Sorted.{IsPermutation-refl, IsPermutation-sym, IsPermutation-cons, IsPermutation-middle, IsPermutation-trans, length_permutation}
use Rattle.std.proofs.lemmas.List.Sums.{sum_by-cons, sum_by-append, length-filter, count_by-le-length}
use Rattle.std.proofs.lemmas.Option.{slice_get_past}
use Rattle.scene_model.specs.declared.bus.Bus.{Bus}
use Rattle.node_graph.specs.Attached.{leads_to, is_attached, attached, count_of}

abbrev pub one_if : Bool → ℕ
one_if b = if b then 1 else 0

pub count-cons : (k x : ℕ) (xs : List ℕ) → count_of k (x ∷ xs) ≡ cond (x == k) 1 0 + count_of k xs
count-cons k x xs = sum_by-cons (λ (y : ℕ). cond (y == k) 1 0) x xs

pub count-append : (k : ℕ) (xs ys : List ℕ) → count_of k (xs ++ ys) ≡ count_of k xs + count_of k ys
count-append k xs ys = sum_by-append (λ (y : ℕ). cond (y == k) 1 0) xs ys

pub one_more : (k x : ℕ) (xs : List ℕ) → (x == k) ≡ true → count_of k (x ∷ xs) ≡ 1 + count_of k xs
one_more k x xs e = count-cons k x xs ∙ ap (λ (b : Bool). cond b 1 0 + count_of k xs) e

pub no_more : (k x : ℕ) (xs : List ℕ) → (x == k) ≡ false → count_of k (x ∷ xs) ≡ count_of k xs
no_more k x xs e =
    let c = count-cons k x xs ∙ ap (λ (b : Bool). cond b 1 0 + count_of k xs) e in omega arith

-- ---- lists that have each number equally often

-- the number stands somewhere in the list
record IsSplit (k : ℕ) (xs : List ℕ) : Type 0 where
  front : List ℕ
  back : List ℕ
  is : xs ≡ front ++ k ∷ back

split_at : (k : ℕ) (xs : List ℕ) → 0 < count_of k xs → IsSplit k xs
split_at k [] some = absurd (omega arith)
split_at k (x ∷ xs) some = by_test (x == k) refl (split_at k xs)
  where
    by_test : (b : Bool) → (x == k) ≡ b → (0 < count_of k xs → IsSplit k xs) → IsSplit k (x ∷ xs)
    by_test true e rest = record { front = []; back = xs; is = ap (λ (y : ℕ). y ∷ xs) (eqb-true x k e) }
    by_test false e rest =
        let s = rest (omega (arith, no_more k x xs e)) in
        record { front = x ∷ s.front; back = s.back; is = ap (λ (ys : List ℕ). x ∷ ys) s.is }

pub permuted : (xs ys : List ℕ) → ((k : ℕ) → count_of k xs ≡ count_of k ys) → IsPermutation xs ys
permuted [] [] same = IsPermutation-refl []
permuted [] (y ∷ ys) same = absurd (omega (arith, same y, one_more y y ys (eq-eqb y y refl)))
permuted (x ∷ xs) ys same =
    let s = split_at x ys (omega (arith, same x, one_more x x xs (eq-eqb x x refl))) in
    let rest : (k : ℕ) → count_of k xs ≡ count_of k (s.front ++ s.back) = λ k. rest_same k x xs ys s.front s.back s.is (same k) in
    IsPermutation-trans (x ∷ xs) (x ∷ (s.front ++ s.back)) ys
    (IsPermutation-cons x xs (s.front ++ s.back) (permuted xs (s.front ++ s.back) rest))
    (subst (λ (l : List ℕ). IsPermutation (x ∷ (s.front ++ s.back)) l) (sym s.is) (IsPermutation-sym (s.front ++ x ∷ s.back) (x ∷ (s.front ++ s.back)) (IsPermutation-middle s.front x s.back)))
  where
    rest_same : (k x : ℕ) (xs ys front back : List ℕ) → ys ≡ front ++ x ∷ back → count_of k (x ∷ xs) ≡ count_of k ys → count_of k xs ≡ count_of k (front ++ back)
    rest_same k x xs ys front back is same =
        let whole : count_of k ys ≡ count_of k front + count_of k (x ∷ back) = ap (count_of k) is ∙ count-append k front (x ∷ back) in
        omega (arith, whole, same, count-cons k x xs, count-cons k x back, count-append k front back)

-- ---- filters and ranges

differ : (p : ℕ → Bool) (k x : ℕ) (b : Bool) → p k ≡ not b → p x ≡ b → (x == k) ≡ false
differ p k x true e f = ne_eqb x k (λ same. true≢false (sym f ∙ ap p same ∙ e))
differ p k x false e f = ne_eqb x k (λ same. false≢true (sym f ∙ ap p same ∙ e))

pub count-filter_yes : (p : ℕ → Bool) (k : ℕ) (xs : List ℕ) → p k ≡ true → count_of k (filter p xs) ≡ count_of k xs
count-filter_yes p k [] e = refl
count-filter_yes p k (x ∷ xs) e = by_test (p x) refl (count-filter_yes p k xs e)
  where
    by_test : (b : Bool) → p x ≡ b → count_of k (filter p xs) ≡ count_of k xs → count_of k (cond b (x ∷ filter p xs) (filter p xs)) ≡ count_of k (x ∷ xs)
    by_test true f rest = count-cons k x (filter p xs) ∙ ap (λ (n : ℕ). cond (x == k) 1 0 + n) rest ∙ sym (count-cons k x xs)
    by_test false f rest = rest ∙ sym (no_more k x xs (differ p k x false e f))

pub count-filter_no : (p : ℕ → Bool) (k : ℕ) (xs : List ℕ) → p k ≡ false → count_of k (filter p xs) ≡ 0
count-filter_no p k [] e = refl
count-filter_no p k (x ∷ xs) e = by_test (p x) refl (count-filter_no p k xs e)
  where
    by_test : (b : Bool) → p x ≡ b → count_of k (filter p xs) ≡ 0 → count_of k (cond b (x ∷ filter p xs) (filter p xs)) ≡ 0
    by_test true f rest = no_more k x (filter p xs) (differ p k x true e f) ∙ rest
    by_test false f rest = rest

count-range_below : (k from n : ℕ) → k < from → count_of k (range_with_len from n) ≡ 0
count-range_below k from zero below = refl
count-range_below k from (suc n) below =
    no_more k from (range_with_len (from + 1) n) (ne_eqb from k (λ e. omega arith)) ∙ count-range_below k (from + 1) n (omega arith)

count-range : (k from n : ℕ) → from ≤ k → k < from + n → count_of k (range_with_len from n) ≡ 1
count-range k from zero least within = absurd (omega arith)
count-range k from (suc n) least within = by_test (from == k) refl (count-range k (from + 1) n)
  where
    by_test : (b : Bool) → (from == k) ≡ b → (from + 1 ≤ k → k < from + 1 + n → count_of k (range_with_len (from + 1) n) ≡ 1) → count_of k (from ∷ range_with_len (from + 1) n) ≡ 1
    by_test true e rest =
        let same : from ≡ k = eqb-true from k e in
        omega (arith, one_more k from (range_with_len (from + 1) n) e, count-range_below k (from + 1) n (omega arith))
    by_test false e rest =
        let other : from ≡ k → ⊥ = eqb-false from k e in
        let least' : from + 1 ≤ k = omega arith in
        no_more k from (range_with_len (from + 1) n) e ∙ rest least' (omega arith)

-- ---- the buses that are attached to a node

pub attached_within : (buses : List Bus) (node k : ℕ) → is_attached buses node k ≡ true → k < length buses
attached_within buses node k e = elim (cases_lt k (length buses)) [
  | inl within ↦ within
  | inr past ↦ absurd (false≢true (sym (ap (λ (o : Option Bus). option_map_or (leads_to node) o false) (slice_get_past buses k past)) ∙ e))
]

pub count-attached : (buses : List Bus) (node k : ℕ) → count_of k (attached buses node) ≡ cond (is_attached buses node k) 1 0
count-attached buses node k = by_test (is_attached buses node k) refl
  where
    by_test : (b : Bool) → is_attached buses node k ≡ b → count_of k (attached buses node) ≡ cond b 1 0
    by_test true e =
        count-filter_yes (is_attached buses node) k (range_with_len 0 (length buses)) e
        ∙ count-range k 0 (length buses) (omega arith) (let within = attached_within buses node k e in omega arith)
    by_test false e = count-filter_no (is_attached buses node) k (range_with_len 0 (length buses)) e

-- numbers that are those of the attached buses, each once, are those in another order
pub listed : (buses : List Bus) (node : ℕ) (numbers : List ℕ) → ((k : ℕ) → count_of k numbers ≡ one_if (is_attached buses node k)) → IsPermutation (attached buses node) numbers
listed buses node numbers each =
    permuted (attached buses node) numbers (λ k. count-attached buses node k ∙ sym (each k))

pub length-attached : (buses : List Bus) (node : ℕ) → length (attached buses node) ≤ length buses
length-attached buses node =
    omega (arith, length-filter (is_attached buses node) (range_with_len 0 (length buses)), count_by-le-length (is_attached buses node) (range_with_len 0 (length buses)), length-range_with_len 0 (length buses))

pub length-listed : (buses : List Bus) (node : ℕ) (numbers : List ℕ) → ((k : ℕ) → count_of k numbers ≡ one_if (is_attached buses node k)) → length numbers ≡ length (attached buses node)
length-listed buses node numbers each = length_permutation (attached buses node) numbers (listed buses node numbers each)
