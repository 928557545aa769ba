-- No two buses of a plan are the same output.
use Rattle.std.proofs.Common.{◌≡◌, ℕ, zero, suc, ◌+◌, ◌<◌, ◌≤◌, Bool, true, false, cond, List, [], ◌∷◌, map, Some, refl, sym, ◌∙◌, ap, subst, arith}
use Rattle.std.specs.Prelude.{◌==◌, ◌&&◌, count_by, slice_get}
use Rattle.std.specs.List.{range_with_len}
use Rattle.std.proofs.lemmas.Bool.{eqb-true, ne_eqb, and_parts}
use Rattle.std.proofs.lemmas.List.Sums.{sum_by-cons, sum_by-append}
use Rattle.std.proofs.lemmas.Option.{none-some, same_Some}
use Rattle.scene_model.specs.declared.bus.Bus.{Bus}
use Rattle.scene_model.specs.declared.node.NodeKind.{NodeKind}
use Rattle.scene_model.specs.Buses.{outputs}
use Rattle.scene_model.specs.IsPlan.{IsPlan, output_of, outputs_in_order, kinds}
use Rattle.scene_model.specs.PlanData.{PlanData}
use Rattle.scene_model.specs.Wiring.{is_output}

abbrev ones : {X : Type 0} → (X → Bool) → X → ℕ
ones p x = cond (p x) 1 0

passes : {X : Type 0} (p : X → Bool) (x : X) (xs : List X) → p x ≡ true → count_by p (x ∷ xs) ≡ 1 + count_by p xs
passes p x xs e = sum_by-cons (ones p) x xs ∙ ap (λ (b : Bool). cond b 1 0 + count_by p xs) e

fails : {X : Type 0} (p : X → Bool) (x : X) (xs : List X) → p x ≡ false → count_by p (x ∷ xs) ≡ count_by p xs
fails p x xs e =
    let c = sum_by-cons (ones p) x xs ∙ ap (λ (b : Bool). cond b 1 0 + count_by p xs) e in omega arith

count_by-map : {X Y : Type 0} (p : Y → Bool) (f : X → Y) (xs : List X) → count_by p (map f xs) ≡ count_by (λ x. p (f x)) xs
count_by-map p f [] = refl
count_by-map p f (x ∷ xs) =
    sum_by-cons (ones p) (f x) (map f xs) ∙ ap (λ (n : ℕ). ones p (f x) + n) (count_by-map p f xs) ∙ sym (sum_by-cons (ones (λ x. p (f x))) x xs)

-- ---- the outputs of nodes of some kinds

abbrev is_pair : ℕ → ℕ → ℕ × ℕ → Bool
is_pair node out o = o.0 == node && o.1 == out

abbrev own_outputs : ℕ → ℕ → ℕ → List (ℕ × ℕ)
own_outputs first from n = map (λ out. (first, out)) (range_with_len from n)

own_other : (node out first from n : ℕ) → (first == node) ≡ false → count_by (is_pair node out) (own_outputs first from n) ≡ 0
own_other node out first from zero e = refl
own_other node out first from (suc n) e =
    fails (is_pair node out) (first, from) (own_outputs first (from + 1) n) (ap (λ (b : Bool). b && from == out) e)
    ∙ own_other node out first (from + 1) n e

own_below : (node out first from n : ℕ) → out < from → count_by (is_pair node out) (own_outputs first from n) ≡ 0
own_below node out first from zero below = refl
own_below node out first from (suc n) below =
    fails (is_pair node out) (first, from) (own_outputs first (from + 1) n) (by_test (first == node) (ne_eqb from out (λ e. omega arith)))
    ∙ own_below node out first (from + 1) n (omega arith)
  where
    by_test : (b : Bool) → (from == out) ≡ false → (b && from == out) ≡ false
    by_test true e = e
    by_test false e = refl

own_once : (node out first from n : ℕ) → count_by (is_pair node out) (own_outputs first from n) ≤ 1
own_once node out first from zero = omega arith
own_once node out first from (suc n) = by_test (is_pair node out (first, from)) refl (own_once node out first (from + 1) n)
  where
    by_test : (b : Bool) → is_pair node out (first, from) ≡ b → count_by (is_pair node out) (own_outputs first (from + 1) n) ≤ 1 → count_by (is_pair node out) ((first, from) ∷ own_outputs first (from + 1) n) ≤ 1
    by_test true e rest =
        let same : from ≡ out = eqb-true from out (and_parts (first == node) (from == out) e).1 in
        omega (arith, passes (is_pair node out) (first, from) (own_outputs first (from + 1) n) e, own_below node out first (from + 1) n (omega arith))
    by_test false e rest = omega (arith, fails (is_pair node out) (first, from) (own_outputs first (from + 1) n) e)

outputs_split : (node out first : ℕ) (kind : NodeKind) (more : List NodeKind) → count_by (is_pair node out) (outputs_in_order first (kind ∷ more)) ≡ count_by (is_pair node out) (own_outputs first 0 (outputs kind)) + count_by (is_pair node out) (outputs_in_order (suc first) more)
outputs_split node out first kind more =
    sum_by-append (ones (is_pair node out)) (own_outputs first 0 (outputs kind)) (outputs_in_order (suc first) more)

outputs_below : (node out first : ℕ) (all : List NodeKind) → node < first → count_by (is_pair node out) (outputs_in_order first all) ≡ 0
outputs_below node out first [] below = refl
outputs_below node out first (kind ∷ more) below =
    omega (arith, outputs_split node out first kind more, own_other node out first 0 (outputs kind) (ne_eqb first node (λ e. omega arith)), outputs_below node out (suc first) more (omega arith))

outputs_once : (node out first : ℕ) (all : List NodeKind) → count_by (is_pair node out) (outputs_in_order first all) ≤ 1
outputs_once node out first [] = omega arith
outputs_once node out first (kind ∷ more) = by_test (first == node) refl (outputs_once node out (suc first) more)
  where
    by_test : (b : Bool) → (first == node) ≡ b → count_by (is_pair node out) (outputs_in_order (suc first) more) ≤ 1 → count_by (is_pair node out) (outputs_in_order first (kind ∷ more)) ≤ 1
    by_test true e rest =
        let same : first ≡ node = eqb-true first node e in
        omega (arith, outputs_split node out first kind more, own_once node out first 0 (outputs kind), outputs_below node out (suc first) more (omega arith))
    by_test false e rest =
        omega (arith, outputs_split node out first kind more, own_other node out first 0 (outputs kind) e)

-- ---- in a plan

buses_once : (p : PlanData) (node out : ℕ) → IsPlan p → count_by (is_output node out) p.buses ≤ 1
buses_once p node out w =
    let whole : count_by (is_pair node out) (map output_of p.buses) ≤ 1 = subst (λ (os : List (ℕ × ℕ)). count_by (is_pair node out) os ≤ 1) (sym w.outputs_are) (outputs_once node out 0 (kinds p.nodes)) in
    subst (λ (n : ℕ). n ≤ 1) (count_by-map (is_pair node out) output_of p.buses) whole

counted : {X : Type 0} (p : X → Bool) (xs : List X) (k : ℕ) (x : X) → slice_get xs k ≡ Some x → p x ≡ true → 1 ≤ count_by p xs
counted p [] k x at e = absurd (none-some x at)
counted p (y ∷ xs) zero x at e = omega (arith, passes p y xs (ap p (same_Some y x at) ∙ e))
counted p (y ∷ xs) (suc k) x at e =
    omega (arith, counted p xs k x at e, sum_by-cons (ones p) y xs)

same_place : {X : Type 0} (p : X → Bool) (xs : List X) (j k : ℕ) (x y : X) → count_by p xs ≤ 1 → slice_get xs j ≡ Some x → p x ≡ true → slice_get xs k ≡ Some y → p y ≡ true → j ≡ k
same_place p [] j k x y once at_j e at_k f = absurd (none-some x at_j)
same_place p (z ∷ xs) zero zero x y once at_j e at_k f = refl
same_place p (z ∷ xs) zero (suc k) x y once at_j e at_k f =
    absurd (omega (arith, passes p z xs (ap p (same_Some z x at_j) ∙ e), counted p xs k y at_k f))
same_place p (z ∷ xs) (suc j) zero x y once at_j e at_k f =
    absurd (omega (arith, passes p z xs (ap p (same_Some z y at_k) ∙ f), counted p xs j x at_j e))
same_place p (z ∷ xs) (suc j) (suc k) x y once at_j e at_k f =
    ap suc (same_place p xs j k x y (omega (arith, sum_by-cons (ones p) z xs)) at_j e at_k f)

pub one_place : (p : PlanData) (node out j k : ℕ) (b c : Bus) → IsPlan p → slice_get p.buses j ≡ Some b → is_output node out b ≡ true → slice_get p.buses k ≡ Some c → is_output node out c ≡ true → j ≡ k
one_place p node out j k b c w = same_place (is_output node out) p.buses j k b c (buses_once p node out w)
