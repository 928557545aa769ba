-- What is pulled in a plan without a cycle solves its equations, and nothing else does.
use Rattle.std.proofs.Common.{◌≡◌, ℕ, suc, ◌-◌, ◌<◌, ◌≤◌, Bool, true, false, ◌&&◌, ◌||◌, eqb, List, [], ◌∷◌, length, Option, Some, None, refl, sym, ◌∙◌, ap, arith}
use Rattle.std.specs.Prelude.{Contains}
use Rattle.std.specs.List.{list_any}
use Rattle.std.specs.List.Sorted.{IsPermutation}
use Rattle.std.proofs.lemmas.Bool.{eqb-true}
use Rattle.std.proofs.lemmas.List.Sorted.{length_permutation, list_any-IsPermutation}
use Rattle.scene_model.specs.declared.bus.Bus.{Bus}
use Rattle.scene_model.specs.PlanData.{PlanData}
use Rattle.scene_model.specs.Reach.{HasNoCycle, target_passes}
use Rattle.scene_model.proofs.Reachable.{Contains_first, Contains_later}
use Rattle.mix_model.specs.Pulled.{node, endpoint, is_active, leads_to_any, pulled_by, pulled}
use Rattle.mix_model.specs.Iteration.{iterate, Solves}
use Rattle.mix_model.proofs.Ranks.{Ranked, ranked}
use Rattle.mix_model.proofs.Iterating.{LooksDown, iterate-solves, iterate-only, iterate-same}

any_same : {X : Type 0} (p q : X → Bool) (xs : List X) → ((x : X) → Contains xs x → p x ≡ q x) → list_any p xs ≡ list_any q xs
any_same p q [] same = refl
any_same p q (x ∷ xs) same =
    let here = same x (Contains_first x xs) in
    let rest = any_same p q xs (λ y among. same y (Contains_later x xs y among)) in
    cc

pub passes_same : (p q : ℕ → Bool) (o : Option ℕ) → ((to : ℕ) → o ≡ Some to → p to ≡ q to) → target_passes p o ≡ target_passes q o
passes_same p q None same = refl
passes_same p q (Some to) same = same to refl

-- whether a bus leads from the node to one that passes hangs on its target alone, and on that only where it is the node's
leads_same : (p q : ℕ → Bool) (n : ℕ) (b : Bus) → (b.node ≡ n → (to : ℕ) → b.to ≡ Some to → p to ≡ q to) → (eqb b.node n && target_passes p b.to) ≡ (eqb b.node n && target_passes q b.to)
leads_same p q n b same = by_test (eqb b.node n) (λ e. passes_same p q b.to (same (eqb-true b.node n e)))
  where
    by_test : (own : Bool) → (own ≡ true → target_passes p b.to ≡ target_passes q b.to) → (own && target_passes p b.to) ≡ (own && target_passes q b.to)
    by_test true is = is refl
    by_test false is = refl

pub leads_to_any-same : (buses : List Bus) (p q : ℕ → Bool) (n : ℕ) → ((b : Bus) → Contains buses b → b.node ≡ n → (to : ℕ) → b.to ≡ Some to → p to ≡ q to) → leads_to_any buses p n ≡ leads_to_any buses q n
leads_to_any-same buses p q n same =
    any_same (λ (b : Bus). eqb b.node n && target_passes p b.to) (λ (b : Bus). eqb b.node n && target_passes q b.to) buses
    (λ b among. leads_same p q n b (same b among))

-- how far a rank is from the greatest
down_from : ℕ → (ℕ → ℕ) → ℕ → ℕ
down_from most rank n = most - rank n

down_from-at_most : (most : ℕ) (rank : ℕ → ℕ) (n : ℕ) → down_from most rank n ≤ most
unfolding down_from
down_from-at_most most rank n = omega arith

down_from-less : (most : ℕ) (rank : ℕ → ℕ) (n to : ℕ) → rank n < rank to → rank to ≤ most → down_from most rank to < down_from most rank n
unfolding down_from
down_from-less most rank n to lt le = omega arith

pulls_look_down : (p : PlanData) (t : ℕ) (rank : ℕ → ℕ) → Ranked p.buses rank → LooksDown (down_from (length p.buses) rank) (pulled_by p t)
pulls_look_down p t rank raised = record {
  looks = λ v w n same.
      ap (λ x. eqb n (endpoint p) || (is_active t (node p n) && x))
      (leads_to_any-same p.buses v w n
      (λ b among own to e.
      let up : rank n < rank to = rw (← own) (raised.rises b among to e) in
      same to (down_from-less (length p.buses) rank n to up (raised.bounded to))));
}

pub pulled-solves : (p : PlanData) (t : ℕ) → HasNoCycle p.buses → Solves (pulled_by p t) (pulled p t)
unfolding pulled
pulled-solves p t none =
    let r = ranked p.buses none in
    iterate-solves (down_from (length p.buses) r.0) (pulled_by p t) false (length p.buses) (pulls_look_down p t r.0 r.1) (down_from-at_most (length p.buses) r.0)

pub pulled-only : (p : PlanData) (t : ℕ) → HasNoCycle p.buses → (v : ℕ → Bool) → Solves (pulled_by p t) v → (n : ℕ) → v n ≡ pulled p t n
unfolding pulled
pulled-only p t none v solves =
    let r = ranked p.buses none in
    iterate-only (down_from (length p.buses) r.0) (pulled_by p t) false (length p.buses) (pulls_look_down p t r.0 r.1) (down_from-at_most (length p.buses) r.0) v solves

pub pulled-reordered : (p : PlanData) (buses : List Bus) (t n : ℕ) → IsPermutation p.buses buses → pulled (record { nodes = p.nodes; buses = buses }) t n ≡ pulled p t n
unfolding pulled
pulled-reordered p buses t n moved =
    let q : PlanData = record { nodes = p.nodes; buses = buses } in
    let count = length_permutation p.buses buses moved in
    ap (λ k. iterate (pulled_by q t) false (suc k) n) count
    ∙ iterate-same (pulled_by q t) (pulled_by p t) false
    (λ v w same k.
    ap (λ x. eqb k (endpoint p) || (is_active t (node p k) && x))
    (sym (list_any-IsPermutation (λ (b : Bus). eqb b.node k && target_passes v b.to) p.buses buses moved)
    ∙ leads_to_any-same p.buses v w k (λ b among own to e. same to)))
    (suc (length p.buses)) n
