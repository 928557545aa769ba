-- Nodes are marked bus by bus, from the last bus of the order to the first.
use Rattle.std.proofs.Common.{◌≡◌, ◌≢◌, ℕ, ◌+◌, ◌<◌, ◌≤◌, Bool, true, false, ◌&&◌, ◌||◌, eqb, List, length, get_or, take, drop, Some, refl, sym, ◌∙◌, ap, subst, arith}
use Rattle.std.specs.Prelude.{All}
use Rattle.std.proofs.lemmas.Bool.{eqb-true}
use Rattle.std.proofs.lemmas.List.{take-append-drop, drop_more, length-take, get_or-take, get_or_default}
use Rattle.std.proofs.lemmas.List.Folds.{list_any-append, list_any_none}
use Rattle.scene_model.specs.declared.bus.Bus.{Bus}
use Rattle.scene_model.specs.PlanData.{PlanData}
use Rattle.scene_model.specs.Reach.{HasNoCycle, target_passes}
use Rattle.mix_model.specs.Pulled.{node, endpoint, is_active, leads_to_any, pulled}
use Rattle.mix_model.specs.OrderedBuses.{no_bus, IsOrdered, mark_at, IsMarked}
use Rattle.mix_model.proofs.Pulls.{passes_same, pulled-solves}

-- the marks are what the buses from one place on make of them
abbrev pub IsMarkedBy : PlanData → ℕ → ℕ → List Bool → Type 0
IsMarkedBy p t i marks =
    (n : ℕ) → n ≤ endpoint p → mark_at marks n ≡ (eqb n (endpoint p) || (is_active t (node p n) && leads_to_any (drop i p.buses) (pulled p t) n))

-- where no bus before the place is the node's, those from it on tell all
later_only : (buses : List Bus) (q : ℕ → Bool) (i n : ℕ) → ((k : ℕ) → k < i → k < length buses → (get_or buses k no_bus).node ≢ n) → leads_to_any (drop i buses) q n ≡ leads_to_any buses q n
later_only buses q i n others =
    sym (ap (λ bs. leads_to_any bs q n) (sym (take-append-drop i buses)) ∙ list_any-append leads (take i buses) (drop i buses) ∙ ap (λ x. x || leads_to_any (drop i buses) q n) (list_any_none leads (take i buses) none))
  where
    leads : Bus → Bool
    leads b = eqb b.node n && target_passes q b.to

    not_own : (own x : Bool) → (own ≡ true → ⊥) → (own && x) ≡ false
    not_own true x no_way = absurd (no_way refl)
    not_own false x no_way = refl

    none : All (λ (b : Bus). leads b ≡ false) (take i buses)
    none k d within =
        let inside : k < i = omega (arith, length-take i buses) in
        let short : k < length buses = omega (arith, length-take i buses) in
        let same : get_or (take i buses) k d ≡ get_or buses k no_bus = get_or-take i buses k d inside ∙ get_or_default buses k d no_bus short in
        rw same (not_own (eqb (get_or buses k no_bus).node n) _ (λ e. others k inside short (eqb-true _ n e)))

one_more : (endpoint active rest own own_active passes : Bool) → (own ≡ true → own_active ≡ active) → ((endpoint || (active && rest)) || (own && own_active && passes)) ≡ (endpoint || (active && ((own && passes) || rest)))
one_more true active rest own own_active passes same = refl
one_more false true true true own_active true same = refl
one_more false true true true own_active false same = refl
one_more false true false true own_active passes same = rw (same refl) (swapped passes)
  where
    swapped : (x : Bool) → x ≡ (x || false)
    swapped true = refl
    swapped false = refl
one_more false false rest true own_active passes same = rw (same refl) refl
one_more false true true false own_active passes same = refl
one_more false true false false own_active passes same = refl
one_more false false rest false own_active passes same = refl

pub marked_more : (p : PlanData) (t i at before : ℕ) (old new : List Bool) → at ≡ i → before ≡ i + 1 → HasNoCycle p.buses → IsOrdered p.buses → i < length p.buses → endpoint p < length old
    → ((to : ℕ) → (get_or p.buses at no_bus).to ≡ Some to → to ≤ endpoint p)
    → IsMarkedBy p t before old → IsMarked p t (get_or p.buses at no_bus) old new → IsMarkedBy p t i new
marked_more p t i at before old new at_is before_is none ordered within long inside so_far marked n le =
    let b = get_or p.buses i no_bus in
    let same : get_or p.buses at no_bus ≡ b = ap (λ k. get_or p.buses k no_bus) at_is in
    let step : IsMarked p t b old new = subst (λ (x : Bus). IsMarked p t x old new) same marked in
    let marks : IsMarkedBy p t (i + 1) old = subst (λ (k : ℕ). IsMarkedBy p t k old) before_is so_far in
    let settled = passes_same (mark_at old) (pulled p t) b.to (λ to e. target_is b to same marks e) in
    step n (omega arith)
    ∙ ap (λ x. mark_at old n || (eqb b.node n && is_active t (node p b.node) && x)) settled
    ∙ ap (λ x. x || (eqb b.node n && is_active t (node p b.node) && target_passes (pulled p t) b.to)) (marks n le)
    ∙ one_more (eqb n (endpoint p)) (is_active t (node p n)) (leads_to_any (drop (i + 1) p.buses) (pulled p t) n) (eqb b.node n) (is_active t (node p b.node)) (target_passes (pulled p t) b.to)
    (λ e. ap (λ k. is_active t (node p k)) (eqb-true b.node n e))
    ∙ ap (λ bs. eqb n (endpoint p) || (is_active t (node p n) && leads_to_any bs (pulled p t) n)) (sym (drop_more p.buses i no_bus within))
  where
    target_is : (b : Bus) (to : ℕ) → get_or p.buses at no_bus ≡ get_or p.buses i no_bus → IsMarkedBy p t (i + 1) old → (get_or p.buses i no_bus).to ≡ Some to → mark_at old to ≡ pulled p t to
    target_is b to same marks e =
        let bound : to ≤ endpoint p = inside to (ap (λ (x : Bus). x.to) same ∙ e) in
        marks to bound
        ∙ ap (λ x. eqb to (endpoint p) || (is_active t (node p to) && x))
        (later_only p.buses (pulled p t) (i + 1) to (λ k below short own. ordered k i (omega arith) within (e ∙ ap Some (sym own))))
        ∙ sym (pulled-solves p t none to)

-- when all buses are looked at the marks are what is pulled
pub marked_all : (p : PlanData) (t i : ℕ) (marks : List Bool) → HasNoCycle p.buses → i ≡ 0 → IsMarkedBy p t i marks → (n : ℕ) → n ≤ endpoint p → mark_at marks n ≡ pulled p t n
marked_all p t i marks none start is n le =
    let all : IsMarkedBy p t 0 marks = subst (λ (k : ℕ). IsMarkedBy p t k marks) start is in
    all n le ∙ sym (pulled-solves p t none n)
