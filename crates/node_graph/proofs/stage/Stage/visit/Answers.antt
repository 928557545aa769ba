use Rattle.std.proofs.Common.{◌≡◌, ℕ, ◌≤◌, true, false, List, length, take, sym, ◌∙◌, ap, subst, arith}
use Rattle.std.specs.Prelude.{IsPermutation}
use Rattle.std.specs.Option.{option_map_or}
use Rattle.scene_model.specs.declared.bus.Bus.{Bus}
use Rattle.scene_model.specs.PlanData.{PlanData}
use Rattle.node_graph.specs.Attached.{attached, is_attached, count_of}
use Rattle.node_graph.specs.ListData.{AreInputsOf, is_kept}
use Rattle.node_graph.proofs.Counting.{one_if, length-attached}
use Rattle.node_graph.proofs.StageVisits.{written, list_written}
use Rattle.node_graph.proofs.stage.Stage.visit.Goals as goal

-- the same plan has the same buses
scanned : (p q : PlanData) (buses : List Bus) (node count : ℕ) (into new : List ℕ) → buses ≡ p.buses → p ≡ q → count ≤ length into → length new ≡ length into → ((k : ℕ) → count_of k (take count new) ≡ one_if (is_attached buses node k)) → (count ≡ length (attached q.buses node)) × IsPermutation (attached q.buses node) (take count new)
scanned p q buses node count into new same is within long each =
    written q.buses node count into new within long
    (subst (λ (bs : List Bus). (k : ℕ) → count_of k (take count new) ≡ one_if (is_attached bs node k)) (same ∙ ap (λ (r : PlanData). r.buses) is) each)

pub overflow_cast-result : goal.overflow_cast-result
overflow_cast-result c =
    let q = c.args.self.now in
    let few = c.buses-buses.ensures.plan.buses_most in
    let count = (scanned c.self.inside.plan q c.buses-buses.result.now c.args.node c.write_attached.result c.args.into.now c.write_attached.new.into c.buses-buses.ensures.value c.self.view_is c.write_attached.ensures.count c.write_attached.auto.into c.write_attached.ensures.each).0 in
    omega (arith, length-attached q.buses c.args.node, ap (λ (r : PlanData). length r.buses) c.self.view_is)

pub returns-then-is_empty-clause-count : goal.returns-then-is_empty-clause-count
returns-then-is_empty-clause-count c =
    (scanned c.self.inside.plan c.args.self.now c.buses-buses.result.now c.args.node c.write_attached.result c.args.into.now c.write_attached.new.into c.buses-buses.ensures.value c.self.view_is c.write_attached.ensures.count c.write_attached.auto.into c.write_attached.ensures.each).0

pub returns-then-is_empty-clause-written : goal.returns-then-is_empty-clause-written
returns-then-is_empty-clause-written c =
    (scanned c.self.inside.plan c.args.self.now c.buses-buses.result.now c.args.node c.write_attached.result c.args.into.now c.write_attached.new.into c.buses-buses.ensures.value c.self.view_is c.write_attached.ensures.count c.write_attached.auto.into c.write_attached.ensures.each).1

pub overflow_cast-result-2 : goal.overflow_cast-result-2
overflow_cast-result-2 c =
    let q = c.args.self.now in
    let are : AreInputsOf q c.self.inside.inputs.items = subst (λ (r : PlanData). AreInputsOf r c.self.inside.inputs.items) c.self.view_is c.self.invariant in
    let kept : option_map_or is_kept c.index_mut-input.result.now false ≡ true = sym c.is_kept.ensures ∙ c.if-not-is_kept.false in
    let few = c.buses-buses.ensures.plan.buses_most in
    let count = (list_written q c.self.inside.inputs.items c.args.node c.visit.result c.index_mut-input.result.now c.args.into.now c.visit.new.into are c.requires.node c.requires.input c.index_mut-input.ensures.value kept c.visit.ensures.listed c.visit.ensures.count c.visit.auto.into).0 in
    omega (arith, length-attached q.buses c.args.node, ap (λ (r : PlanData). length r.buses) c.self.view_is)

pub returns-clause-count : goal.returns-clause-count
returns-clause-count c =
    let q = c.args.self.now in
    let are : AreInputsOf q c.self.inside.inputs.items = subst (λ (r : PlanData). AreInputsOf r c.self.inside.inputs.items) c.self.view_is c.self.invariant in
    let kept : option_map_or is_kept c.index_mut-input.result.now false ≡ true = sym c.is_kept.ensures ∙ c.if-not-is_kept.false in
    (list_written q c.self.inside.inputs.items c.args.node c.visit.result c.index_mut-input.result.now c.args.into.now c.visit.new.into are c.requires.node c.requires.input c.index_mut-input.ensures.value kept c.visit.ensures.listed c.visit.ensures.count c.visit.auto.into).0

pub returns-clause-written : goal.returns-clause-written
returns-clause-written c =
    let q = c.args.self.now in
    let are : AreInputsOf q c.self.inside.inputs.items = subst (λ (r : PlanData). AreInputsOf r c.self.inside.inputs.items) c.self.view_is c.self.invariant in
    let kept : option_map_or is_kept c.index_mut-input.result.now false ≡ true = sym c.is_kept.ensures ∙ c.if-not-is_kept.false in
    (list_written q c.self.inside.inputs.items c.args.node c.visit.result c.index_mut-input.result.now c.args.into.now c.visit.new.into are c.requires.node c.requires.input c.index_mut-input.ensures.value kept c.visit.ensures.listed c.visit.ensures.count c.visit.auto.into).1
