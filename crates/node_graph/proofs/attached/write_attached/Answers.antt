use Rattle.std.proofs.Common.{ℕ, ◌+◌, List, sym, ◌∙◌, subst}
use Rattle.scene_model.proofs.Steps.{no_bus}
use Rattle.node_graph.proofs.Scanned.{IsScanned, scanned_more, scanned_same}
use Rattle.node_graph.proofs.attached.write_attached.Goals as goal
use Rattle.node_graph.proofs.attached.write_attached.Goals.{then-leads_to, else-leads_to}

pub loop-number-preserved : goal.loop-number-preserved
loop-number-preserved c =
    let buses = c.args.buses.now in
    let node = c.args.node in
    let i = c.loop-number.number in
    let count = c.loop-number.count in
    let into = c.args.into.now in
    elim c.if-leads_to.branch [
      | then-leads_to w ↦
          subst (λ (n : ℕ). IsScanned buses node (i + 1) n into c.if-leads_to.into) (sym w.count-is)
          (subst (λ (new : List ℕ). IsScanned buses node (i + 1) (count + 1) into new) (sym w.into-is)
          (scanned_more buses node i count no_bus into c.loop-number.into c.loop-number-test.true c.requires.room (sym c.leads_to.ensures ∙ w.if-leads_to.true) c.loop-number.invariant))
      | else-leads_to w ↦
          subst (λ (n : ℕ). IsScanned buses node (i + 1) n into c.if-leads_to.into) (sym w.count-is)
          (subst (λ (new : List ℕ). IsScanned buses node (i + 1) count into new) (sym w.into-is)
          (scanned_same buses node i count no_bus into c.loop-number.into c.loop-number-test.true (sym c.leads_to.ensures ∙ w.if-leads_to.false) c.loop-number.invariant))
    ]
