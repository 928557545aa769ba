use Rattle.std.proofs.Common.{arith, ◌≡◌, ◌||◌, Bool, true, false, length, get_or, ◌∙◌, ap, sym, refl}
use Rattle.std.specs.Prelude.{slice_index}
use Rattle.scene_model.specs.PlanData.{PlanData}
use Rattle.scene_model.specs.Plans.{after}
use Rattle.mix_model.specs.Due.{frame_at, no_edit}
use Rattle.mix_model.specs.Mix.{cursor_after_edit}
use Rattle.mix_model.proofs.DueEdits.{fold_here, fold_all, later_from, can_after, nodes_after, below_more_from}
use Rattle.engine.proofs.EditsMade.{buses_after}
use Rattle.engine.proofs.edits.make_due.Goals as goal

neither : (a b : Bool) → a || b ≡ false → (a ≡ false) × (b ≡ false)
neither true b none = cc
neither false b none = (refl, none)

pub loop-next-preserved : goal.loop-next-preserved
loop-next-preserved c =
    let edits = c.args.edits.now in
    let i = c.loop-next.next in
    let t = c.args.time in
    let now = c.loop-next.invariant in
    let edit = (get_or edits i no_edit).row.edit in
    record {
      within = omega arith;
      least = omega arith;
      made = below_more_from c.args.place i (λ k. frame_at edits k ≡ t) now.made c.if-edits-next.true;
      can = rw c.edit.ensures.after (can_after c.loop-next.stage edits i c.loop-next-test.true now.can);
      same = λ none.
          let each = neither c.loop-next.buses c.is_of_bus-buses.result none in
          ap (λ (p : PlanData). p.buses) c.edit.ensures.after ∙ buses_after c.loop-next.stage edit (sym c.is_of_bus-buses.ensures ∙ each.1) ∙ now.same each.0;
      nodes = ap (λ (p : PlanData). length p.nodes) c.edit.ensures.after ∙ nodes_after c.loop-next.stage edit ∙ now.nodes;
      plan = fold_here after c.loop-next.stage c.edit.new.self edits i t c.loop-next-test.true c.if-edits-next.true c.edit.ensures.after ∙ now.plan;
      cursors = λ n. fold_here (cursor_after_edit n (slice_index c.args.frames.now n)) (slice_index c.loop-next.cursors n) (slice_index c.seek.new.cursors n) edits i t c.loop-next-test.true c.if-edits-next.true (c.seek.ensures n) ∙ now.cursors n;
    }

pub returns-else-edits-next-clause-plan : goal.returns-else-edits-next-clause-plan
returns-else-edits-next-clause-plan c =
    let edits = c.args.edits.now in
    let i = c.loop-next.next in
    let next = c.requires.next in
    fold_all after c.args.stage.now c.loop-next.stage edits c.args.place i c.args.time next.within next.earlier
    (later_from edits i c.args.time c.requires.order c.if-edits-next.false (next.waiting i c.loop-next.invariant.least c.loop-next-test.true)) c.loop-next.invariant.plan

pub returns-else-edits-next-clause-cursors : goal.returns-else-edits-next-clause-cursors
returns-else-edits-next-clause-cursors c =
    let edits = c.args.edits.now in
    let i = c.loop-next.next in
    let next = c.requires.next in
    λ n. fold_all (cursor_after_edit n (slice_index c.args.frames.now n)) (slice_index c.args.cursors.now n) (slice_index c.loop-next.cursors n) edits c.args.place i c.args.time next.within next.earlier
    (later_from edits i c.args.time c.requires.order c.if-edits-next.false (next.waiting i c.loop-next.invariant.least c.loop-next-test.true)) (c.loop-next.invariant.cursors n)

pub returns-after-loop-next-clause-plan : goal.returns-after-loop-next-clause-plan
returns-after-loop-next-clause-plan c =
    let next = c.requires.next in
    fold_all after c.args.stage.now c.loop-next.stage c.args.edits.now c.args.place c.loop-next.next c.args.time next.within next.earlier (λ k le lt. absurd (omega arith)) c.loop-next.invariant.plan

pub returns-after-loop-next-clause-cursors : goal.returns-after-loop-next-clause-cursors
returns-after-loop-next-clause-cursors c =
    let next = c.requires.next in
    λ n. fold_all (cursor_after_edit n (slice_index c.args.frames.now n)) (slice_index c.args.cursors.now n) (slice_index c.loop-next.cursors n) c.args.edits.now c.args.place c.loop-next.next c.args.time next.within next.earlier (λ k le lt. absurd (omega arith)) (c.loop-next.invariant.cursors n)
