use Rattle.scene_view.proofs.Moving.{Stands}
use Rattle.scene_view.proofs.moment.plan_at.Given as goal

abbrev pub invariant-loop-time : goal.invariant-loop-time
invariant-loop-time l = Stands l.scene l.edits.items l.time l.place l.plan
