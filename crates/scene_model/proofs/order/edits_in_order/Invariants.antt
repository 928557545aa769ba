use Rattle.std.proofs.Common.{◌≡◌, ◌++◌, drop}
use Rattle.scene_model.specs.Order.{numbered}
use Rattle.scene_model.proofs.order.edits_in_order.Given as goal

abbrev pub invariant-loop-number : goal.invariant-loop-number
invariant-loop-number l = l.edits.items ++ numbered l.number (drop l.number l.rows) ≡ numbered 0 l.rows
