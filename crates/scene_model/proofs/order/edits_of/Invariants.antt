use Rattle.std.proofs.Common.{◌≡◌, ◌++◌, drop}
use Rattle.std.specs.Prelude.{filter, ◌==◌}
use Rattle.scene_model.specs.declared.order.NumberedEdit.{NumberedEdit}
use Rattle.scene_model.specs.Order.{numbered, edits_of}
use Rattle.scene_model.proofs.order.edits_of.Given as goal

abbrev pub invariant-loop-number : goal.invariant-loop-number
invariant-loop-number l =
    l.edits.items ++ filter (λ (e : NumberedEdit). e.row.editor == l.editor) (numbered l.number (drop l.number l.rows)) ≡ edits_of l.editor l.rows
