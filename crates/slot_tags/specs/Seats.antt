-- Which table a seat is at.
use Rattle.std.specs.Prelude.{◌≡◌, Option}
use Rattle.atomic_table.specs.declared.shared.Seat.{Seat}
use Rattle.slot_tags.specs.declared.view.View.{View}
use Rattle.slot_tags.specs.declared.step_table.StepTable.{StepTable}

module _ {J : Type 0} where
  abbrev pub IsAt : StepTable J → Seat (Option J) View → Type 0
  IsAt t s = s.table_id ≡ t.table.shared.table_id

  -- a seat after a step
  abbrev pub Same : Seat (Option J) View → Seat (Option J) View → Type 0
  Same s s' = (s'.table_id ≡ s.table_id) × (s'.id ≡ s.id)
