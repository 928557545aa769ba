-- Which table a seat is at.
use Rattle.std.specs.Prelude.{◌≡◌}
use Rattle.atomic_table.specs.declared.shared.Seat.{Seat}
use Rattle.exec_reel.specs.declared.cell.Cell.{Cell}
use Rattle.exec_reel.specs.declared.view.View.{View}
use Rattle.exec_reel.specs.declared.reel_table.ReelTable.{ReelTable}

-- the seat is one of this table, and knows its clip
abbrev pub IsAt : ReelTable → Seat Cell View → Type 0
IsAt t s = (s.table_id ≡ t.table.shared.table_id) × (s.me.0.clip ≡ t.opening.clip)

-- a seat after a step
abbrev pub Same : Seat Cell View → Seat Cell View → Type 0
Same s s' = (s'.table_id ≡ s.table_id) × (s'.id ≡ s.id)
