-- The seats of a list's table: whose they are, and what a call leaves as it was.
use Rattle.std.specs.Prelude.{◌≡◌, ℕ, List, [], ◌∷◌, ◌++◌, Option, true}
use Rattle.std.specs.Arc.{arc_value}
use Rattle.atomic_table.specs.declared.shared.Seat.{Seat}
use Rattle.atomic_table.specs.Table.{Me}
use Rattle.bus_list.specs.declared.view.Phase.{Phase}
use Rattle.bus_list.specs.declared.view.Phase.TheVariants.{Idle, FlagCleared}
use Rattle.bus_list.specs.declared.view.View.{View}
use Rattle.bus_list.specs.declared.table.ListTable.{ListTable}
use Rattle.bus_list.specs.Invariant.{last_of}
use Rattle.bus_list.specs.Transitions.{at, flag_cleared, unlinked}
use Rattle.bus_list.specs.Visits.{attached_feed}

-- The bus stands in the chain, and this is what leads to it: the bus before it, or the dummy, which is N.
abbrev pub IsPredecessor : ℕ → ℕ → ℕ → List ℕ → Type 0
IsPredecessor N bus predecessor chain = (xs : List ℕ) × (ys : List ℕ) × (chain ≡ xs ++ bus ∷ ys) × (last_of N xs ≡ predecessor)

module _ {F : Type 0} where
  -- The seat is one of the list's table.
  abbrev pub IsAt : ListTable F → Seat (Option F) (View F) → Type 0
  IsAt list seat = seat.table_id ≡ (arc_value list.table).shared.table_id

  -- It is, and has the pass's part, or the editor's.
  abbrev pub IsPassOf : ListTable F → Seat (Option F) (View F) → Type 0
  IsPassOf list seat = IsAt list seat × (seat.me.0.reads ≡ true)

  abbrev pub IsEditorOf : ListTable F → Seat (Option F) (View F) → Type 0
  IsEditorOf list seat = IsAt list seat × (seat.me.0.is_editor ≡ true)

  -- It is the same seat as before.
  abbrev pub SameSeat : Seat (Option F) (View F) → Seat (Option F) (View F) → Type 0
  SameSeat old new = (new.table_id ≡ old.table_id) × (new.id ≡ old.id)

  -- What the pass knows is as before.
  abbrev pub SameReading : View F → View F → Type 0
  SameReading v w = (w.reads ≡ v.reads) × (w.reading ≡ v.reading)

  -- The phase of the edit has changed, and the notes, and nothing else.
  pub record OnlyPhase (phase : Phase F) (me then : Me (Option F) (View F)) : Type 0 where
    pub editing : then.0.editing ≡ at phase me.0.editing
    pub links : then.0.links ≡ me.0.links
    pub is_editor : then.0.is_editor ≡ me.0.is_editor
    pub reads : then.0.reads ≡ me.0.reads
    pub reading : then.0.reading ≡ me.0.reading
    pub holds : then.1 ≡ me.1

  -- The bus was detached and unlinked. Of the rest, only the copy of the links has changed, and the notes.
  pub record IsUnlinked (bus : ℕ) (me then : Me (Option F) (View F)) : Type 0 where
    pub editing : then.0.editing ≡ unlinked (FlagCleared bus (attached_feed me.0.editing.history bus)) (flag_cleared bus me.0.editing)
    pub is_editor : then.0.is_editor ≡ me.0.is_editor
    pub reads : then.0.reads ≡ me.0.reads
    pub reading : then.0.reading ≡ me.0.reading
    pub holds : then.1 ≡ me.1

  -- The edit is over. Of the rest, only the notes have changed.
  pub record IsTakenOut (me then : Me (Option F) (View F)) : Type 0 where
    pub editing : then.0.editing ≡ at Idle me.0.editing
    pub links : then.0.links ≡ me.0.links
    pub is_editor : then.0.is_editor ≡ me.0.is_editor
    pub reads : then.0.reads ≡ me.0.reads
    pub reading : then.0.reading ≡ me.0.reading
    pub holds : then.1 ≡ []
