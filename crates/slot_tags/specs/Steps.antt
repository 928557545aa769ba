-- What each kind of step makes of a view, and what it tells.
use Rattle.std.specs.Prelude.{◌≡◌, ℕ, ◌+◌, ◌*◌, ◌%◌, ◌^◌, ◌<◌, cond, ◌==◌, List, [], ◌∷◌, ◌++◌, Option, None}
use Rattle.std.specs.Int.{bit_at, trailing_zeros, w64}
use base.Stored.{Gv}
use Rattle.atomic_table.specs.Table.{Step, Me, rest}
use Rattle.slot_tags.specs.declared.view.Role.{Role}
use Rattle.slot_tags.specs.declared.view.Role.TheVariants.{Splitter, Free, Won, Held, Open, Given, Spent}
use Rattle.slot_tags.specs.declared.view.Note.{Note}
use Rattle.slot_tags.specs.declared.view.Note.TheVariants.{Split, FetchOr, FetchAdd, FetchAnd, Join}
use Rattle.slot_tags.specs.declared.view.JobCode.{JobCode}
use Rattle.slot_tags.specs.declared.view.Sizes.{Sizes}
use Rattle.slot_tags.specs.declared.view.View.{View}
use Rattle.slot_tags.specs.Rule.{code_of}

abbrev pub first_view : Sizes → View
first_view k = record { role = Splitter; last = k.last; slot = 0; number = 0; job = None; notes = []; given = [] }

abbrev pub spent : View
spent = record { role = Spent; last = 0; slot = 0; number = 0; job = None; notes = []; given = [] }

abbrev pub noted : Note → View → View
noted x v = record v { notes = v.notes ++ x ∷ [] }

abbrev pub unchanged : View → View
unchanged v = v

-- the two views of a split
abbrev pub split_off : View → View
split_off v = noted Split v

abbrev pub new_tag : View → View
new_tag v = record v { role = Free; notes = [] }

abbrev pub new_slot_seat : View → View
new_slot_seat v = record v { notes = []; given = [] }

-- the tag that a seat of this role gives back when it is joined
abbrev pub returned_as : Role → ℕ → ℕ → List (ℕ × ℕ)
returned_as Held slot number = (slot, number) ∷ []
returned_as Given slot number = (slot, number) ∷ []
returned_as _ slot number = []

-- the slot seat's view once a tag's is joined: it takes over the notes, and keeps the tag among those given back
abbrev pub joined : View → View → View
joined v w = record v { notes = (v.notes ++ w.notes) ++ Join ∷ []; given = v.given ++ returned_as w.role w.slot w.number }

-- the bit was found clear, so the slot is won; or it was set
abbrev pub tried : ℕ → ℕ → View → View
tried s n v = cond (bit_at n (s % 32) == 0) (record v { role = Won; slot = s; notes = v.notes ++ FetchOr s n ∷ [] }) (noted (FetchOr s n) v)

abbrev pub counted : ℕ → View → View
counted n v = record v { role = Held; number = n + 1; job = None; notes = v.notes ++ FetchAdd v.slot n ∷ [] }

abbrev pub opened : View → View
opened v = record v { role = Open }

abbrev pub closed : Option JobCode → View → View
closed job v = record v { role = Held; job = job }

abbrev pub cleared : ℕ → View → View
cleared n v = record v { role = Given; notes = v.notes ++ FetchAnd v.slot n ∷ []; given = v.given ++ (v.slot, v.number) ∷ [] }

-- each tag of the slot in the list has a lower number
abbrev pub IsNewer : ℕ → ℕ → List (ℕ × ℕ) → Type 0
IsNewer slot number [] = Unit {0}
IsNewer slot number (x ∷ xs) = (x.0 ≡ slot → x.1 < number) × IsNewer slot number xs

module _ {J : Type 0} where
  -- the slot whose bit the step's operand is
  abbrev pub slot_of : Step (Option J) → ℕ
  slot_of s = 32 * s.word + trailing_zeros w64 s.first

  -- what the cell taken last holds
  abbrev pub top : List (ℕ × Option J) → Option J
  top [] = None
  top (x ∷ xs) = x.1

  abbrev pub SetBit : Step (Option J) → Me (Option J) View → ℕ → Me (Option J) View → Type 0
  SetBit s me n now = now ≡ (tried (slot_of s) n me.0, me.1)

  abbrev pub CountedUp : Step (Option J) → Me (Option J) View → ℕ → Me (Option J) View → Type 0
  CountedUp s me n now = (now ≡ (counted n me.0, me.1)) × (n < me.0.last) × (n + 1 < 2 ^ 32) × IsNewer me.0.slot (n + 1) me.0.given

  abbrev pub OpenedCell : (J → Gv) → Step (Option J) → Me (Option J) View → ℕ → Me (Option J) View → Type 0
  OpenedCell code s me n now = (x : Option J) × (code_of code x ≡ me.0.job) × (now ≡ (opened me.0, (me.0.slot, x) ∷ me.1))

  abbrev pub ClosedCell : (J → Gv) → Step (Option J) → Me (Option J) View → ℕ → Me (Option J) View → Type 0
  ClosedCell code s me n now = now ≡ (closed (code_of code (top me.1)) me.0, rest me.1)

  abbrev pub ClearedBit : Step (Option J) → Me (Option J) View → ℕ → Me (Option J) View → Type 0
  ClearedBit s me n now = (now ≡ (cleared n me.0, me.1)) × (bit_at n (me.0.slot % 32) ≡ 1)
