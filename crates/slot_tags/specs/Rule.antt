-- The rule of tags.
-- The bit of the slot s is bit s % 32 of word s / 32, and its counter the word that lies s words after the last group. The slots of the table are the cells.
use Rattle.std.specs.Prelude.{◌≡◌, ◌⊎◌, ℕ, ◌+◌, ◌*◌, ◌/◌, ◌%◌, ◌^◌, ◌≤◌, ◌<◌, List, [], ◌∷◌, length, slice_index, Option, Some, None}
use Rattle.std.specs.Int.{bit_at}
use mathlib.Core.Option.{some, none}
use lib.ListN.{get_elem?}
use base.Stored.{Gv}
use Rattle.atomic_table.specs.Table.{State}
use Rattle.slot_tags.specs.declared.view.Role.{Role}
use Rattle.slot_tags.specs.declared.view.Role.TheVariants.{Splitter, Free, Won, Held, Open, Given, Spent}
use Rattle.slot_tags.specs.declared.view.JobCode.{JobCode}
use Rattle.slot_tags.specs.declared.view.Sizes.{Sizes}
use Rattle.slot_tags.specs.declared.view.View.{View}

-- bit, counter and cell by slot; a cell is out, or at home with a job or with none
pub record Slots (S : Type 0) : Type 0 where
  pub bit : ℕ → ℕ
  pub count : ℕ → ℕ
  pub cell : ℕ → mathlib.Core.Option.Option (mathlib.Core.Option.Option S)

abbrev pub slots_of : {S : Type 0} → ℕ → List ℕ → List (mathlib.Core.Option.Option S) → Slots S
slots_of groups words homes = record {
  bit = λ s. bit_at (slice_index words (s / 32)) (s % 32);
  count = λ s. slice_index words (groups + s);
  cell = λ s. get_elem? homes s;
}

-- a view of this role has the slot s
abbrev pub HasSlot : Role → ℕ → ℕ → Type 0
HasSlot Splitter slot s = ⊥
HasSlot Free slot s = ⊥
HasSlot Won slot s = slot ≡ s
HasSlot Held slot s = slot ≡ s
HasSlot Open slot s = slot ≡ s
HasSlot Given slot s = ⊥
HasSlot Spent slot s = ⊥

-- a view that isn't spent knows the last number
abbrev pub KnowsLast : Role → ℕ → ℕ → Type 0
KnowsLast Spent known last = Unit {0}
KnowsLast _ known last = known ≡ last

-- each tag in the list has a number that its slot's counter has reached
abbrev pub ArePast : (ℕ → ℕ) → List (ℕ × ℕ) → Type 0
ArePast count [] = Unit {0}
ArePast count (x ∷ xs) = (x.1 ≤ count x.0) × ArePast count xs

-- a seat with this role, number and job may be joined: it has no slot, or its slot's tag is empty and has the last number
abbrev pub CanEnd : ℕ → Role → ℕ → Option JobCode → Type 0
CanEnd last Free number job = Unit {0}
CanEnd last Given number job = Unit {0}
CanEnd last Held number job = (last ≤ number) × (job ≡ None)
CanEnd last _ number job = ⊥

module _ {J : Type 0} where
  -- the code of what a cell holds
  abbrev pub code_of : (J → Gv) → Option J → Option JobCode
  code_of code None = None
  code_of code (Some x) = Some record { code = code x }

  -- the slot's cell is at home, and holds this job
  abbrev pub Lies : (J → Gv) → Slots (Option J) → ℕ → Option JobCode → Type 0
  Lies code t slot job = (x : Option J) × (t.cell slot ≡ some (some x)) × (code_of code x ≡ job)

  -- what is so of a view's slot
  abbrev pub HoldsAs : (J → Gv) → Role → ℕ → Slots (Option J) → ℕ → ℕ → Option JobCode → Type 0
  HoldsAs code Splitter last t slot number job = Unit {0}
  HoldsAs code Free last t slot number job = Unit {0}
  HoldsAs code Won last t slot number job = (t.count slot < last) × (t.cell slot ≡ some (some None))
  HoldsAs code Held last t slot number job = (t.count slot ≡ number) × (number ≤ last) × Lies code t slot job
  HoldsAs code Open last t slot number job = (t.count slot ≡ number) × (number ≤ last) × (t.cell slot ≡ some none)
  HoldsAs code Given last t slot number job = number ≤ t.count slot
  HoldsAs code Spent last t slot number job = Unit {0}

  -- a slot that no view has is free, or its counter has reached the last number; its cell is at home and empty
  abbrev pub Stands : ℕ → Slots (Option J) → List View → ℕ → mathlib.Core.Option.Option ℕ → Type 0
  Stands last t views s none = (t.cell s ≡ some (some None)) × (((t.bit s ≡ 0) × (t.count s < last)) ⊎ ((t.bit s ≡ 1) × (t.count s ≡ last)))
  Stands last t views s (some i) = (t.bit s ≡ 1) × ((v : View) × (get_elem? views i ≡ some v) × HasSlot v.role v.slot s)

  -- the view v of the seat i, where `owner` tells which seat has a slot
  pub record Knows (code : J → Gv) (slots last : ℕ) (t : Slots (Option J)) (owner : ℕ → mathlib.Core.Option.Option ℕ) (i : ℕ) (v : View) : Type 0 where
    pub owns : (s : ℕ) → HasSlot v.role v.slot s → (s < slots) × (owner s ≡ some i)
    pub limit : KnowsLast v.role v.last last
    pub holds : HoldsAs code v.role last t v.slot v.number v.job
    pub past : ArePast t.count v.given

  pub record Tagged (code : J → Gv) (slots last : ℕ) (t : Slots (Option J)) (views : List View) : Type 0 where
    pub owner : ℕ → mathlib.Core.Option.Option ℕ
    pub slot : (s : ℕ) → s < slots → Stands last t views s (owner s)
    pub seat : (i : ℕ) (v : View) → get_elem? views i ≡ some v → Knows code slots last t owner i v

  pub record Kept (code : J → Gv) (k : Sizes) (s : State (Option J) View) : Type 0 where
    pub words : length s.words ≡ 33 * k.groups
    pub homes : length s.homes ≡ 32 * k.groups
    pub bound : k.last < 2 ^ 32
    pub tagged : Tagged code (32 * k.groups) k.last (slots_of k.groups s.words s.homes) s.views
