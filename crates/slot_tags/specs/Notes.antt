-- The notes of a call.
use Rattle.std.specs.Prelude.{◌≡◌, ℕ, ◌+◌, ◌%◌, ◌≤◌, ◌<◌, List, [], ◌∷◌, ◌++◌, length, Option, Some, None}
use Rattle.std.specs.Int.{bit_at}
use Rattle.atomic_table.specs.Table.{Me}
use Rattle.slot_tags.specs.declared.view.Role.TheVariants.{Won}
use Rattle.slot_tags.specs.declared.view.Note.{Note}
use Rattle.slot_tags.specs.declared.view.Note.TheVariants.{Split, FetchOr, FetchAdd, FetchAnd, Join}
use Rattle.slot_tags.specs.declared.view.View.{View}

-- a fetch_or of the slot's bit, which found it set
abbrev pub FoundSet : ℕ → Note → Type 0
FoundSet slot (FetchOr s found) = (s ≡ slot) × (bit_at found (slot % 32) ≡ 1)
FoundSet slot _ = ⊥

-- one such fetch_or of each slot from this one on, in order
abbrev pub EachFoundSet : ℕ → List Note → Type 0
EachFoundSet slot [] = Unit {0}
EachFoundSet slot (x ∷ xs) = FoundSet slot x × EachFoundSet (slot + 1) xs

-- the notes of a tag that was taken: one fetch_or of each lower slot, which found its bit set; one of the tag's slot, which found its bit clear; and one fetch_add, which found the tag's number less 1
pub record Took (slot number : ℕ) (notes : List Note) : Type 0 where
  pub lower : List Note
  pub found : ℕ
  pub before : ℕ
  pub notes_are : notes ≡ (lower ++ FetchOr slot found ∷ []) ++ FetchAdd slot before ∷ []
  pub each_lower : length lower ≡ slot
  pub lower_set : EachFoundSet 0 lower
  pub clear : bit_at found (slot % 32) ≡ 0
  pub number_is : number ≡ before + 1

-- the notes of a seat whose table was full: one split, one fetch_or of each slot, which found its bit set, and one join
pub record WasFull (capacity : ℕ) (old new : List Note) : Type 0 where
  pub tries : List Note
  pub notes_are : new ≡ ((old ++ Split ∷ []) ++ tries) ++ Join ∷ []
  pub each : length tries ≡ capacity
  pub all_set : EachFoundSet 0 tries

-- the notes of a tag's end before its join: below the last number one fetch_and, which found the slot's bit set and cleared it; at the last number none
pub record Ended (slot number last : ℕ) (notes : List Note) : Type 0 where
  pub below : number < last → (found : ℕ) × (notes ≡ FetchAnd slot found ∷ []) × (bit_at found (slot % 32) ≡ 1)
  pub retired : last ≤ number → notes ≡ []

-- the notes of a seat and of a tag that is given back through it: those of the tag's end, and one join
pub record GaveBack (slot number last : ℕ) (seat tag new : List Note) : Type 0 where
  pub ended : List Note
  pub notes_are : new ≡ (seat ++ (tag ++ ended)) ++ Join ∷ []
  pub ends : Ended slot number last ended

module _ {J : Type 0} where
  -- a tag's seat that tried the first n slots in vain
  pub record Missed (n : ℕ) (me me' : Me (Option J) View) : Type 0 where
    pub tries : List Note
    pub each : length tries ≡ n
    pub all_set : EachFoundSet 0 tries
    pub me_is : me' ≡ (record me.0 { notes = me.0.notes ++ tries }, me.1)

  -- a tag's seat that tried the slots below this one in vain, and won this one
  pub record WonSlot (slot : ℕ) (me me' : Me (Option J) View) : Type 0 where
    pub lower : List Note
    pub found : ℕ
    pub each_lower : length lower ≡ slot
    pub lower_set : EachFoundSet 0 lower
    pub clear : bit_at found (slot % 32) ≡ 0
    pub me_is : me' ≡ (record me.0 { role = Won; slot = slot; notes = (me.0.notes ++ lower) ++ FetchOr slot found ∷ [] }, me.1)

  -- the first n slots were tried in turn until one was won
  abbrev pub Sought : ℕ → Me (Option J) View → Me (Option J) View → Option ℕ → Type 0
  Sought n me me' None = Missed n me me'
  Sought n me me' (Some slot) = (slot < n) × WonSlot slot me me'
