-- The parts of a journal: the history of the board, and that of the list of each input.
use Rattle.std.specs.Prelude.{◌≡◌, ◌==◌, ℕ, Bool, true, false, List, [], ◌∷◌, ◌++◌, length, filter, fold, take, Option, None, Some, position, slice_index, if◌then◌else◌}
use Rattle.std.specs.List.{flat_map}
use Rattle.std.specs.Option.{option_map_or}
use Rattle.scene_model.specs.declared.edit.Edit.{Edit}
use Rattle.scene_model.specs.declared.edit.Edit.TheVariants.{Attach, Detach, SetGain, Start, Stop, From, Until, Seek, Loop}
use Rattle.scene_model.specs.Opening.{opening}
use Rattle.scene_model.specs.PlanData.{PlanData}
use Rattle.scene_model.specs.Plans.{after, is_done}
use Rattle.scene_model.specs.SceneData.{SceneData}
use Rattle.scene_model.specs.Wiring.{is_output, target}
use Rattle.mix_model.specs.Board.{board}
use Rattle.mix_model.specs.Journals.{EntryData, edit_of, after_entry}
use Rattle.mix_model.specs.Readings.{ReadingData, AreLawfulReadings}

-- whether an edit changes a word of the board, which no edit of where a bus leads does
abbrev pub sets_word : Edit → Bool
sets_word (Attach node out to) = false
sets_word (Detach node out) = false
sets_word (SetGain node out gain) = true
sets_word (Start node) = true
sets_word (Stop node) = true
sets_word (From node value) = true
sets_word (Until node value) = true
sets_word (Seek node place) = true
sets_word (Loop node on) = true

-- the entry's edit, if it was done
abbrev pub edit_done : SceneData → EntryData → List Edit
edit_done s e = if is_done e.reply then option_map_or (λ edit. edit ∷ []) (edit_of s e) [] else []

-- the board's history: the edits that were done and changed a word of it
abbrev pub board_part : SceneData → List EntryData → List Edit
board_part s journal = filter sets_word (flat_map (edit_done s) journal)

-- the board after so many entries of its history
abbrev pub board_after : SceneData → List EntryData → ℕ → List ℕ
board_after s journal count = board (fold after (opening s) (take count (board_part s journal)))

abbrev pub word_after : SceneData → List EntryData → ℕ → ℕ → ℕ
word_after s journal place count = slice_index (board_after s journal count) place

-- readings of the board that are lawful in a journal
abbrev pub AreReadingsOf : SceneData → List EntryData → List ReadingData → Type 0
AreReadingsOf s journal readings =
    AreLawfulReadings (word_after s journal) (length (board_part s journal)) (length (board (opening s))) 0 readings

-- what becomes of the list of an input: the bus of that number comes onto it, or is taken off
pub data ListEdit : Type 0 where
  bus_on : ℕ → ListEdit
  bus_off : ℕ → ListEdit

-- an edit of the bus of that number, if there is one, where it is an edit of this list
abbrev pub if_of_list : Bool → (ℕ → ListEdit) → Option ℕ → List ListEdit
if_of_list true kind bus = option_map_or (λ number. kind number ∷ []) bus []
if_of_list false kind bus = []

-- What an edit that is done does to the list of the node's input. A bus is attached to its target, and detached from the
-- node to which it was attached.
abbrev pub list_edits : ℕ → PlanData → Edit → List ListEdit
list_edits node p (Attach from out to) = if_of_list (to == node) bus_on (position (is_output from out) p.buses)
list_edits node p (Detach from out) =
    if_of_list (option_map_or (λ to. to == node) (target p.buses from out) false) bus_off (position (is_output from out) p.buses)
list_edits node p (SetGain from out gain) = []
list_edits node p (Start from) = []
list_edits node p (Stop from) = []
list_edits node p (From from value) = []
list_edits node p (Until from value) = []
list_edits node p (Seek from place) = []
list_edits node p (Loop from on) = []

-- the part that these entries have in the list of an input, from a plan on
abbrev pub list_part_from : SceneData → ℕ → PlanData → List EntryData → List ListEdit
list_part_from s node p [] = []
list_part_from s node p (e ∷ es) = flat_map (list_edits node p) (edit_done s e) ++ list_part_from s node (after_entry s p e) es

-- the history of the list of an input, after what the opening attaches to it
abbrev pub list_part : SceneData → ℕ → List EntryData → List ListEdit
list_part s node journal = list_part_from s node (opening s) journal
