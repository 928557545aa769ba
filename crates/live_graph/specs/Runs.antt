-- The name of a live run, and what contracts see of its parts.
use Rattle.std.specs.Prelude.{ℕ, zero, suc, List, [], ◌∷◌, ◌++◌, slice_set}
use Rattle.atomic_table.specs.Seated.{TableId}
use Rattle.bus_list.specs.declared.pass.Pass.{Pass}
use Rattle.live_board.specs.declared.view.Note.{Note}
use Rattle.live_board.specs.declared.view.Note.TheVariants.{Count}
use Rattle.live_board.specs.declared.view.Reading.{Reading}
use Rattle.live_board.specs.declared.view.View.{View}
use Rattle.live_board.specs.Steps.{dial_notes}
use Rattle.node_graph.specs.declared.feed.Feed.{Feed}
use Rattle.scene_model.specs.declared.reply.Reply.{Reply}
use Rattle.scene_model.specs.SceneData.{SceneData}
use Rattle.std.specs.Prelude.{Option}
use Rattle.live_graph.specs.InputEditors.{EditorData}

-- the scene of a run, the table of its board, and the lists of its inputs as they were opened
pub record RunData : Type 0 where
  pub scene : SceneData
  pub board : TableId
  pub opened : List (Option EditorData)

-- what stands for a run that no call has named
abbrev pub no_table : TableId
no_table = record { words = 0; slots = 0; views_name = 0; atom = 0; block = 0; offset = 0; slot_names = [] }

abbrev pub no_scene : SceneData
no_scene = record { version = 0; rate = 0; channels = 0; width = 0; length = 0; resources = []; nodes = []; buses = []; edits = [] }

abbrev pub no_run : RunData
no_run = record { scene = no_scene; board = no_table; opened = [] }

-- a hand: its editor, and what its edits were answered so far
pub record HandData : Type 0 where
  pub editor : ℕ
  pub replies : List Reply

abbrev pub replied : Reply → HandData → HandData
replied r h = record h { replies = h.replies ++ r ∷ [] }

-- hands of the editors below that number, in order, which have made nothing
abbrev pub new_hands : ℕ → List HandData
new_hands zero = []
new_hands (suc n) = new_hands n ++ (record { editor = n; replies = [] }) ∷ []

-- the view of the lock, once hands of the editors below that number were made
abbrev pub handed_out : ℕ → View → View
handed_out n v = record v { lock = record v.lock { next = n } }

-- the mixer: its readings of the board, all its loads there, and the passes of all inputs by the numbers of their nodes
pub record MixerData : Type 0 where
  pub readings : List Reading
  pub notes : List Note
  pub passes : List (Pass Feed)

-- one reading more, which found these counts and words, and its loads
abbrev pub has_read : ℕ → ℕ → List ℕ → MixerData → MixerData
has_read from until words m = record m {
  readings = m.readings ++ (record { from = from; until = until; words = words }) ∷ [];
  notes = (m.notes ++ Count from ∷ dial_notes 0 words) ++ Count until ∷ [];
}

-- another pass at that node
abbrev pub with_pass : MixerData → ℕ → Pass Feed → MixerData
with_pass m node pass = record m { passes = slice_set m.passes node pass }
