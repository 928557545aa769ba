-- What the types of a run's parts keep.
use Rattle.std.specs.Prelude.{◌≡◌, ◌<◌, ◌≤◌, ◌+◌, ℕ, Bool, true, List, [], length, map, slice_index}
use Rattle.atomic_table.specs.declared.shared.Seat.{Seat}
use Rattle.scene_model.specs.declared.edit.Edit.{Edit}
use Rattle.scene_model.specs.IsScene.{IsScene}
use Rattle.scene_model.specs.Opening.{opening}
use Rattle.mix_model.specs.Board.{board}
use Rattle.mix_model.specs.Journals.{edits_by, plan_after, IsLegalJournal}
use Rattle.live_board.specs.declared.board.Board.{Board}
use Rattle.live_board.specs.declared.view.Entry.{Entry}
use Rattle.live_board.specs.declared.view.View.{View}
use Rattle.live_board.specs.Rule.{entry_data, replies_of}
use Rattle.live_graph.specs.BoardHistories.{IsBoardHistory}
use Rattle.live_graph.specs.Dials.{most_words}
use Rattle.live_graph.specs.InputEditors.{lists_of}
use Rattle.live_graph.specs.Runs.{RunData}
use Rattle.live_graph.specs.Stages.{IsStage, HadFewer}
use Rattle.live_graph.specs.declared.stage.LiveStage.{LiveStage}

-- the largest words of a run's board
abbrev pub most_of_run : RunData → List ℕ
most_of_run r = most_words (length (opening r.scene).nodes) (length (opening r.scene).buses)

-- the board of a run
pub record IsRunBoard (r : RunData) (b : Board) : Type 0 where
  pub table_is : b.table.shared.table_id ≡ r.board
  pub dials_are : b.table.shared.key.dials.items ≡ board (opening r.scene)
  pub most_is : b.table.shared.key.most.items ≡ most_of_run r
  pub hands_are : b.table.shared.key.hands ≡ 4

-- a mixer of a run, which has no reading open
pub record IsMixer (r : RunData) (b : Board) (seat : Seat Bool View) : Type 0 where
  pub board_is : IsRunBoard r b
  pub table_is : seat.table_id ≡ r.board
  pub no_slot : seat.me.1 ≡ []
  pub mixes : seat.me.0.mixes ≡ true
  pub most_is : seat.me.0.mixing.most ≡ most_of_run r

-- the hand of an editor of a run, whose edits before the next one are made, and found booked
pub record IsHand (r : RunData) (editor : ℕ) (edits : List Edit) (next : ℕ) (seat : Seat Bool View) : Type 0 where
  pub editor_most : editor < 4
  pub edits_are : edits ≡ edits_by r.scene editor
  pub few : length edits ≤ 4096
  pub table_is : seat.table_id ≡ r.board
  pub no_slot : seat.me.1 ≡ []
  pub hands : seat.me.0.hands ≡ true
  pub editor_is : seat.me.0.hand.editor ≡ editor
  pub next_is : next ≡ length seat.me.0.hand.replies
  pub found_is : seat.me.0.hand.found ≡ next
  pub next_most : next ≤ length edits

abbrev pub sum_of_four : List ℕ → ℕ
sum_of_four made = slice_index made 0 + slice_index made 1 + slice_index made 2 + slice_index made 3

-- What lies under the lock of a run: its journal is legal, and plan, board and lists are as its edits have left them. No
-- edit is half made.
pub record IsDesk (r : RunData) (w : LiveStage) (made : List ℕ) (journal : List Entry) : Type 0 where
  pub scene_is : IsScene r.scene
  pub stage_is : IsStage w
  pub table_is : w.seat.table_id ≡ r.board
  pub no_slot : w.seat.me.1 ≡ []
  pub opening_is : w.seat.me.0.lock.opening ≡ board (opening r.scene)
  pub journal_is : w.seat.me.0.lock.journal ≡ journal
  pub plan_is : w.plan ≡ plan_after r.scene (map entry_data journal)
  pub history_is : IsBoardHistory r.scene (map entry_data journal) w.seat.me.0.lock.history
  pub lists_few : HadFewer (257 + length journal) (lists_of w.inputs.items)
  pub legal : IsLegalJournal r.scene (map entry_data journal)
  pub made_are : length made ≡ 4
  pub made_is : (e : ℕ) → e < 4 → slice_index made e ≡ length (replies_of e journal)
  pub made_most : (e : ℕ) → e < 4 → slice_index made e ≤ length (edits_by r.scene e)
  pub sum_is : length journal ≡ sum_of_four made

-- the stage of a run's opening, whose seat may become the desk's
pub record IsNewDesk (r : RunData) (w : LiveStage) : Type 0 where
  pub stage_is : IsStage w
  pub table_is : w.seat.table_id ≡ r.board
  pub no_slot : w.seat.me.1 ≡ []
  pub opening_is : w.seat.me.0.lock.opening ≡ board (opening r.scene)
  pub journal_is : w.seat.me.0.lock.journal ≡ []
  pub history_is : w.seat.me.0.lock.history ≡ []
  pub plan_is : w.plan ≡ opening r.scene
  pub lists_few : HadFewer 257 (lists_of w.inputs.items)
