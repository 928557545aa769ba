-- What a live stage keeps, and what an edit makes of it.
use Rattle.std.specs.Prelude.{◌≡◌, ◌<◌, ◌≤◌, ℕ, ◌+◌, ◌*◌, true, false, List, ◌++◌, length, Option, None, Some, if◌then◌else◌, slice_index, slice_index_or}
use Rattle.scene_model.specs.declared.edit.Edit.{Edit}
use Rattle.scene_model.specs.IsPlan.{AreTimesInRange, IsPlan}
use Rattle.scene_model.specs.PlanData.{PlanData}
use Rattle.scene_model.specs.Plans.{after, reply, is_done}
use Rattle.mix_model.specs.Board.{board}
use Rattle.live_board.specs.declared.board.Board.{Board}
use Rattle.live_board.specs.declared.view.View.{View}
use Rattle.live_board.specs.Rule.{words_set}
use Rattle.node_graph.specs.ListChanges.{list_change}
use Rattle.node_graph.specs.ListData.{ListData, AreInputsOf}
use Rattle.live_graph.specs.Dials.{dial_set, most_words}
use Rattle.live_graph.specs.InputEditors.{EditorData, editors_changed, lists_of}
use Rattle.live_graph.specs.declared.stage.LiveStage.{LiveStage}

-- The lists are those of the plan, whose times are in range. The seat stores for whoever holds the lock, and each change that
-- it stored is counted.
pub record IsStage (s : LiveStage) : Type 0 where
  pub plan_is : IsPlan s.plan
  pub inputs_are : AreInputsOf s.plan (lists_of s.inputs.items)
  pub times_are : AreTimesInRange s.plan
  pub locks : s.seat.me.0.locks ≡ true
  pub counted : s.seat.me.0.lock.stored ≡ false
  pub changes_are : s.changes ≡ length s.seat.me.0.lock.history

-- the board is that of the stage's seat, and has a word for each dial of its plan, each with its largest one
pub record IsBoardOf (b : Board) (s : LiveStage) : Type 0 where
  pub table_is : s.seat.table_id ≡ b.table.shared.table_id
  pub dials_are : length b.table.shared.key.dials.items ≡ 5 * length s.plan.nodes + length s.plan.buses
  pub most_is : b.table.shared.key.most.items ≡ most_words (length s.plan.nodes) (length s.plan.buses)

-- the place is one of the board of a plan, whose word there is in its range
pub record IsDialOf (b : Board) (p : PlanData) (place : ℕ) : Type 0 where
  pub within : place < length b.table.shared.key.dials.items
  pub of_plan : place < 5 * length p.nodes + length p.buses
  pub in_range : slice_index (board p) place ≤ slice_index b.table.shared.key.most.items place

-- each list has had fewer edits than that
abbrev pub HadFewer : ℕ → List (Option ListData) → Type 0
HadFewer edits lists = (node : ℕ) (list : ListData) → slice_index_or lists node None ≡ Some list → length list.history < edits

-- a seat that has stored and counted these changes more
abbrev pub with_changes : List (ℕ × ℕ) → View → View
with_changes changes v = record v { lock = record v.lock { history = v.lock.history ++ changes; stored = false } }

abbrev pub inputs_after : LiveStage → Edit → List (Option EditorData)
inputs_after s e = if is_done (reply s.plan e) then editors_changed s.inputs.items (list_change s.plan.buses e) else s.inputs.items

-- The plan is the one after the edit. Where that is done, one list is changed, or one word is stored, and is then that of
-- the plan.
pub record IsEdited (old : LiveStage) (e : Edit) (new : LiveStage) : Type 0 where
  pub plan_is : new.plan ≡ after old.plan e
  pub inputs_are : new.inputs.items ≡ inputs_after old e
  pub table_is : new.seat.table_id ≡ old.seat.table_id
  pub stored : new.seat.me ≡ (with_changes (dial_set old.plan e) old.seat.me.0, old.seat.me.1)
  pub words_are : board new.plan ≡ words_set (board old.plan) (dial_set old.plan e)
