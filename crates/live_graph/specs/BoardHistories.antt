-- The history of the board of a run, by its journal.
use Rattle.std.specs.Prelude.{◌≡◌, ℕ, ◌≤◌, List, length, map, fold, take, None}
use Rattle.scene_model.specs.declared.bus.Bus.{Bus}
use Rattle.scene_model.specs.Opening.{opening}
use Rattle.scene_model.specs.PlanData.{PlanData}
use Rattle.scene_model.specs.Plans.{after}
use Rattle.scene_model.specs.SceneData.{SceneData}
use Rattle.mix_model.specs.Board.{board}
use Rattle.mix_model.specs.Histories.{board_part, board_after}
use Rattle.mix_model.specs.Journals.{EntryData, plan_after}
use Rattle.live_board.specs.Rule.{words_set}

abbrev pub untargeted : Bus → Bus
untargeted b = record b { to = None }

-- plans that differ in nothing but where buses are attached
pub record AreAlike (p q : PlanData) : Type 0 where
  pub nodes_are : q.nodes ≡ p.nodes
  pub buses_are : map untargeted q.buses ≡ map untargeted p.buses

-- The changes of the board are those of the journal's edits that set a word: after as many of them the words are those of the
-- plan that these edits alone lead to, which is like the plan of all edits but for where buses lead.
pub record IsBoardHistory (s : SceneData) (journal : List EntryData) (history : List (ℕ × ℕ)) : Type 0 where
  pub count_is : length history ≡ length (board_part s journal)
  pub words_are : (count : ℕ) → count ≤ length history → words_set (board (opening s)) (take count history) ≡ board_after s journal count
  pub alike : AreAlike (plan_after s journal) (fold after (opening s) (board_part s journal))
