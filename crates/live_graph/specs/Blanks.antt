-- What a run without a name keeps.
use Rattle.std.specs.Prelude.{◌≡◌, List, [], length}
use Rattle.bus_list.specs.declared.pass.Pass.{Pass}
use Rattle.scene_model.specs.IsScene.{IsScene}
use Rattle.scene_model.specs.Opening.{opening}
use Rattle.scene_model.specs.SceneData.{SceneData}
use Rattle.mix_model.specs.Board.{board}
use Rattle.live_board.specs.declared.board.Board.{Board}
use Rattle.live_board.specs.Rule.{opener}
use Rattle.node_graph.specs.declared.feed.Feed.{Feed}
use Rattle.live_graph.specs.Dials.{most_words}
use Rattle.live_graph.specs.InputEditors.{lists_of}
use Rattle.live_graph.specs.Passes.{ArePasses}
use Rattle.live_graph.specs.Stages.{IsStage, HadFewer}
use Rattle.live_graph.specs.declared.stage.LiveStage.{LiveStage}

-- The stage is that of the scene's opening, with the one seat of a board whose words are those of the opening.
pub record IsBlank (s : SceneData) (w : LiveStage) (b : Board) (passes : List (Pass Feed)) : Type 0 where
  pub scene_is : IsScene s
  pub stage_is : IsStage w
  pub plan_is : w.plan ≡ opening s
  pub table_is : w.seat.table_id ≡ b.table.shared.table_id
  pub seat_is : w.seat.me ≡ (opener b.table.shared.key, [])
  pub dials_are : b.table.shared.key.dials.items ≡ board (opening s)
  pub most_is : b.table.shared.key.most.items ≡ most_words (length (opening s).nodes) (length (opening s).buses)
  pub hands_are : b.table.shared.key.hands ≡ 4
  pub lists_few : HadFewer 257 (lists_of w.inputs.items)
  pub passes_are : ArePasses w.inputs.items passes
