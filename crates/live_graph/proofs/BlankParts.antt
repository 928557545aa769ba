-- A run without a name keeps what it must.
use Rattle.std.proofs.Common.{◌≡◌, ℕ, suc, ◌+◌, ◌<◌, ◌≤◌, ◌∙◌, List, [], length, refl, sym, ap, subst, arith}
use Rattle.std.specs.Prelude.{slice_index}
use Rattle.scene_model.specs.IsPlan.{IsPlan, AreTimesInRange}
use Rattle.scene_model.specs.IsScene.{IsScene}
use Rattle.scene_model.specs.Opening.{opening}
use Rattle.scene_model.specs.PlanData.{PlanData}
use Rattle.scene_model.specs.SceneData.{SceneData}
use Rattle.scene_model.proofs.TimesInRange.{times_later}
use Rattle.mix_model.specs.Board.{board}
use Rattle.node_graph.proofs.BoardWords.{length-board}
use Rattle.bus_list.specs.declared.pass.Pass.{Pass}
use Rattle.live_board.specs.declared.board.Board.{Board}
use Rattle.node_graph.specs.declared.feed.Feed.{Feed}
use Rattle.std.proofs.lemmas.List.{length-map}
use Rattle.live_graph.specs.Blanks.{IsBlank}
use Rattle.live_graph.specs.InputEditors.{list_of}
use Rattle.live_graph.specs.declared.stage.LiveStage.{LiveStage}
use Rattle.live_graph.proofs.RunPlans.{nodes_opened}
use Rattle.live_graph.specs.Dials.{most_words}
use Rattle.live_graph.proofs.DialWords.{within_most}

pub opening_times : (s : SceneData) → IsScene s → AreTimesInRange (opening s)
opening_times s w = times_later s [] w refl

pub few_dials : (p : PlanData) (dials : List ℕ) → IsPlan p → dials ≡ board p → length dials < 65536
few_dials p dials w is =
    let nodes = w.nodes_most in
    let buses = w.buses_most in
    let long = length-board p in
    let same : length dials ≡ length (board p) = ap length is in
    omega arith

pub opens_in_range : (s : SceneData) (p : PlanData) (dials most : List ℕ) → IsScene s → IsPlan p → p ≡ opening s → dials ≡ board p → most ≡ most_words (length p.nodes) (length p.buses) → (i : ℕ) → i < length dials → slice_index dials i ≤ slice_index most i
opens_in_range s p dials most scene w is dials_are most_are i low =
    let long = length-board p in
    let same : length dials ≡ length (board p) = ap length dials_are in
    subst (λ (xs : List ℕ). slice_index xs i ≤ slice_index most i) (sym dials_are)
    (subst (λ (xs : List ℕ). slice_index (board p) i ≤ slice_index xs i) (sym most_are)
    (within_most p i w (subst AreTimesInRange (sym is) (opening_times s scene)) (omega arith)))

-- there is a pass for each node, and one for the endpoint
pub passes_count : (s : SceneData) (w : LiveStage) (b : Board) (passes : List (Pass Feed)) → IsBlank s w b passes → length passes ≡ length s.nodes + 1
passes_count s w b passes is =
    let one = is.passes_are.one_each in
    let lists = is.stage_is.inputs_are.one_each in
    let same = length-map w.inputs.items list_of in
    let nodes = ap (λ (p : PlanData). length p.nodes) is.plan_is ∙ nodes_opened s in
    omega arith
