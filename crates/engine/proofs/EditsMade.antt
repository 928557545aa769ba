-- What edits leave as it was in a playback.
use Rattle.std.proofs.Common.{◌≡◌, ℕ, ◌*◌, ◌<◌, ◌≤◌, List, [], ◌∷◌, length, map, get_or, Bool, true, false, Option, Some, None, ◌⊎◌, inl, inr, refl, sym, ◌∙◌, ap, subst, arith}
use Rattle.std.specs.Prelude.{All, Contains, fold, slice_get, slice_index, if◌then◌else◌}
use Rattle.std.specs.Option.{option_map_or}
use Rattle.std.specs.List.Sorted.{IsPermutation}
use Rattle.std.proofs.lemmas.List.{get_or-map, length-map}
use Rattle.std.proofs.lemmas.Option.{slice_get_cases}
use Rattle.scene_clips.specs.SceneClipData.{SceneClipData}
use Rattle.scene_model.specs.declared.edit.Edit.{Edit}
use Rattle.scene_model.specs.declared.edit.Edit.TheVariants.{Attach, Detach, SetGain, Start, Stop, From, Until, Seek, Loop}
use Rattle.scene_model.specs.declared.bus_row.BusRow.{BusRow}
use Rattle.scene_model.specs.declared.node.Node.{Node}
use Rattle.scene_model.specs.declared.node.NodeKind.{NodeKind}
use Rattle.scene_model.specs.declared.node_state.NodeState.{NodeState}
use Rattle.scene_model.specs.IsPlan.{IsPlan, kinds, output_of}
use Rattle.scene_model.specs.Opening.{state_of, unwired, row_edits, after_row, opening}
use Rattle.scene_model.specs.PlanData.{PlanData}
use Rattle.scene_model.specs.Plans.{after, is_done, made, reply}
use Rattle.scene_model.specs.SceneData.{SceneData}
use Rattle.scene_model.proofs.Kept.{kinds_after, outputs_after}
use Rattle.scene_model.proofs.PlanStays.{length-after_row}
use Rattle.mix_model.specs.Mix.{kind_frames, node_frames}
use Rattle.mix_model.specs.OrderedBuses.{IsOrdered}
use Rattle.mix_model.specs.Pulled.{no_node, node}
use Rattle.mix_model.proofs.ScenePlans.{nodes_run}
use Rattle.resource_mgr.specs.Tapes.{files_of}
use Rattle.engine.specs.declared.playback.Playback.{Playback}
use Rattle.engine.specs.declared.room.Room.{Room}
use Rattle.engine.specs.Edits.{is_of_bus}
use Rattle.engine.specs.Nodes.{IsOrderOf, IsPlayable}
use Rattle.engine.specs.Room.{IsRoomFor}

kinds_run : (p : PlanData) (es : List Edit) → kinds (fold after p es).nodes ≡ kinds p.nodes
kinds_run p [] = refl
kinds_run p (e ∷ es) = kinds_run (after p e) es ∙ kinds_after p e

kinds_rows : (p : PlanData) (rows : List BusRow) → kinds (fold after_row p rows).nodes ≡ kinds p.nodes
kinds_rows p [] = refl
kinds_rows p (b ∷ rows) = kinds_rows (after_row p b) rows ∙ kinds_run p (row_edits b)

nodes_rows : (p : PlanData) (rows : List BusRow) → length (fold after_row p rows).nodes ≡ length p.nodes
nodes_rows p [] = refl
nodes_rows p (b ∷ rows) = nodes_rows (after_row p b) rows ∙ length-after_row p b

-- the frames that a node of the opening plan plays are those of its row
pub start_frames : (s : SceneData) (clips : List SceneClipData) (n : ℕ) → n < length (opening s).nodes → node_frames clips s n ≡ kind_frames clips (node (opening s) n).kind
start_frames s clips n below = by_row (slice_get_cases s.nodes n).1
  where
    states : List NodeState
    states = map state_of s.nodes

    count : length (opening s).nodes ≡ length s.nodes
    count = nodes_rows (unwired s.nodes) s.buses ∙ length-map s.nodes state_of

    row_kind : (x : Node) → n < length s.nodes → get_or s.nodes n x ≡ x → (node (opening s) n).kind ≡ x.kind
    row_kind x inside here =
        sym (get_or-map (λ (y : NodeState). y.kind) (opening s).nodes n no_node no_node.kind below)
        ∙ ap (λ (ks : List NodeKind). get_or ks n no_node.kind) (kinds_rows (unwired s.nodes) s.buses)
        ∙ get_or-map (λ (y : NodeState). y.kind) states n no_node no_node.kind (omega (arith, inside, length-map s.nodes state_of))
        ∙ ap (λ (y : NodeState). y.kind) (get_or-map state_of s.nodes n x no_node inside)
        ∙ ap (λ (y : Node). y.kind) here

    by_row : ((x : Node) × (n < length s.nodes) × (slice_get s.nodes n ≡ Some x) × (get_or s.nodes n x ≡ x)) ⊎ ((length s.nodes ≤ n) × (slice_get s.nodes n ≡ None)) → node_frames clips s n ≡ kind_frames clips (node (opening s) n).kind
    by_row (inl (x, inside, is, here)) = ap (λ (o : Option Node). option_map_or (λ (y : Node). kind_frames clips y.kind) o 0) is ∙ sym (ap (kind_frames clips) (row_kind x inside here))
    by_row (inr (past, none)) = absurd (omega (arith, below, count, past))

outputs_run : (p : PlanData) (es : List Edit) → map output_of (fold after p es).buses ≡ map output_of p.buses
outputs_run p [] = refl
outputs_run p (e ∷ es) = outputs_run (after p e) es ∙ outputs_after p e

pub buses_run : (p : PlanData) (es : List Edit) → length (fold after p es).buses ≡ length p.buses
buses_run p es = sym (length-map (fold after p es).buses output_of) ∙ ap length (outputs_run p es) ∙ length-map p.buses output_of

kind_kept : (p : PlanData) (es : List Edit) (n : ℕ) → n < length p.nodes → (node (fold after p es) n).kind ≡ (node p n).kind
kind_kept p es n below =
    let q = fold after p es in
    sym (get_or-map (λ (x : NodeState). x.kind) q.nodes n no_node no_node.kind (omega (arith, below, nodes_run p es)))
    ∙ ap (λ (ks : List NodeKind). get_or ks n no_node.kind) (kinds_run p es)
    ∙ get_or-map (λ (x : NodeState). x.kind) p.nodes n no_node no_node.kind below

room_kept : (p q : PlanData) (r : Room) → length q.nodes ≡ length p.nodes → length q.buses ≡ length p.buses → IsRoomFor p r → IsRoomFor q r
room_kept p q r nodes buses is = record {
  kept_are = subst (λ k. k * 1024 ≤ length r.kept.items) (sym nodes) is.kept_are;
  kept_range = is.kept_range;
  feeds_are = record { numbers_are = subst (λ k. k ≤ length r.feeds.numbers.items) (sym buses) is.feeds_are.numbers_are; sums_are = is.feeds_are.sums_are };
  samples_are = is.samples_are;
  samples_range = is.samples_range;
}

-- a playback after edits that were made can be played, once its lists are in order again
pub playable_again : (p r : Playback) (es : List Edit) → IsPlayable p → r.stage ≡ fold after p.stage es → r.clips.items ≡ p.clips.items → r.channels ≡ p.channels → r.frames ≡ p.frames → r.room ≡ p.room → r.tapes.items ≡ p.tapes.items
    → IsPlan r.stage → ((n : ℕ) → n < length r.stage.nodes → slice_index r.cursors n ≤ slice_index r.frames n)
    → IsOrderOf r.stage r.order.items → IsPermutation r.stage.buses r.ordered_buses.items → IsOrdered r.ordered_buses.items → IsPlayable r
playable_again p r es is stage clips channels frames room tapes plan most order permutation ordered =
    let nodes : length r.stage.nodes ≡ length p.stage.nodes = ap (λ (q : PlanData). length q.nodes) stage ∙ nodes_run p.stage es in
    let buses : length r.stage.buses ≡ length p.stage.buses = ap (λ (q : PlanData). length q.buses) stage ∙ buses_run p.stage es in
    record {
      plan_is = plan;
      channels_least = subst (λ k. 1 ≤ k) (sym channels) is.channels_least;
      channels_most = subst (λ k. k ≤ 2) (sym channels) is.channels_most;
      clips_are = subst (λ k. All (λ (c : SceneClipData). c.channels ≡ k) r.clips.items) (sym channels) (subst (λ (cs : List SceneClipData). All (λ (c : SceneClipData). c.channels ≡ p.channels) cs) (sym clips) is.clips_are);
      tapes_are = ap files_of tapes ∙ is.tapes_are ∙ sym (ap (map (λ (c : SceneClipData). c.bytes)) clips);
      frames_are = λ n below.
          let within : n < length p.stage.nodes = omega (arith, below, nodes) in
          ap (λ (xs : List ℕ). slice_index xs n) frames ∙ is.frames_are n within
          ∙ sym (ap (λ (q : PlanData). kind_frames r.clips.items (node q n).kind) stage ∙ ap (kind_frames r.clips.items) (kind_kept p.stage es n within) ∙ ap (λ (cs : List SceneClipData). kind_frames cs (node p.stage n).kind) clips);
      cursors_most = most;
      order_is = order;
      permutation = permutation;
      ordered = ordered;
      room_is = subst (λ (x : Room). IsRoomFor r.stage x) (sym room) (room_kept p.stage r.stage p.room nodes buses is.room_is);
    }

buses_made : (p : PlanData) (e : Edit) → is_of_bus e ≡ false → (made p e).buses ≡ p.buses
buses_made p (Attach node out to) of_node = cc
buses_made p (Detach node out) of_node = cc
buses_made p (SetGain node out gain) of_node = cc
buses_made p (Start node) of_node = refl
buses_made p (Stop node) of_node = refl
buses_made p (From node value) of_node = refl
buses_made p (Until node value) of_node = refl
buses_made p (Seek node place) of_node = refl
buses_made p (Loop node on) of_node = refl

kept_if : (b : Bool) (p q : PlanData) → q.buses ≡ p.buses → (if b then q else p).buses ≡ p.buses
kept_if true p q same = same
kept_if false p q same = refl

-- edits of nodes leave the buses as they are
pub buses_after : (p : PlanData) (e : Edit) → is_of_bus e ≡ false → (after p e).buses ≡ p.buses
buses_after p e of_node = kept_if (is_done (reply p e)) p (made p e) (buses_made p e of_node)

-- an order of the nodes depends on their number and on the buses
pub order_kept : (p q : PlanData) (order : List ℕ) → length q.nodes ≡ length p.nodes → q.buses ≡ p.buses → IsOrderOf p order → IsOrderOf q order
order_kept p q order nodes buses is = record {
  numbers = subst (λ count. All (λ n. n < count) order) (sym nodes) is.numbers;
  whole = λ n below. is.whole n (omega (arith, below, nodes));
  behind = λ k b inside among to. is.behind k b inside (subst (λ bs. Contains bs b) buses among) to;
}
