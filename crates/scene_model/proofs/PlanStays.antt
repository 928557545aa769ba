-- Every edit leaves a plan.
use Rattle.std.proofs.Common.{◌≡◌, ℕ, zero, suc, ◌+◌, ◌<◌, ◌≤◌, Bool, true, false, not, List, [], ◌∷◌, ◌++◌, length, get_or, take, drop, map, Option, Some, None, refl, sym, ◌∙◌, ap, subst, arith}
use Rattle.std.specs.Prelude.{All, fold, if◌then◌else◌, nat_le, nat_lt, slice_get}
use Rattle.std.specs.List.{range_with_len, list_all}
use Rattle.std.specs.Option.{option_map_or}
use Rattle.std.proofs.lemmas.Bool.{false≢true, true≢false, and_parts, leb-true, ltb-true, ltb-false}
use Rattle.std.proofs.lemmas.List.{take_all, drop_all, append-nil, length-map}
use Rattle.std.proofs.lemmas.List.Elements.{All-map, All-weaker, All-append, All-nil, All-cons, All-head, All-tail}
use Rattle.std.proofs.lemmas.List.Sums.{AllPass-from_list_all}
use Rattle.scene_model.specs.declared.bus.Bus.{Bus}
use Rattle.scene_model.specs.declared.node.Node.{Node}
use Rattle.scene_model.specs.declared.node_state.NodeState.{NodeState}
use Rattle.scene_model.specs.declared.edit.Edit.{Edit}
use Rattle.scene_model.specs.declared.edit.Edit.TheVariants.{Attach, Detach, SetGain, Start, Stop, From, Until, Seek, Loop}
use Rattle.scene_model.specs.declared.reply.Reply.TheVariants.{Done, NoSuchBus, GainTooLarge, NotSound}
use Rattle.scene_model.specs.declared.node.NodeKind.{NodeKind}
use Rattle.scene_model.specs.declared.node.NodeKind.TheVariants.{Sound, Group, Splitter}
use Rattle.scene_model.specs.Buses.{outputs, bus_count}
use Rattle.scene_model.specs.IsPlan.{IsBusOf, IsPlan, IsNodeState, names_nodes, may_seek, seeks_at, outputs_in_order}
use Rattle.scene_model.specs.Limits as limits
use Rattle.scene_model.specs.declared.bus_row.BusRow.{BusRow}
use Rattle.scene_model.specs.IsScene.{is_bus_row}
use Rattle.scene_model.specs.Opening.{unattached, outputs_of, all_outputs, unwired, is_looped, state_of, attach_edits, after_row}
use Rattle.scene_model.specs.PlanData.{PlanData}
use Rattle.scene_model.specs.Plans.{reply, sound_reply, is_sound, is_sound_kind, made, is_done, has_output, change_at, with_node, after, with_seek}
use Rattle.scene_model.specs.Reach.{HasNoCycle}
use Rattle.scene_model.specs.Wiring.{is_output, bus_with_target, with_target, bus_with_gain, with_gain}
use Rattle.scene_model.proofs.Kept.{outputs_with_target, outputs_with_gain, kinds_changed, outputs_unwired}
use Rattle.scene_model.proofs.NoCycle.{no_cycle_made, no_cycle_unattached}
use Rattle.scene_model.proofs.BusNumbers.{length_all_outputs}

-- each element of a list under a map has what the map gives each
All_mapped : {X : Type 0} (P : X → Type 0) (f : X → X) → ((x : X) → P x → P (f x)) → (xs : List X) → All P xs → All P (map f xs)
All_mapped P f step xs all = All-map P f xs (All-weaker P (λ x. P (f x)) step xs all)

bus_with_target_within : (nodes : ℕ) (is_it : Bool) (to : Option ℕ) (b : Bus) → ((m : ℕ) → to ≡ Some m → m ≤ nodes) → IsBusOf nodes b → IsBusOf nodes (if is_it then record b { to = to } else b)
bus_with_target_within nodes true to b within w = record { node_is = w.node_is; to_is = within }
bus_with_target_within nodes false to b within w = w

bus_with_gain_within : (nodes : ℕ) (is_it : Bool) (gain : ℕ) (b : Bus) → IsBusOf nodes b → IsBusOf nodes (if is_it then record b { gain = gain } else b)
bus_with_gain_within nodes true gain b w = record { node_is = w.node_is; to_is = w.to_is }
bus_with_gain_within nodes false gain b w = w

bus_with_target_gain : (is_it : Bool) (to : Option ℕ) (b : Bus) → b.gain ≤ limits.most_gain → (if is_it then record b { to = to } else b).gain ≤ limits.most_gain
bus_with_target_gain true to b h = h
bus_with_target_gain false to b h = h

bus_with_gain_gain : (is_it : Bool) (gain : ℕ) (b : Bus) → gain ≤ limits.most_gain → b.gain ≤ limits.most_gain → (if is_it then record b { gain = gain } else b).gain ≤ limits.most_gain
bus_with_gain_gain true gain b fits h = fits
bus_with_gain_gain false gain b fits h = h

-- a gain is set only where it is no more than the most
gain_from_done : (has : Bool) (gain : ℕ) → is_done (if not has then NoSuchBus else (if nat_lt limits.most_gain gain then GainTooLarge else Done)) ≡ true → gain ≤ limits.most_gain
gain_from_done false gain e = absurd (false≢true e)
gain_from_done true gain e = ltb-false limits.most_gain gain (by_test (nat_lt limits.most_gain gain) e)
  where
    by_test : (t : Bool) → is_done (if t then GainTooLarge else Done) ≡ true → t ≡ false
    by_test true e = absurd (false≢true e)
    by_test false e = refl

pub length-change_at : {X : Type 0} (change : X → X) (xs : List X) (n : ℕ) → length (change_at change xs n) ≡ length xs
length-change_at change [] n = refl
length-change_at change (x ∷ xs) zero = refl
length-change_at change (x ∷ xs) (suc n) = ap suc (length-change_at change xs n)

IsPlan-bus_with_target : (p : PlanData) (node out : ℕ) (to : Option ℕ) → ((m : ℕ) → to ≡ Some m → m ≤ length p.nodes) → HasNoCycle (with_target node out to p.buses) → IsPlan p → IsPlan (record p { buses = with_target node out to p.buses })
IsPlan-bus_with_target p node out to within none w = record {
  states_are = w.states_are;
  buses_most = rw (length-map p.buses (bus_with_target node out to)) w.buses_most;
  outputs_are = outputs_with_target node out to p.buses ∙ w.outputs_are;
  nodes_most = w.nodes_most;
  buses_are = All_mapped (IsBusOf (length p.nodes)) (bus_with_target node out to) (λ b. bus_with_target_within (length p.nodes) (is_output node out b) to b within) p.buses w.buses_are;
  gains_most = All_mapped (λ (b : Bus). b.gain ≤ limits.most_gain) (bus_with_target node out to) (λ b. bus_with_target_gain (is_output node out b) to b) p.buses w.gains_most;
  no_cycle = none;
}

IsPlan-bus_with_gain : (p : PlanData) (node out gain : ℕ) → gain ≤ limits.most_gain → HasNoCycle (with_gain node out gain p.buses) → IsPlan p → IsPlan (record p { buses = with_gain node out gain p.buses })
IsPlan-bus_with_gain p node out gain fits none w = record {
  states_are = w.states_are;
  buses_most = rw (length-map p.buses (bus_with_gain node out gain)) w.buses_most;
  outputs_are = outputs_with_gain node out gain p.buses ∙ w.outputs_are;
  nodes_most = w.nodes_most;
  buses_are = All_mapped (IsBusOf (length p.nodes)) (bus_with_gain node out gain) (λ b. bus_with_gain_within (length p.nodes) (is_output node out b) gain b) p.buses w.buses_are;
  gains_most = All_mapped (λ (b : Bus). b.gain ≤ limits.most_gain) (bus_with_gain node out gain) (λ b. bus_with_gain_gain (is_output node out b) gain b fits) p.buses w.gains_most;
  no_cycle = none;
}

-- a change of one element, which has the fact after the change where it had it before
pub All_changed : {X : Type 0} (P : X → Type 0) (change : X → X) (xs : List X) (n : ℕ) → ((x : X) → slice_get xs n ≡ Some x → P x → P (change x)) → All P xs → All P (change_at change xs n)
All_changed P change [] n step all = all
All_changed P change (x ∷ xs) zero step all =
    All-cons P (change x) xs (step x refl (All-head P x xs all)) (All-tail P x xs all)
All_changed P change (x ∷ xs) (suc n) step all =
    All-cons P x (change_at change xs n) (All-head P x xs all) (All_changed P change xs n step (All-tail P x xs all))

IsPlan-with_node : (p : PlanData) (n : ℕ) (change : NodeState → NodeState) → ((x : NodeState) → (change x).kind ≡ x.kind) → ((x : NodeState) → slice_get p.nodes n ≡ Some x → IsNodeState x → IsNodeState (change x)) → IsPlan p → IsPlan (with_node p n change)
IsPlan-with_node p n change same step w = record {
  states_are = All_changed IsNodeState change p.nodes n step w.states_are;
  outputs_are = w.outputs_are ∙ ap (outputs_in_order 0) (sym (kinds_changed p.nodes n change same));
  nodes_most = rw length-change_at w.nodes_most;
  buses_most = w.buses_most;
  buses_are = subst (λ (k : ℕ). All (IsBusOf k) p.buses) (sym (length-change_at change p.nodes n)) w.buses_are;
  gains_most = w.gains_most;
  no_cycle = w.no_cycle;
}

-- a change of the switch and of the times
with_times : (x : NodeState) (started : Bool) (from until : ℕ) → IsNodeState x → IsNodeState (record x { started = started; from = from; until = until })
with_times x started from until w = record {
  seeks_most = w.seeks_most;
  place_most = w.place_most;
  place_unsought = w.place_unsought;
  seeks_of_sound = w.seeks_of_sound;
  looped_of_sound = w.looped_of_sound;
}

-- an edit of a sound is done only at a sound
sound_from_done : (nodes : List NodeState) (node : ℕ) → is_done (sound_reply nodes node) ≡ true → (x : NodeState) → slice_get nodes node ≡ Some x → is_sound_kind x.kind ≡ true
sound_from_done nodes node d x e =
    subst (λ (o : Option NodeState). option_map_or (λ (n : NodeState). is_sound_kind n.kind) o false ≡ true) e (by_test (is_sound nodes node) d)
  where
    by_test : (t : Bool) → is_done (if t then Done else NotSound) ≡ true → t ≡ true
    by_test true d = refl
    by_test false d = absurd (false≢true d)

with_loop : (x : NodeState) (on : Bool) → is_sound_kind x.kind ≡ true → IsNodeState x → IsNodeState (record x { looped = on })
with_loop x on sound w = record {
  seeks_most = w.seeks_most;
  place_most = w.place_most;
  place_unsought = w.place_unsought;
  seeks_of_sound = w.seeks_of_sound;
  looped_of_sound = λ silent. absurd (true≢false (sym sound ∙ silent));
}

with_seek_once_more : (nodes : List NodeState) (node place : ℕ) → may_seek nodes (Seek node place) ≡ true → (x : NodeState) → slice_get nodes node ≡ Some x → is_sound_kind x.kind ≡ true → IsNodeState (with_seek place x)
with_seek_once_more nodes node place h x e sound =
    let both = and_parts (nat_le place limits.last_place) (nat_lt (seeks_at nodes node) limits.most_seeks) h in
    let few : nat_lt x.seeks limits.most_seeks ≡ true = subst (λ (o : Option NodeState). nat_lt (option_map_or (λ (n : NodeState). n.seeks) o 0) limits.most_seeks ≡ true) e both.1 in
    let below = ltb-true x.seeks limits.most_seeks few in
    record {
      seeks_most = omega arith;
      place_most = leb-true place limits.last_place both.0;
      place_unsought = λ none. absurd (omega arith);
      seeks_of_sound = λ silent. absurd (true≢false (sym sound ∙ silent));
      looped_of_sound = λ silent. absurd (true≢false (sym sound ∙ silent));
    }

pub IsPlan-made : (p : PlanData) (e : Edit) → IsPlan p → names_nodes (length p.nodes) e ≡ true → may_seek p.nodes e ≡ true → is_done (reply p e) ≡ true → IsPlan (made p e)
IsPlan-made p (Attach node out to) w named may d =
    let within : to ≤ length p.nodes = leb-true to (length p.nodes) (and_parts (nat_lt node (length p.nodes)) _ named).1 in
    IsPlan-bus_with_target p node out (Some to) (λ m e. let same : to ≡ m = cc in rw (← same) within) (no_cycle_made p (Attach node out to) d w.no_cycle) w
IsPlan-made p (Detach node out) w named may d =
    IsPlan-bus_with_target p node out None (λ m e. cc) (no_cycle_made p (Detach node out) d w.no_cycle) w
IsPlan-made p (SetGain node out gain) w named may d =
    IsPlan-bus_with_gain p node out gain (gain_from_done (has_output p.nodes node out) gain d) (no_cycle_made p (SetGain node out gain) d w.no_cycle) w
IsPlan-made p (Start node) w named may d = IsPlan-with_node p node _ (λ x. refl) (λ x e h. with_times x true x.from x.until h) w
IsPlan-made p (Stop node) w named may d = IsPlan-with_node p node _ (λ x. refl) (λ x e h. with_times x false x.from x.until h) w
IsPlan-made p (From node value) w named may d = IsPlan-with_node p node _ (λ x. refl) (λ x e h. with_times x x.started value x.until h) w
IsPlan-made p (Until node value) w named may d = IsPlan-with_node p node _ (λ x. refl) (λ x e h. with_times x x.started x.from value h) w
IsPlan-made p (Seek node place) w named may d =
    IsPlan-with_node p node (with_seek place) (λ x. refl) (λ x e h. with_seek_once_more p.nodes node place may x e (sound_from_done p.nodes node d x e)) w
IsPlan-made p (Loop node on) w named may d = IsPlan-with_node p node _ (λ x. refl) (λ x e h. with_loop x on (sound_from_done p.nodes node d x e) h) w

-- outputs as they are made: of these nodes, unattached, at the unit gain
record IsFresh (first end : ℕ) (b : Bus) : Type 0 where
  from_first : first ≤ b.node
  below_end : b.node < end
  nowhere : b.to ≡ None
  unit : b.gain ≡ limits.unity_gain

All_any : {X : Type 0} (P : X → Type 0) → ((x : X) → P x) → (xs : List X) → All P xs
All_any P each [] = All-nil P
All_any P each (x ∷ xs) = All-cons P x xs (each x) (All_any P each xs)

fresh_outputs : (first : ℕ) (nodes : List Node) (end : ℕ) → first + length nodes ≡ end → All (IsFresh first end) (all_outputs first nodes)
fresh_outputs first [] end e = All-nil (IsFresh first end)
fresh_outputs first (n ∷ nodes) end e =
    All-append (IsFresh first end) (outputs_of first (outputs n.kind)) (all_outputs (suc first) nodes)
    (All-map (IsFresh first end) (unattached first) (range_with_len 0 (outputs n.kind))
    (All_any (λ out. IsFresh first end (unattached first out)) (λ out. record { from_first = omega arith; below_end = omega arith; nowhere = refl; unit = refl }) (range_with_len 0 (outputs n.kind))))
    (All-weaker (IsFresh (suc first) end) (IsFresh first end)
    (λ b w. let f = w.from_first in record { from_first = omega arith; below_end = w.below_end; nowhere = w.nowhere; unit = w.unit })
    (all_outputs (suc first) nodes) (fresh_outputs (suc first) nodes end (omega arith)))

pub no_cycle_unwired : (nodes : List Node) → HasNoCycle (unwired nodes).buses
no_cycle_unwired nodes =
    no_cycle_unattached (all_outputs 0 nodes) (All-weaker (IsFresh 0 (length nodes)) (λ (b : Bus). b.to ≡ None) (λ b w. w.nowhere) (all_outputs 0 nodes) (fresh_outputs 0 nodes (length nodes) (omega arith)))

-- only a sound is looped at the start
unlooped : (kind : NodeKind) → is_sound_kind kind ≡ false → is_looped kind ≡ false
unlooped (Sound resource looped) e = absurd (true≢false e)
unlooped Group e = refl
unlooped (Splitter n) e = refl

state_at_start : (n : Node) → IsNodeState (state_of n)
state_at_start n = record {
  seeks_most = omega arith;
  place_most = omega arith;
  place_unsought = λ none. refl;
  seeks_of_sound = λ silent. refl;
  looped_of_sound = unlooped n.kind;
}

pub IsPlan-unwired : (nodes : List Node) → length nodes ≤ limits.most_nodes → bus_count nodes ≤ limits.most_buses → IsPlan (unwired nodes)
IsPlan-unwired nodes most outputs_most =
    let fresh = fresh_outputs 0 nodes (length nodes) (omega arith) in
    let buses = all_outputs 0 nodes in
    let same : length (map state_of nodes) ≡ length nodes = length-map nodes state_of in
    record {
      nodes_most = rw same most;
      outputs_are = outputs_unwired 0 nodes;
      buses_most = rw (length_all_outputs 0 nodes) outputs_most;
      states_are = All-map IsNodeState state_of nodes (All_any (λ n. IsNodeState (state_of n)) state_at_start nodes);
      buses_are = subst (λ (k : ℕ). All (IsBusOf k) buses) (sym same)
          (All-weaker (IsFresh 0 (length nodes)) (IsBusOf (length nodes)) (λ b w. record { node_is = w.below_end; to_is = λ m e. cc (w.nowhere, e) }) buses fresh);
      gains_most = All-weaker (IsFresh 0 (length nodes)) (λ (b : Bus). b.gain ≤ limits.most_gain) (λ b w. let u = w.unit in omega arith) buses fresh;
      no_cycle = no_cycle_unwired nodes;
    }

-- what a call on a whole slice leaves in the `Vec`
pub written_back : {X : Type 0} (old new : List X) (n : ℕ) → n ≡ length old → length new ≡ length old → take n (new ++ drop (length new) old) ≡ new
written_back old new n e same =
    ap (λ ys. take n (new ++ ys)) (drop_all (length new) old (omega arith)) ∙ ap (take n) (append-nil new) ∙ take_all n new (omega arith)

-- no edit adds a node
length-made : (p : PlanData) (e : Edit) → length (made p e).nodes ≡ length p.nodes
length-made p (Attach node out to) = refl
length-made p (Detach node out) = refl
length-made p (SetGain node out gain) = refl
length-made p (Start node) = length-change_at _ p.nodes node
length-made p (Stop node) = length-change_at _ p.nodes node
length-made p (From node value) = length-change_at _ p.nodes node
length-made p (Until node value) = length-change_at _ p.nodes node
length-made p (Seek node place) = length-change_at _ p.nodes node
length-made p (Loop node on) = length-change_at _ p.nodes node

pub length-after : (p : PlanData) (e : Edit) → length (after p e).nodes ≡ length p.nodes
length-after p e = either (is_done (reply p e))
  where
    either : (d : Bool) → length (if d then made p e else p).nodes ≡ length p.nodes
    either true = length-made p e
    either false = refl

length-run : (es : List Edit) (p : PlanData) → length (fold after p es).nodes ≡ length p.nodes
length-run [] p = refl
length-run (e ∷ es) p = length-run es (after p e) ∙ length-after p e

pub length-after_row : (p : PlanData) (b : BusRow) → length (after_row p b).nodes ≡ length p.nodes
length-after_row p b = length-run (SetGain b.node b.out b.gain ∷ attach_edits b.node b.out b.to) p

pub row_named : (nodes : ℕ) (rows : List BusRow) (i : ℕ) (d : BusRow) → list_all (is_bus_row nodes) rows ≡ true → i < length rows → is_bus_row nodes (get_or rows i d) ≡ true
row_named nodes rows i d all within = AllPass-from_list_all (is_bus_row nodes) rows all i d within
