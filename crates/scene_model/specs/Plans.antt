-- What an edit is answered in a plan, and the plan after it.
use Rattle.std.specs.Prelude.{ℕ, zero, suc, ◌+◌, Bool, true, false, not, nat_lt, List, [], ◌∷◌, Option, None, Some, slice_get, if◌then◌else◌}
use Rattle.std.specs.Option.{option_map_or}
use Rattle.scene_model.specs.declared.node.NodeKind.{NodeKind}
use Rattle.scene_model.specs.declared.node.NodeKind.TheVariants.{Sound, Group, Splitter}
use Rattle.scene_model.specs.declared.node_state.NodeState.{NodeState}
use Rattle.scene_model.specs.declared.bus.Bus.{Bus}
use Rattle.scene_model.specs.declared.edit.Edit.{Edit}
use Rattle.scene_model.specs.declared.edit.Edit.TheVariants.{Attach, Detach, SetGain, Start, Stop, From, Until, Seek, Loop}
use Rattle.scene_model.specs.declared.reply.Reply.{Reply}
use Rattle.scene_model.specs.declared.reply.Reply.TheVariants.{Done, NoSuchBus, NoInput, AlreadyAttached, Cycle, NotAttached, GainTooLarge, NotSound}
use Rattle.scene_model.specs.Buses.{outputs}
use Rattle.scene_model.specs.Limits as limits
use Rattle.scene_model.specs.PlanData.{PlanData}
use Rattle.scene_model.specs.Reach.{reaches}
use Rattle.scene_model.specs.Wiring.{target, with_target, with_gain}

-- whether the node has an output of that number
abbrev pub has_output : List NodeState → ℕ → ℕ → Bool
has_output nodes node out = nat_lt out (option_map_or (λ (n : NodeState). outputs n.kind) (slice_get nodes node) 0)

abbrev pub is_sound_kind : NodeKind → Bool
is_sound_kind (Sound resource looped) = true
is_sound_kind Group = false
is_sound_kind (Splitter n) = false

-- the endpoint, which is past the nodes, is none
abbrev pub is_sound : List NodeState → ℕ → Bool
is_sound nodes node = option_map_or (λ (n : NodeState). is_sound_kind n.kind) (slice_get nodes node) false

-- An attach of a bus of `node` to the node `to`, by where the bus is attached. It would close a cycle where its own
-- node can be reached from `to`, as it can where it is that node.
abbrev pub attach_reply : List Bus → ℕ → ℕ → Option ℕ → Reply
attach_reply buses node to (Some target) = AlreadyAttached target
attach_reply buses node to None = if reaches buses to node then Cycle to else Done

-- a detach, by where the bus is attached
abbrev pub detach_reply : Option ℕ → Reply
detach_reply (Some target) = Done
detach_reply None = NotAttached

abbrev pub gain_reply : List NodeState → ℕ → ℕ → ℕ → Reply
gain_reply nodes node out gain =
    if not (has_output nodes node out) then NoSuchBus
    else (if nat_lt limits.most_gain gain then GainTooLarge else Done)

abbrev pub sound_reply : List NodeState → ℕ → Reply
sound_reply nodes node = if is_sound nodes node then Done else NotSound

-- the first refusal whose condition holds, or `Done`
abbrev pub reply : PlanData → Edit → Reply
reply p (Attach node out to) =
    if not (has_output p.nodes node out) then NoSuchBus
    else (if is_sound p.nodes to then NoInput else attach_reply p.buses node to (target p.buses node out))
reply p (Detach node out) =
    if not (has_output p.nodes node out) then NoSuchBus else detach_reply (target p.buses node out)
reply p (SetGain node out gain) = gain_reply p.nodes node out gain
reply p (Start node) = Done
reply p (Stop node) = Done
reply p (From node value) = Done
reply p (Until node value) = Done
reply p (Seek node place) = sound_reply p.nodes node
reply p (Loop node on) = sound_reply p.nodes node

-- the list with the element of that number changed
abbrev pub change_at : {X : Type 0} → (X → X) → List X → ℕ → List X
change_at change [] n = []
change_at change (x ∷ xs) zero = change x ∷ xs
change_at change (x ∷ xs) (suc n) = x ∷ change_at change xs n

-- a node with one more seek, to this place
abbrev pub with_seek : ℕ → NodeState → NodeState
with_seek place n = record n { seeks = n.seeks + 1; place = place }

abbrev pub with_node : PlanData → ℕ → (NodeState → NodeState) → PlanData
with_node p node change = record p { nodes = change_at change p.nodes node }

-- the plan with the edit made
abbrev pub made : PlanData → Edit → PlanData
made p (Attach node out to) = record p { buses = with_target node out (Some to) p.buses }
made p (Detach node out) = record p { buses = with_target node out None p.buses }
made p (SetGain node out gain) = record p { buses = with_gain node out gain p.buses }
made p (Start node) = with_node p node (λ n. record n { started = true })
made p (Stop node) = with_node p node (λ n. record n { started = false })
made p (From node value) = with_node p node (λ n. record n { from = value })
made p (Until node value) = with_node p node (λ n. record n { until = value })
made p (Seek node place) = with_node p node (with_seek place)
made p (Loop node on) = with_node p node (λ n. record n { looped = on })

abbrev pub is_done : Reply → Bool
is_done Done = true
is_done NoSuchBus = false
is_done NoInput = false
is_done (AlreadyAttached to) = false
is_done (Cycle node) = false
is_done NotAttached = false
is_done GainTooLarge = false
is_done NotSound = false

-- the plan after an edit: as it was, unless the edit is done
abbrev pub after : PlanData → Edit → PlanData
after p e = if is_done (reply p e) then made p e else p
