-- No edit changes a kind, nor which outputs there are.
use Rattle.std.proofs.Common.{◌≡◌, ℕ, zero, suc, Bool, true, false, List, [], ◌∷◌, ◌++◌, map, refl, ◌∙◌, ap, Option, Some, None}
use Rattle.std.specs.Prelude.{if◌then◌else◌}
use Rattle.std.specs.List.{range_with_len}
use Rattle.std.proofs.lemmas.List.{map-append}
use Rattle.scene_model.specs.declared.bus.Bus.{Bus}
use Rattle.scene_model.specs.declared.node.Node.{Node}
use Rattle.scene_model.specs.declared.node_state.NodeState.{NodeState}
use Rattle.scene_model.specs.declared.edit.Edit.{Edit}
use Rattle.scene_model.specs.declared.edit.Edit.TheVariants.{Attach, Detach, SetGain, Start, Stop, From, Until, Seek, Loop}
use Rattle.scene_model.specs.Buses.{outputs}
use Rattle.scene_model.specs.IsPlan.{output_of, outputs_in_order, kinds}
use Rattle.scene_model.specs.Opening.{unattached, outputs_of, all_outputs, state_of}
use Rattle.scene_model.specs.PlanData.{PlanData}
use Rattle.scene_model.specs.Plans.{reply, made, is_done, change_at, after, with_seek}
use Rattle.scene_model.specs.Wiring.{is_output, bus_with_target, with_target, bus_with_gain, with_gain}

map_kept : {X Y : Type 0} (view : X → Y) (f : X → X) → ((x : X) → view (f x) ≡ view x) → (xs : List X) → map view (map f xs) ≡ map view xs
map_kept view f same [] = refl
map_kept view f same (x ∷ xs) = ap (λ y. y ∷ map view (map f xs)) (same x) ∙ ap (λ ys. view x ∷ ys) (map_kept view f same xs)

change_at_kept : {X Y : Type 0} (view : X → Y) (change : X → X) → ((x : X) → view (change x) ≡ view x) → (xs : List X) (n : ℕ) → map view (change_at change xs n) ≡ map view xs
change_at_kept view change same [] n = refl
change_at_kept view change same (x ∷ xs) zero = ap (λ y. y ∷ map view xs) (same x)
change_at_kept view change same (x ∷ xs) (suc n) = ap (λ ys. view x ∷ ys) (change_at_kept view change same xs n)

bus_with_target_output : (is_it : Bool) (to : Option ℕ) (b : Bus) → output_of (if is_it then record b { to = to } else b) ≡ output_of b
bus_with_target_output true to b = refl
bus_with_target_output false to b = refl

bus_with_gain_output : (is_it : Bool) (gain : ℕ) (b : Bus) → output_of (if is_it then record b { gain = gain } else b) ≡ output_of b
bus_with_gain_output true gain b = refl
bus_with_gain_output false gain b = refl

pub outputs_with_target : (node out : ℕ) (to : Option ℕ) (buses : List Bus) → map output_of (with_target node out to buses) ≡ map output_of buses
outputs_with_target node out to buses =
    map_kept output_of (bus_with_target node out to) (λ b. bus_with_target_output (is_output node out b) to b) buses

pub outputs_with_gain : (node out gain : ℕ) (buses : List Bus) → map output_of (with_gain node out gain buses) ≡ map output_of buses
outputs_with_gain node out gain buses =
    map_kept output_of (bus_with_gain node out gain) (λ b. bus_with_gain_output (is_output node out b) gain b) buses

pub kinds_changed : (nodes : List NodeState) (n : ℕ) (change : NodeState → NodeState) → ((x : NodeState) → (change x).kind ≡ x.kind) → kinds (change_at change nodes n) ≡ kinds nodes
kinds_changed nodes n change same = change_at_kept (λ (x : NodeState). x.kind) change same nodes n

kinds_made : (p : PlanData) (e : Edit) → kinds (made p e).nodes ≡ kinds p.nodes
kinds_made p (Attach node out to) = refl
kinds_made p (Detach node out) = refl
kinds_made p (SetGain node out gain) = refl
kinds_made p (Start node) = kinds_changed p.nodes node (λ n. record n { started = true }) (λ n. refl)
kinds_made p (Stop node) = kinds_changed p.nodes node (λ n. record n { started = false }) (λ n. refl)
kinds_made p (From node value) = kinds_changed p.nodes node (λ n. record n { from = value }) (λ n. refl)
kinds_made p (Until node value) = kinds_changed p.nodes node (λ n. record n { until = value }) (λ n. refl)
kinds_made p (Seek node place) = kinds_changed p.nodes node (with_seek place) (λ n. refl)
kinds_made p (Loop node on) = kinds_changed p.nodes node (λ n. record n { looped = on }) (λ n. refl)

outputs_made : (p : PlanData) (e : Edit) → map output_of (made p e).buses ≡ map output_of p.buses
outputs_made p (Attach node out to) = outputs_with_target node out (Some to) p.buses
outputs_made p (Detach node out) = outputs_with_target node out None p.buses
outputs_made p (SetGain node out gain) = outputs_with_gain node out gain p.buses
outputs_made p (Start node) = refl
outputs_made p (Stop node) = refl
outputs_made p (From node value) = refl
outputs_made p (Until node value) = refl
outputs_made p (Seek node place) = refl
outputs_made p (Loop node on) = refl

pub kinds_after : (p : PlanData) (e : Edit) → kinds (after p e).nodes ≡ kinds p.nodes
kinds_after p e = either (is_done (reply p e))
  where
    either : (d : Bool) → kinds (if d then made p e else p).nodes ≡ kinds p.nodes
    either true = kinds_made p e
    either false = refl

pub outputs_after : (p : PlanData) (e : Edit) → map output_of (after p e).buses ≡ map output_of p.buses
outputs_after p e = either (is_done (reply p e))
  where
    either : (d : Bool) → map output_of (if d then made p e else p).buses ≡ map output_of p.buses
    either true = outputs_made p e
    either false = refl

map_map : {X Y Z : Type 0} (g : Y → Z) (f : X → Y) (xs : List X) → map g (map f xs) ≡ map (λ x. g (f x)) xs
map_map g f [] = refl
map_map g f (x ∷ xs) = ap (λ ys. g (f x) ∷ ys) (map_map g f xs)

-- the outputs that a plan has from the start
pub outputs_unwired : (first : ℕ) (nodes : List Node) → map output_of (all_outputs first nodes) ≡ outputs_in_order first (kinds (map state_of nodes))
outputs_unwired first [] = refl
outputs_unwired first (n ∷ nodes) =
    map-append output_of (outputs_of first (outputs n.kind)) (all_outputs (suc first) nodes) ∙ ap (λ os. os ++ map output_of (all_outputs (suc first) nodes)) (map_map output_of (unattached first) (range_with_len 0 (outputs n.kind))) ∙ ap (λ os. map (λ out. (first, out)) (range_with_len 0 (outputs n.kind)) ++ os) (outputs_unwired (suc first) nodes)
