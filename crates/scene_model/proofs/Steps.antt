-- One step of a loop over buses, and a write to one node.
use Rattle.std.proofs.Common.{◌≡◌, ℕ, zero, suc, ◌+◌, ◌<◌, ◌≤◌, Bool, true, false, List, [], ◌∷◌, ◌++◌, length, get_or, set, take, drop, map, Option, Some, None, refl, sym, ◌∙◌, ap}
use Rattle.std.specs.Prelude.{if◌then◌else◌, find}
use Rattle.std.specs.Option.{option_and_then}
use Rattle.std.proofs.lemmas.List.{at_drop_more, at_drop_all, get_or_default}
use Rattle.std.proofs.lemmas.List.Edits.{map_over_more}
use Rattle.scene_model.specs.declared.bus.Bus.{Bus}
use Rattle.scene_model.specs.declared.node.NodeKind.TheVariants.{Sound}
use Rattle.scene_model.specs.declared.node_state.NodeState.{NodeState}
use Rattle.scene_model.specs.PlanData.{PlanData}
use Rattle.scene_model.specs.Plans.{change_at, with_node}
use Rattle.scene_model.specs.Wiring.{is_output, target, bus_with_target, bus_with_gain}

-- what a read past the end gives
abbrev pub no_bus : Bus
no_bus = record { node = 0; out = 0; to = None; gain = 0 }

abbrev pub no_node : NodeState
no_node = record { kind = Sound 0 false; started = false; from = 0; until = 0; seeks = 0; place = 0; looped = false }

target_cons : (node out : ℕ) (b : Bus) (buses : List Bus) → target (b ∷ buses) node out ≡ (if is_output node out b then b.to else target buses node out)
target_cons node out b buses = by_test (is_output node out b)
  where
    by_test : (t : Bool) → option_and_then (λ (x : Bus). x.to) (if t then Some b else find (is_output node out) buses) ≡ (if t then b.to else target buses node out)
    by_test true = refl
    by_test false = refl

target_at : (buses : List Bus) (node out i : ℕ) (d : Bus) → i < length buses → target (drop i buses) node out ≡ (if is_output node out (get_or buses i d) then (get_or buses i d).to else target (drop (i + 1) buses) node out)
target_at buses node out i d within =
    at_drop_more (λ bs. target bs node out) buses i d within ∙ target_cons node out (get_or buses i d) (drop (i + 1) buses)

pub target_more : (buses : List Bus) (node out i : ℕ) (d : Bus) → i < length buses → is_output node out (get_or buses i d) ≡ false → target (drop (i + 1) buses) node out ≡ target (drop i buses) node out
target_more buses node out i d within e =
    sym (target_at buses node out i d within ∙ ap (λ (t : Bool). if t then (get_or buses i d).to else target (drop (i + 1) buses) node out) e)

pub target_here : (buses : List Bus) (node out i : ℕ) (d : Bus) → i < length buses → is_output node out (get_or buses i d) ≡ true → (get_or buses i d).to ≡ target (drop i buses) node out
target_here buses node out i d within e =
    sym (target_at buses node out i d within ∙ ap (λ (t : Bool). if t then (get_or buses i d).to else target (drop (i + 1) buses) node out) e)

pub target_none : (buses : List Bus) (node out i : ℕ) → length buses ≤ i → None ≡ target (drop i buses) node out
target_none buses node out i whole = sym (at_drop_all (λ bs. target bs node out) buses i whole)

-- a loop that writes f x over each element x
abbrev pub IsOver : (Bus → Bus) → ℕ → List Bus → List Bus → Type 0
IsOver f i old buses = buses ≡ map f (take i old) ++ drop i old

pub over_written : (f : Bus → Bus) (old buses : List Bus) (i : ℕ) → i < length old → length buses ≡ length old → IsOver f i old buses → IsOver f (i + 1) old (set buses i (f (get_or buses i no_bus)))
over_written f old buses i within same over =
    map_over_more f old buses i (get_or buses i no_bus) within over (get_or_default buses i no_bus (get_or buses i no_bus) (rw same within))

pub bus_with_target_true : (node out : ℕ) (to : Option ℕ) (b : Bus) → is_output node out b ≡ true → record b { to = to } ≡ bus_with_target node out to b
bus_with_target_true node out to b e = rw e refl

pub bus_with_target_false : (node out : ℕ) (to : Option ℕ) (b : Bus) → is_output node out b ≡ false → b ≡ bus_with_target node out to b
bus_with_target_false node out to b e = rw e refl

pub bus_with_gain_true : (node out gain : ℕ) (b : Bus) → is_output node out b ≡ true → record b { gain = gain } ≡ bus_with_gain node out gain b
bus_with_gain_true node out gain b e = rw e refl

pub bus_with_gain_false : (node out gain : ℕ) (b : Bus) → is_output node out b ≡ false → b ≡ bus_with_gain node out gain b
bus_with_gain_false node out gain b e = rw e refl

-- a node that is read, changed and written back
change_is : (change : NodeState → NodeState) (nodes : List NodeState) (n : ℕ) → set nodes n (change (get_or nodes n no_node)) ≡ change_at change nodes n
change_is change [] n = refl
change_is change (x ∷ nodes) zero = refl
change_is change (x ∷ nodes) (suc n) = ap (λ (ns : List NodeState). x ∷ ns) (change_is change nodes n)

pub node_set : (change : NodeState → NodeState) (nodes : List NodeState) (buses : List Bus) (n : ℕ) (new : NodeState) → new ≡ change (get_or nodes n no_node) → ◌≡◌ {A = PlanData} (record { nodes = set nodes n new; buses = buses }) (with_node (record { nodes = nodes; buses = buses }) n change)
node_set change nodes buses n new e =
    ap (λ (ns : List NodeState). record { nodes = ns; buses = buses }) (ap (set nodes n) e ∙ change_is change nodes n)
