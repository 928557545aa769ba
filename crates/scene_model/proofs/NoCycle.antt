-- No edit closes a cycle.
use Rattle.std.proofs.Common.{◌≡◌, ℕ, zero, suc, Bool, true, false, not, eqb, ◌⊎◌, inl, inr, List, [], ◌∷◌, map, Option, None, Some, refl, sym, ◌∙◌, ap, subst, arith}
use Rattle.std.specs.Prelude.{Contains, All, fold, if◌then◌else◌}
use Rattle.std.proofs.lemmas.Bool.{and_parts, false≢true, eqb-true}
use Rattle.std.proofs.lemmas.List.Elements.{All-contains}
use Rattle.scene_model.specs.declared.bus.Bus.{Bus}
use Rattle.scene_model.specs.declared.edit.Edit.{Edit}
use Rattle.scene_model.specs.declared.edit.Edit.TheVariants.{Attach, Detach, SetGain, Start, Stop, From, Until, Seek, Loop}
use Rattle.scene_model.specs.declared.reply.Reply.TheVariants.{Done, NoSuchBus, NoInput, Cycle}
use Rattle.scene_model.specs.PlanData.{PlanData}
use Rattle.scene_model.specs.Plans.{reply, attach_reply, made, is_done, after, has_output, is_sound}
use Rattle.scene_model.specs.Reach.{Leads, Path, HasNoCycle, reaches}
use Rattle.scene_model.specs.Wiring.{is_output, target, bus_with_target, with_target, bus_with_gain, with_gain}
use Rattle.scene_model.proofs.Reachable.{reaches_itself, reaches_next, reaches_on, reaches_is}

-- without a cycle no bus's node is reached from its target
not_back : (buses : List Bus) → HasNoCycle buses → (b : Bus) (next : ℕ) → Contains buses b → b.to ≡ Some next → reaches buses next b.node ≡ true → ⊥
not_back buses none b next h e r =
    let w = (reaches_is buses next b.node).0 r in
    let step : Leads buses b.node b next = record { among = h; node_is = refl; to_is = e } in
    none b.node b w.0 (next, step, w.1)

-- some bus of these leads there
abbrev IsEdge : List Bus → ℕ → ℕ → Type 0
IsEdge buses from next = (b : Bus) × Leads buses from b next

reaches_edge : (buses : List Bus) (from next : ℕ) → IsEdge buses from next → reaches buses from next ≡ true
reaches_edge buses from next (b, l) = rw (← l.node_is) (reaches_next buses b next l.among l.to_is)

not_back_edge : (buses : List Bus) → HasNoCycle buses → (from next : ℕ) → IsEdge buses from next → reaches buses next from ≡ true → ⊥
not_back_edge buses none from next (b, l) r = not_back buses none b next l.among l.to_is (rw l.node_is r)

-- buses that lead nowhere new close no cycle
no_cycle_from_fewer : (old new : List Bus) → ((from : ℕ) (b : Bus) (next : ℕ) → Leads new from b next → IsEdge old from next) → HasNoCycle old → HasNoCycle new
no_cycle_from_fewer old new is_old none n b path (next, step, rest) =
    not_back_edge old none n next (is_old n b next step) (reached path next n rest)
  where
    reached : (path : List Bus) (a c : ℕ) → Path new a path c → reaches old a c ≡ true
    reached [] a c e = rw e (reaches_itself old c)
    reached (x ∷ path) a c (m, step, rest) =
        reaches_on old a m c (reaches_edge old a m (is_old a x m step)) (reached path m c rest)

-- nor does one more bus, where its node isn't reached from its target
no_cycle_from_one_more : (old new : List Bus) (node to : ℕ) → ((from : ℕ) (b : Bus) (next : ℕ) → Leads new from b next → IsEdge old from next ⊎ ((from ≡ node) × (next ≡ to))) → reaches old to node ≡ false → HasNoCycle old → HasNoCycle new
no_cycle_from_one_more old new node to is_either apart none n b path (next, step, rest) =
    elim (cut path next n rest) [
      | inl r ↦ elim (is_either n b next step) [
        | inl e ↦ not_back_edge old none n next e r
        | inr q ↦ clash (subst (λ x. reaches old to x ≡ true) q.0 (subst (λ x. reaches old x n ≡ true) q.1 r))
      ]
      | inr w ↦ elim (is_either n b next step) [
        | inl e ↦ clash (reaches_on old to n node w.1 (reaches_on old n next node (reaches_edge old n next e) w.0))
        | inr q ↦ clash (subst (λ x. reaches old to x ≡ true) q.0 w.1)
      ]
    ]
  where
    clash : reaches old to node ≡ true → ⊥
    clash r = false≢true (sym apart ∙ r)

    cut : (path : List Bus) (a c : ℕ) → Path new a path c → (reaches old a c ≡ true) ⊎ ((reaches old a node ≡ true) × (reaches old to c ≡ true))
    cut [] a c e = inl (rw e (reaches_itself old c))
    cut (x ∷ path) a c (m, step, rest) =
        elim (cut path m c rest) [
          | inl r ↦ elim (is_either a x m step) [
            | inl e ↦ inl (reaches_on old a m c (reaches_edge old a m e) r)
            | inr q ↦ inr (rw q.0 (reaches_itself old node), subst (λ y. reaches old y c ≡ true) q.1 r)
          ]
          | inr w ↦ elim (is_either a x m step) [
            | inl e ↦ inr (reaches_on old a m node (reaches_edge old a m e) w.0, w.1)
            | inr q ↦ inr (rw q.0 (reaches_itself old node), w.1)
          ]
        ]

-- an element of a list under a map
from_map : {X Y : Type 0} (f : X → Y) (xs : List X) (y : Y) → Contains (map f xs) y → (x : X) × Contains xs x × (y ≡ f x)
from_map f [] y (k, h, e) = absurd (omega arith)
from_map f (x ∷ xs) y (zero, h, e) = (x, (0, omega arith, refl), sym e)
from_map f (x ∷ xs) y (suc k, h, e) =
    let w = from_map f xs y (k, omega arith, e) in
    (w.0, (suc w.1.0, omega (arith, w.1.1), w.1.2), w.2)

-- the buses of a changed wiring, by what they were
bus_with_target_edge : (old : List Bus) (node out to : ℕ) (is_it : Bool) (x y : Bus) (from next : ℕ) → (is_it ≡ true → x.node ≡ node) → Contains old x → y ≡ (if is_it then record x { to = Some to } else x) → y.node ≡ from → y.to ≡ Some next → IsEdge old from next ⊎ ((from ≡ node) × (next ≡ to))
bus_with_target_edge old node out to true x y from next named h e n t = inr (sym n ∙ (ap (λ (b : Bus). b.node) e ∙ named refl), cc)
bus_with_target_edge old node out to false x y from next named h e n t =
    inl (x, record { among = h; node_is = ap (λ (b : Bus). b.node) (sym e) ∙ n; to_is = ap (λ (b : Bus). b.to) (sym e) ∙ t })

detached_edge : (old : List Bus) (is_it : Bool) (x y : Bus) (from next : ℕ) → Contains old x → y ≡ (if is_it then record x { to = None } else x) → y.node ≡ from → y.to ≡ Some next → IsEdge old from next
detached_edge old true x y from next h e n t = cc
detached_edge old false x y from next h e n t =
    (x, record { among = h; node_is = ap (λ (b : Bus). b.node) (sym e) ∙ n; to_is = ap (λ (b : Bus). b.to) (sym e) ∙ t })

bus_with_gain_edge : (old : List Bus) (gain : ℕ) (is_it : Bool) (x y : Bus) (from next : ℕ) → Contains old x → y ≡ (if is_it then record x { gain = gain } else x) → y.node ≡ from → y.to ≡ Some next → IsEdge old from next
bus_with_gain_edge old gain true x y from next h e n t =
    (x, record { among = h; node_is = ap (λ (b : Bus). b.node) (sym e) ∙ n; to_is = ap (λ (b : Bus). b.to) (sym e) ∙ t })
bus_with_gain_edge old gain false x y from next h e n t =
    (x, record { among = h; node_is = ap (λ (b : Bus). b.node) (sym e) ∙ n; to_is = ap (λ (b : Bus). b.to) (sym e) ∙ t })

is_output_node : (node out : ℕ) (b : Bus) → is_output node out b ≡ true → b.node ≡ node
is_output_node node out b h = eqb-true b.node node (and_parts (eqb b.node node) (eqb b.out out) h).0

no_cycle_attached : (buses : List Bus) (node out to : ℕ) → reaches buses to node ≡ false → HasNoCycle buses → HasNoCycle (with_target node out (Some to) buses)
no_cycle_attached buses node out to apart none =
    no_cycle_from_one_more buses (with_target node out (Some to) buses) node to
    (λ from b next step.
    let w = from_map (bus_with_target node out (Some to)) buses b step.among in
    bus_with_target_edge buses node out to (is_output node out w.0) w.0 b from next (is_output_node node out w.0) w.1 w.2 step.node_is step.to_is)
    apart none

no_cycle_detached : (buses : List Bus) (node out : ℕ) → HasNoCycle buses → HasNoCycle (with_target node out None buses)
no_cycle_detached buses node out none =
    no_cycle_from_fewer buses (with_target node out None buses)
    (λ from b next step.
    let w = from_map (bus_with_target node out None) buses b step.among in
    detached_edge buses (is_output node out w.0) w.0 b from next w.1 w.2 step.node_is step.to_is)
    none

no_cycle_bus_with_gain : (buses : List Bus) (node out gain : ℕ) → HasNoCycle buses → HasNoCycle (with_gain node out gain buses)
no_cycle_bus_with_gain buses node out gain none =
    no_cycle_from_fewer buses (with_gain node out gain buses)
    (λ from b next step.
    let w = from_map (bus_with_gain node out gain) buses b step.among in
    bus_with_gain_edge buses gain (is_output node out w.0) w.0 b from next w.1 w.2 step.node_is step.to_is)
    none

-- an attach is done only where it closes no cycle
apart_from_done : (buses : List Bus) (node to : ℕ) (has sound : Bool) (at : Option ℕ) → is_done (if not has then NoSuchBus else (if sound then NoInput else attach_reply buses node to at)) ≡ true → reaches buses to node ≡ false
apart_from_done buses node to false sound at e = absurd (false≢true e)
apart_from_done buses node to true true at e = absurd (false≢true e)
apart_from_done buses node to true false (Some n) e = absurd (false≢true e)
apart_from_done buses node to true false None e = by_test (reaches buses to node) e
  where
    by_test : (r : Bool) → is_done (if r then Cycle to else Done) ≡ true → r ≡ false
    by_test true e = absurd (false≢true e)
    by_test false e = refl

pub no_cycle_made : (p : PlanData) (e : Edit) → is_done (reply p e) ≡ true → HasNoCycle p.buses → HasNoCycle (made p e).buses
no_cycle_made p (Attach node out to) d none =
    no_cycle_attached p.buses node out to (apart_from_done p.buses node to (has_output p.nodes node out) (is_sound p.nodes to) (target p.buses node out) d) none
no_cycle_made p (Detach node out) d none = no_cycle_detached p.buses node out none
no_cycle_made p (SetGain node out gain) d none = no_cycle_bus_with_gain p.buses node out gain none
no_cycle_made p (Start node) d none = none
no_cycle_made p (Stop node) d none = none
no_cycle_made p (From node value) d none = none
no_cycle_made p (Until node value) d none = none
no_cycle_made p (Seek node place) d none = none
no_cycle_made p (Loop node on) d none = none

no_cycle_either : (d : Bool) (p q : PlanData) → (d ≡ true → HasNoCycle q.buses) → HasNoCycle p.buses → HasNoCycle (if d then q else p).buses
no_cycle_either true p q made none = made refl
no_cycle_either false p q made none = none

pub no_cycle_after : (p : PlanData) (e : Edit) → HasNoCycle p.buses → HasNoCycle (after p e).buses
no_cycle_after p e none =
    no_cycle_either (is_done (reply p e)) p (made p e) (λ d. no_cycle_made p e d none) none

pub no_cycle_run : (p : PlanData) (es : List Edit) → HasNoCycle p.buses → HasNoCycle (fold after p es).buses
no_cycle_run p [] none = none
no_cycle_run p (e ∷ es) none = no_cycle_run (after p e) es (no_cycle_after p e none)

-- buses that are attached nowhere have none
pub no_cycle_unattached : (buses : List Bus) → All (λ (b : Bus). b.to ≡ None) buses → HasNoCycle buses
no_cycle_unattached buses nowhere n b path (next, step, rest) =
    cc (All-contains (λ (b : Bus). b.to ≡ None) buses b nowhere step.among, step.to_is)
