-- How many outputs nodes have in all, and the number of each.
use Rattle.std.proofs.Common.{◌≡◌, ℕ, zero, suc, ◌+◌, ◌<◌, true, List, [], ◌∷◌, ◌++◌, length, take, map, Some, refl, ◌∙◌, ap, arith}
use Rattle.std.specs.Prelude.{fold, slice_get}
use Rattle.std.specs.List.{range_with_len}
use Rattle.std.proofs.lemmas.Bool.{ltb-true}
use Rattle.std.proofs.lemmas.List.{length-append}
use Rattle.std.proofs.lemmas.List.FromFn.{length-map-range_with_len, get_or-map-range_with_len}
use Rattle.std.proofs.lemmas.List.Sums.{sum_by-cons}
use Rattle.std.proofs.lemmas.Option.{slice_get-get_or}
use Rattle.scene_model.specs.declared.bus_row.BusRow.{BusRow}
use Rattle.scene_model.specs.declared.edit.Edit.{Edit}
use Rattle.scene_model.specs.declared.node.Node.{Node}
use Rattle.scene_model.specs.Buses.{outputs, bus_count, has_bus, bus_number}
use Rattle.scene_model.specs.IsPlan.{output_of, outputs_in_order, kinds}
use Rattle.scene_model.specs.Opening.{state_of, unattached, all_outputs, unwired, row_edits, after_row, opening}
use Rattle.scene_model.specs.PlanData.{PlanData}
use Rattle.scene_model.specs.Plans.{after}
use Rattle.scene_model.specs.SceneData.{SceneData}
use Rattle.scene_model.specs.Times.{edits_at, plan_before, plan}
use Rattle.scene_model.proofs.Kept.{outputs_after, outputs_unwired}

pub length_all_outputs : (first : ℕ) (nodes : List Node) → length (all_outputs first nodes) ≡ bus_count nodes
length_all_outputs first [] = refl
length_all_outputs first (n ∷ nodes) =
    let rest = length_all_outputs (suc first) nodes in
    let here = length-map-range_with_len (unattached first) 0 (outputs n.kind) in
    rw (length-append, here, sum_by-cons (λ (x : Node). outputs x.kind) n nodes) (ap (λ k. outputs n.kind + k) rest)

-- ---- the output of a number

read_front : {X : Type 0} (xs ys : List X) (k : ℕ) → k < length xs → slice_get (xs ++ ys) k ≡ slice_get xs k
read_front [] ys k within = absurd (omega arith)
read_front (x ∷ xs) ys zero within = refl
read_front (x ∷ xs) ys (suc k) within = read_front xs ys k (omega arith)

read_behind : {X : Type 0} (xs ys : List X) (k n : ℕ) → n ≡ length xs + k → slice_get (xs ++ ys) n ≡ slice_get ys k
read_behind [] ys k n e = ap (slice_get ys) (let same : n ≡ k = omega arith in same)
read_behind (x ∷ xs) ys k n e =
    ap (slice_get (x ∷ (xs ++ ys))) (let next : n ≡ suc (length xs + k) = omega arith in next)
    ∙ read_behind xs ys k (length xs + k) refl

abbrev own_outputs : ℕ → ℕ → List (ℕ × ℕ)
own_outputs node count = map (λ out. (node, out)) (range_with_len 0 count)

own_count : (node count : ℕ) → length (own_outputs node count) ≡ count
own_count node count = length-map-range_with_len (λ (out : ℕ). (node, out)) 0 count

own_output : (node count out : ℕ) → out < count → slice_get (own_outputs node count) out ≡ Some (node, out)
own_output node count out within =
    let long = own_count node count in
    slice_get-get_or (own_outputs node count) out (0, 0) (omega arith)
    ∙ ap Some (get_or-map-range_with_len (λ (o : ℕ). (node, o)) 0 count out out (0, 0) within (omega arith))

-- `number` is that of the node, where the first of these has the number `first`
output_read : (first : ℕ) (nodes : List Node) (node out number : ℕ) → number ≡ first + node → has_bus nodes node out ≡ true → slice_get (outputs_in_order first (kinds (map state_of nodes))) (bus_number nodes node out) ≡ Some (number, out)
output_read first [] node out number is has = absurd (omega (arith, ltb-true out 0 has))
output_read first (n ∷ nodes) zero out number is has =
    let within : out < outputs n.kind = ltb-true out (outputs n.kind) has in
    let own = own_outputs first (outputs n.kind) in
    let rest = outputs_in_order (suc first) (kinds (map state_of nodes)) in
    let long = own_count first (outputs n.kind) in
    let inside : out < length own = omega arith in
    let place : bus_number (n ∷ nodes) 0 out ≡ out = omega arith in
    let same : first ≡ number = omega arith in
    ap (slice_get (own ++ rest)) place ∙ read_front own rest out inside ∙ own_output first (outputs n.kind) out within
    ∙ ap (λ (k : ℕ). Some (k, out)) same
output_read first (n ∷ nodes) (suc node) out number is has =
    let own = own_outputs first (outputs n.kind) in
    let rest = outputs_in_order (suc first) (kinds (map state_of nodes)) in
    let long = own_count first (outputs n.kind) in
    let sums = sum_by-cons (λ (x : Node). outputs x.kind) n (take node nodes) in
    let place : bus_number (n ∷ nodes) (suc node) out ≡ length own + bus_number nodes node out = omega arith in
    let is_next : number ≡ suc first + node = omega arith in
    read_behind own rest (bus_number nodes node out) (bus_number (n ∷ nodes) (suc node) out) place
    ∙ output_read (suc first) nodes node out number is_next has

-- ---- in the plans of a scene

outputs_run : (es : List Edit) (p : PlanData) → map output_of (fold after p es).buses ≡ map output_of p.buses
outputs_run [] p = refl
outputs_run (e ∷ es) p = outputs_run es (after p e) ∙ outputs_after p e

outputs_rows : (rows : List BusRow) (p : PlanData) → map output_of (fold after_row p rows).buses ≡ map output_of p.buses
outputs_rows [] p = refl
outputs_rows (b ∷ rows) p = outputs_rows rows (after_row p b) ∙ outputs_run (row_edits b) p

outputs_before : (s : SceneData) (t : ℕ) → map output_of (plan_before s t).buses ≡ map output_of (opening s).buses
unfolding plan_before
outputs_before s zero = refl
outputs_before s (suc t) = outputs_run (edits_at s.edits t) (plan_before s t) ∙ outputs_before s t

outputs_opening : (s : SceneData) → map output_of (opening s).buses ≡ outputs_in_order 0 (kinds (map state_of s.nodes))
outputs_opening s = outputs_rows s.buses (unwired s.nodes) ∙ outputs_unwired 0 s.nodes

pub number_later : (s : SceneData) (edits : List Edit) (node out : ℕ) → has_bus s.nodes node out ≡ true → slice_get (map output_of (fold after (opening s) edits).buses) (bus_number s.nodes node out) ≡ Some (node, out)
number_later s edits node out has =
    ap (λ (os : List (ℕ × ℕ)). slice_get os (bus_number s.nodes node out)) (outputs_run edits (opening s) ∙ outputs_opening s)
    ∙ output_read 0 s.nodes node out node (omega arith) has

pub number_at : (s : SceneData) (t node out : ℕ) → has_bus s.nodes node out ≡ true → slice_get (map output_of (plan s t).buses) (bus_number s.nodes node out) ≡ Some (node, out)
number_at s t node out has =
    ap (λ (os : List (ℕ × ℕ)). slice_get os (bus_number s.nodes node out))
    (outputs_run (edits_at s.edits t) (plan_before s t) ∙ outputs_before s t ∙ outputs_opening s)
    ∙ output_read 0 s.nodes node out node (omega arith) has
