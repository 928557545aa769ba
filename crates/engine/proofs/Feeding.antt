-- The buses that are attached to a node, by their numbers.
use Rattle.std.proofs.Common.{◌≡◌, ℕ, zero, suc, ◌+◌, ◌<◌, ◌≤◌, Bool, true, false, ℤ, List, [], ◌∷◌, ◌++◌, length, map, get_or, take, cond, inl, inr, Option, Some, None, refl, sym, ◌∙◌, ap, subst, arith}
use Rattle.std.specs.Prelude.{All, Contains, filter, slice_index_or}
use Rattle.std.specs.List.{range_with_len}
use Rattle.std.specs.List.Sorted.{IsPermutation}
use Rattle.std.specs.Option.{option_map_or}
use Rattle.std.proofs.lemmas.Bool.{cases_lt, false≢true}
use Rattle.std.proofs.lemmas.List.{map-append, map-id, take_all, get_or-map, get_or_default, length-map}
use Rattle.std.proofs.lemmas.List.Elements.{filter_more, filter_passes}
use Rattle.std.proofs.lemmas.List.FromFn.{filter_of_map_range_with_len_more}
use Rattle.std.proofs.lemmas.List.Sorted.{All-permutation, IsPermutation-map}
use Rattle.std.proofs.lemmas.Option.{slice_get_past, slice_get-get_or}
use Rattle.scene_model.specs.declared.bus.Bus.{Bus}
use Rattle.scene_model.specs.PlanData.{PlanData}
use Rattle.node_graph.specs.Attached.{leads_to, is_attached, attached}
use Rattle.mix_model.specs.OrderedBuses.{no_bus}
use Rattle.mix_model.specs.Pulled.{no_node, node, is_active}
use Rattle.mix_model.specs.Signals.{is_attached_to}
use Rattle.mix_model.proofs.Inputs.{attached_is}
use Rattle.engine.specs.Span.{Span, AreFeeds, AreOutputs, FeedsKept, IsFed, IsSteadyAt, bus_at, buses_at, kept_at}

-- whether a bus leads to a node, in the words of the graph and of the mix
leads_same : (n : ℕ) (b : Bus) → leads_to n b ≡ is_attached_to n b.to
leads_same n b = by_target b.to refl
  where
    by_target : (o : Option ℕ) → b.to ≡ o → leads_to n b ≡ is_attached_to n b.to
    by_target None e = rw e refl
    by_target (Some to) e = rw e refl

attached_here : (buses : List Bus) (n k : ℕ) → k < length buses → is_attached buses n k ≡ is_attached_to n (bus_at buses k).to
attached_here buses n k inside =
    ap (λ (o : Option Bus). option_map_or (leads_to n) o false) (slice_get-get_or buses k no_bus inside) ∙ leads_same n (bus_at buses k)

-- a bus of that number is there, and it is attached to node n
pub record IsFeedAt (buses : List Bus) (n k : ℕ) : Type 0 where
  pub inside : k < length buses
  pub to_is : (bus_at buses k).to ≡ Some n

feed_at : (buses : List Bus) (n k : ℕ) → is_attached buses n k ≡ true → IsFeedAt buses n k
feed_at buses n k is = elim (cases_lt k (length buses)) [
  | inl inside ↦ record { inside = inside; to_is = attached_is n (bus_at buses k).to (sym (attached_here buses n k inside) ∙ is) }
  | inr past ↦ absurd (false≢true (sym (ap (λ (o : Option Bus). option_map_or (leads_to n) o false) (slice_get_past buses k past)) ∙ is))
]

pub feeds_there : (buses : List Bus) (n : ℕ) (numbers : List ℕ) → IsPermutation (attached buses n) numbers → All (IsFeedAt buses n) numbers
feeds_there buses n numbers moves =
    All-permutation (IsFeedAt buses n) (attached buses n) numbers moves
    (λ k d inside. feed_at buses n (get_or (attached buses n) k d) (filter_passes (is_attached buses n) (range_with_len 0 (length buses)) k d inside))

-- ---- the buses of those numbers are the buses that are attached

one_more : (buses : List Bus) (k : ℕ) (b : Bool) → map (bus_at buses) (cond b (k ∷ []) []) ≡ cond b (bus_at buses k ∷ []) []
one_more buses k true = refl
one_more buses k false = refl

first_attached : (buses : List Bus) (n i : ℕ) → i ≤ length buses
    → map (bus_at buses) (filter (is_attached buses n) (map (λ k. k) (range_with_len 0 i))) ≡ filter (λ (b : Bus). is_attached_to n b.to) (take i buses)
first_attached buses n zero within = refl
first_attached buses n (suc i) within =
    let next : suc i ≡ i + 1 = omega arith in
    let numbers = filter (is_attached buses n) (map (λ k. k) (range_with_len 0 i)) in
    ap (λ m. map (bus_at buses) (filter (is_attached buses n) (map (λ k. k) (range_with_len 0 m)))) next
    ∙ ap (map (bus_at buses)) (filter_of_map_range_with_len_more (is_attached buses n) (λ k. k) 0 i i (omega arith))
    ∙ map-append (bus_at buses) numbers (cond (is_attached buses n i) (i ∷ []) [])
    ∙ ap (λ (xs : List Bus). map (bus_at buses) numbers ++ xs) (one_more buses i (is_attached buses n i))
    ∙ ap (λ (xs : List Bus). xs ++ cond (is_attached buses n i) (bus_at buses i ∷ []) []) (first_attached buses n i (omega arith))
    ∙ ap (λ (b : Bool). filter (λ (x : Bus). is_attached_to n x.to) (take i buses) ++ cond b (bus_at buses i ∷ []) []) (attached_here buses n i (omega arith))
    ∙ sym (filter_more (λ (x : Bus). is_attached_to n x.to) buses i no_bus (omega arith))
    ∙ ap (λ m. filter (λ (x : Bus). is_attached_to n x.to) (take m buses)) (sym next)

pub feeds_are : (buses : List Bus) (n : ℕ) (numbers : List ℕ) → IsPermutation (attached buses n) numbers → AreFeeds n buses (buses_at buses numbers)
feeds_are buses n numbers moves =
    let plain : map (λ k. k) (range_with_len 0 (length buses)) ≡ range_with_len 0 (length buses) = map-id (range_with_len 0 (length buses)) in
    let all : map (bus_at buses) (attached buses n) ≡ filter (λ (b : Bus). is_attached_to n b.to) buses =
    ap (λ ks. map (bus_at buses) (filter (is_attached buses n) ks)) (sym plain)
    ∙ first_attached buses n (length buses) (omega arith)
    ∙ ap (filter (λ (b : Bus). is_attached_to n b.to)) (take_all (length buses) buses (omega arith)) in
    subst (λ (bs : List Bus). IsPermutation bs (buses_at buses numbers)) all (IsPermutation-map (bus_at buses) (attached buses n) numbers moves)

-- ---- and so the node is fed

pub fed : (s : Span) (p : PlanData) (n time count : ℕ) (numbers : List ℕ) (kept : List ℤ) → s.first.plan ≡ p → s.first.time ≡ time → IsSteadyAt s count
    → IsPermutation (attached p.buses n) numbers → FeedsKept s count n kept → IsFed s n time count p.nodes (buses_at p.buses numbers) kept
fed s p n time count numbers kept plan_is time_is steady moves feeds = record {
  time_is = time_is;
  nodes_are = ap (λ (q : PlanData). q.nodes) plan_is;
  steady = steady;
  attached = λ k lt. ap (λ (b : Bus). b.to) (here k lt) ∙ (there k lt).to_is;
  outputs = λ k lt active. subst (λ (b : Bus). AreOutputs s count b.node (kept_at kept b.node)) (sym (here k lt)) (outputs_of k lt (ap (λ (b : Bus). is_active time (slice_index_or p.nodes b.node no_node)) (sym (here k lt)) ∙ active));
}
  where
    inside : (k : ℕ) → k < length (buses_at p.buses numbers) → k < length numbers
    inside k lt = omega (arith, lt, length-map numbers (bus_at p.buses))

    here : (k : ℕ) → k < length (buses_at p.buses numbers) → slice_index_or (buses_at p.buses numbers) k no_bus ≡ bus_at p.buses (get_or numbers k 0)
    here k lt = get_or-map (bus_at p.buses) numbers k 0 no_bus (inside k lt)

    there : (k : ℕ) → k < length (buses_at p.buses numbers) → IsFeedAt p.buses n (get_or numbers k 0)
    there k lt = feeds_there p.buses n numbers moves k 0 (inside k lt)

    outputs_of : (k : ℕ) → k < length (buses_at p.buses numbers) → is_active time (slice_index_or p.nodes (bus_at p.buses (get_or numbers k 0)).node no_node) ≡ true
        → AreOutputs s count (bus_at p.buses (get_or numbers k 0)).node (kept_at kept (bus_at p.buses (get_or numbers k 0)).node)
    outputs_of k lt active =
        let b = bus_at p.buses (get_or numbers k 0) in
        let among : Contains p.buses b = (get_or numbers k 0, (there k lt).inside, get_or_default p.buses (get_or numbers k 0) b no_bus (there k lt).inside) in
        let is_on : is_active s.first.time (node s.first.plan b.node) ≡ true =
        ap (λ t. is_active t (node s.first.plan b.node)) time_is ∙ ap (λ (q : PlanData). is_active time (node q b.node)) plan_is ∙ active in
        feeds b (subst (λ (q : PlanData). Contains q.buses b) (sym plan_is) among) (there k lt).to_is is_on
