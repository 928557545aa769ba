-- The list of an input while the buses are gone through, and the lists while the nodes are.
use Rattle.std.proofs.Common.{◌≡◌, ℕ, ◌+◌, ◌<◌, ◌≤◌, ◌^◌, Bool, true, false, List, [], ◌∷◌, ◌++◌, length, get_or, take, Option, Some, None, refl, sym, ◌∙◌, ap, subst, arith, ◌⊎◌, inl, inr, length-append}
use Rattle.std.specs.Prelude.{IfSome}
use Rattle.std.specs.Option.{option_map}
use Rattle.std.proofs.lemmas.Bool.{cases_eq, cases_lt, lt-ltb}
use Rattle.std.proofs.lemmas.List.{get_or_append_left, get_or_past, get_or_push, take_all}
use Rattle.std.proofs.lemmas.Option.{none-some}
use Rattle.bus_list.specs.declared.history.Entry.TheVariants.{On}
use Rattle.bus_list.specs.Visits.{attached_feed}
use Rattle.bus_list.proofs.Visits.{feed_attached, feed_else}
use Rattle.plain_data.proofs.Lists.{IfSome-at}
use Rattle.scene_model.specs.declared.bus.Bus.{Bus}
use Rattle.scene_model.specs.Limits as limits
use Rattle.scene_model.specs.PlanData.{PlanData}
use Rattle.node_graph.specs.declared.feed.Feed.{Feed}
use Rattle.node_graph.specs.Attached.{leads_to, is_attached}
use Rattle.node_graph.specs.ListData.{ListData, feed_of, is_kept, list_numbers, IsListOf, IsInputOf, AreInputsOf, HadAtMost}
use Rattle.node_graph.specs.ListChanges.{with_edit, CanAttach}
use Rattle.node_graph.proofs.Feeds.{grown, if_listed, feed_here, numbers_least}
use Rattle.node_graph.proofs.Taken.{taken_past, taken_more, taken_next, taken_same}

-- the list of a node among the first buses
pub record IsGathered (buses : List Bus) (node i : ℕ) (list : ListData) : Type 0 where
  pub within : i ≤ length buses
  pub numbers_are : list.numbers ≡ list_numbers (length buses)
  pub short : length list.history ≤ i
  pub each_is : (k : ℕ) → attached_feed list.history k ≡ if_listed (is_attached (take i buses) node k) (feed_of buses k)

abbrev pub IsGatheredIn : List Bus → ℕ → ℕ → Option ListData → Type 0
IsGatheredIn buses node i input = (list : ListData) × (input ≡ Some list) × IsGathered buses node i list

pub gathered_none : (buses : List Bus) (node : ℕ) (input : Option ListData) → input ≡ Some (record { numbers = list_numbers (length buses); history = [] }) → IsGatheredIn buses node 0 input
gathered_none buses node input e =
    (record { numbers = list_numbers (length buses); history = [] }, e, record { within = omega arith; numbers_are = refl; short = omega arith; each_is = λ k. refl })

pub gathered_free : (buses : List Bus) (node i : ℕ) (input : Option ListData) → i < length buses → length buses ≤ limits.most_buses → IsGatheredIn buses node i input → IfSome input (λ (list : ListData). is_kept list ≡ true → CanAttach i list)
gathered_free buses node i input below few (list, is, w) =
    subst (λ (o : Option ListData). IfSome o (λ (l : ListData). is_kept l ≡ true → CanAttach i l)) (sym is) (λ kept. can)
  where
    can : CanAttach i list
    can = record {
      bus_is = (let numbers = w.numbers_are in omega (arith, numbers_least (length buses)));
      off = w.each_is i ∙ ap (λ (t : Bool). if_listed t (feed_of buses i)) (taken_past buses node i i (omega arith) (omega arith));
    }

abbrev feed_next : List Bus → ℕ → Bus → Feed
feed_next buses i d = record { bus = i; node = (get_or buses i d).node; out = (get_or buses i d).out }

pub gathered_more : (buses : List Bus) (node i : ℕ) (d : Bus) (input : Option ListData) → length buses ≤ limits.most_buses → i < length buses → leads_to node (get_or buses i d) ≡ true → IsGatheredIn buses node i input → IsGatheredIn buses node (i + 1) (option_map (with_edit (On i (record { bus = i; node = (get_or buses i d).node; out = (get_or buses i d).out }))) input)
gathered_more buses node i d input few below leads_here (list, is, w) = (
  record list { history = list.history ++ On i (feed_next buses i d) ∷ [] },
  ap (option_map (with_edit (On i (feed_next buses i d)))) is ∙ ap Some (grown (On i (feed_next buses i d)) list kept),
  record {
    within = omega arith;
    numbers_are = w.numbers_are;
    short = (let short = w.short in omega (arith, length-append list.history (On i (feed_next buses i d) ∷ [])));
    each_is = λ k. by_number k (cases_eq k i);
  },
)
  where
    kept : is_kept list ≡ true
    kept = lt-ltb (length list.history) (2 ^ 62) (let short = w.short in omega arith)

    here : attached_feed (list.history ++ On i (feed_next buses i d) ∷ []) i ≡ if_listed (is_attached (take (i + 1) buses) node i) (feed_of buses i)
    here =
        feed_attached list.history i (feed_next buses i d) i refl
        ∙ sym (ap (λ (t : Bool). if_listed t (feed_of buses i)) (taken_next buses node i d below ∙ leads_here) ∙ feed_here buses i d below)

    by_number : (k : ℕ) → (k ≡ i) ⊎ (k ≡ i → ⊥) → attached_feed (list.history ++ On i (feed_next buses i d) ∷ []) k ≡ if_listed (is_attached (take (i + 1) buses) node k) (feed_of buses k)
    by_number k (inl same) =
        subst (λ (j : ℕ). attached_feed (list.history ++ On i (feed_next buses i d) ∷ []) j ≡ if_listed (is_attached (take (i + 1) buses) node j) (feed_of buses j)) (sym same) here
    by_number k (inr other) =
        feed_else list.history (On i (feed_next buses i d)) k other ∙ w.each_is k
        ∙ ap (λ (t : Bool). if_listed t (feed_of buses k)) (sym (taken_more buses node i k below (λ same. other (sym same))))

pub gathered_same : (buses : List Bus) (node i : ℕ) (d : Bus) (input : Option ListData) → i < length buses → leads_to node (get_or buses i d) ≡ false → IsGatheredIn buses node i input → IsGatheredIn buses node (i + 1) input
gathered_same buses node i d input below leads_away (list, is, w) = (
  list,
  is,
  record {
    within = omega arith;
    numbers_are = w.numbers_are;
    short = (let short = w.short in omega arith);
    each_is = λ k. w.each_is k ∙ ap (λ (t : Bool). if_listed t (feed_of buses k)) (taken_same buses node i d k below leads_away);
  },
)

pub gathered_all : (buses : List Bus) (node i : ℕ) (input : Option ListData) → length buses ≤ i → length buses ≤ limits.most_buses → IsGatheredIn buses node i input → (list : ListData) × (input ≡ Some list) × IsListOf buses node list × (length list.history ≤ limits.most_buses)
gathered_all buses node i input past few (list, is, w) = (
  list,
  is,
  record {
    numbers_are = w.numbers_are;
    each_is = λ k. w.each_is k ∙ ap (λ (bs : List Bus). if_listed (is_attached bs node k) (feed_of buses k)) (take_all i buses past);
  },
  (let short = w.short in let within = w.within in omega arith),
)

-- ---- the lists of the first nodes

pub record AreFirstInputs (p : PlanData) (n : ℕ) (inputs : List (Option ListData)) : Type 0 where
  pub one_each : length inputs ≡ n
  pub each_is : (node : ℕ) → node < n → IsInputOf p node (get_or inputs node None)
  pub short : HadAtMost limits.most_buses inputs

pub first_none : (p : PlanData) (inputs : List (Option ListData)) → inputs ≡ [] → AreFirstInputs p 0 inputs
first_none p inputs e = record {
  one_each = ap length e;
  each_is = λ node below. absurd (omega arith);
  short = λ node list is. absurd (none-some list (sym (ap (λ (xs : List (Option ListData)). get_or xs node None) e) ∙ is));
}

pub first_more : (p : PlanData) (n : ℕ) (inputs : List (Option ListData)) (input : Option ListData) → AreFirstInputs p n inputs → IsInputOf p n input → IfSome input (λ (list : ListData). length list.history ≤ limits.most_buses) → AreFirstInputs p (n + 1) (inputs ++ input ∷ [])
first_more p n inputs input w own few = record {
  one_each = (let one = w.one_each in omega (arith, length-append inputs (input ∷ [])));
  each_is = λ node below. by_node node below (cases_eq n node);
  short = λ node list is. shorts node list is (cases_lt node n);
}
  where
    before : (node : ℕ) → node < n → get_or (inputs ++ input ∷ []) node None ≡ get_or inputs node None
    before node below = (let one = w.one_each in get_or_append_left inputs (input ∷ []) None node (omega arith))

    by_node : (node : ℕ) → node < n + 1 → (n ≡ node) ⊎ (n ≡ node → ⊥) → IsInputOf p node (get_or (inputs ++ input ∷ []) node None)
    by_node node below (inl same) =
        subst (λ (k : ℕ). IsInputOf p k (get_or (inputs ++ input ∷ []) k None)) same
        (subst (λ (i : Option ListData). IsInputOf p n i) (sym (get_or_push inputs input None n w.one_each)) own)
    by_node node below (inr other) =
        subst (λ (i : Option ListData). IsInputOf p node i) (sym (before node (omega arith))) (w.each_is node (omega arith))

    last : (node : ℕ) (list : ListData) → n ≤ node → get_or (inputs ++ input ∷ []) node None ≡ Some list → (n ≡ node) ⊎ (n ≡ node → ⊥) → length list.history ≤ limits.most_buses
    last node list past is (inl same) =
        IfSome-at (λ (l : ListData). length l.history ≤ limits.most_buses) input list (sym (get_or_push inputs input None n w.one_each) ∙ ap (λ (k : ℕ). get_or (inputs ++ input ∷ []) k None) same ∙ is) few
    last node list past is (inr other) =
        let one = w.one_each in
        absurd (none-some list (sym (get_or_past (inputs ++ input ∷ []) node None (omega (arith, length-append inputs (input ∷ [])))) ∙ is))

    shorts : (node : ℕ) (list : ListData) → get_or (inputs ++ input ∷ []) node None ≡ Some list → (node < n) ⊎ (n ≤ node) → length list.history ≤ limits.most_buses
    shorts node list is (inl below) = w.short node list (sym (before node below) ∙ is)
    shorts node list is (inr past) = last node list past is (cases_eq n node)

pub first_all : (p : PlanData) (inputs : List (Option ListData)) → AreFirstInputs p (length p.nodes + 1) inputs → AreInputsOf p inputs
first_all p inputs w = record {
  one_each = (let one = w.one_each in omega arith);
  each_is = λ node within. w.each_is node (omega arith);
}
