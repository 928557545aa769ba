-- An edit that is made changes one word of the board at most, and no word passes its largest one.
use Rattle.std.proofs.Common.{◌≡◌, ℕ, zero, suc, ◌+◌, ◌*◌, ◌<◌, ◌≤◌, Bool, true, false, All, List, [], ◌∷◌, ◌++◌, length, map, get_or, set, replicate, Option, Some, None, refl, sym, ◌∙◌, ap, subst, arith}
use Rattle.std.specs.Prelude.{slice_get, slice_index, nat_lt, if◌then◌else◌}
use Rattle.std.specs.List.{flat_map}
use Rattle.std.specs.Option.{option_map}
use Rattle.std.proofs.lemmas.Bool.{ltb-true, false_from_ne_true}
use Rattle.std.proofs.lemmas.List.{get_or-map, get_or-set_same, length-map}
use Rattle.std.proofs.lemmas.Option.{none-some, same_Some, slice_get-get_or}
use Rattle.scene_model.specs.declared.bus.Bus.{Bus}
use Rattle.scene_model.specs.declared.edit.Edit.{Edit}
use Rattle.scene_model.specs.declared.edit.Edit.TheVariants.{Attach, Detach, SetGain, Start, Stop, From, Until, Seek, Loop}
use Rattle.scene_model.specs.declared.node_state.NodeState.{NodeState}
use Rattle.scene_model.specs.IsPlan.{IsPlan, IsNodeState, HasTimesInRange, AreTimesInRange, names_nodes}
use Rattle.scene_model.specs.Limits as limits
use Rattle.scene_model.specs.PlanData.{PlanData}
use Rattle.scene_model.specs.Plans.{made, change_at, with_seek}
use Rattle.scene_model.specs.Wiring.{is_output, bus_with_gain, with_gain, with_target}
use Rattle.scene_model.proofs.Steps.{no_bus, no_node}
use Rattle.mix_model.specs.Board.{switch, node_words, board}
use Rattle.live_board.specs.Rule.{words_set}
use Rattle.node_graph.specs.ListChanges.{number_of}
use Rattle.node_graph.proofs.BoardWords.{length-board}
use Rattle.node_graph.proofs.OneOutput.{one_place}
use Rattle.node_graph.proofs.Wired.{numbered, unnumbered}
use Rattle.live_graph.specs.Dials.{dial_of, word_at, most_before, most_words}

-- ---- one word of a node

abbrev words : List NodeState → List ℕ → List ℕ
words nodes gains = flat_map node_words nodes ++ gains

set_front : (xs ys : List ℕ) (j v : ℕ) → j < length xs → set (xs ++ ys) j v ≡ set xs j v ++ ys
set_front [] ys j v within = absurd (omega arith)
set_front (x ∷ xs) ys zero v within = refl
set_front (x ∷ xs) ys (suc j) v within = ap (λ (zs : List ℕ). x ∷ zs) (set_front xs ys j v (omega arith))

five_more : (n j : ℕ) → 5 * suc n + j ≡ suc (suc (suc (suc (suc (5 * n + j)))))
five_more n j = omega arith

-- a node whose word j is another one
node_set : (change : NodeState → NodeState) (j v : ℕ) (nodes : List NodeState) (gains : List ℕ) (n : ℕ) (x : NodeState) → j < 5 → slice_get nodes n ≡ Some x → node_words (change x) ≡ set (node_words x) j v → words (change_at change nodes n) gains ≡ set (words nodes gains) (5 * n + j) v
node_set change j v [] gains n x low at is = absurd (none-some x at)
node_set change j v (y ∷ nodes) gains zero x low at is =
    let here : 5 * 0 + j ≡ j = omega arith in
    let same : node_words (change y) ≡ set (node_words y) j v = subst (λ (z : NodeState). node_words (change z) ≡ set (node_words z) j v) (sym (same_Some y x at)) is in
    ap (λ (ws : List ℕ). ws ++ words nodes gains) same
    ∙ sym (set_front (node_words y) (words nodes gains) j v low)
    ∙ ap (λ (k : ℕ). set (words (y ∷ nodes) gains) k v) (sym here)
node_set change j v (y ∷ nodes) gains (suc n) x low at is =
    ap (λ (ws : List ℕ). node_words y ++ ws) (node_set change j v nodes gains n x low at is)
    ∙ ap (λ (k : ℕ). set (words (y ∷ nodes) gains) k v) (sym (five_more n j))

-- ---- one gain

gains_set : (nodes : List NodeState) (gains : List ℕ) (k v : ℕ) → words nodes (set gains k v) ≡ set (words nodes gains) (5 * length nodes + k) v
gains_set [] gains k v =
    let here : 5 * 0 + k ≡ k = omega arith in ap (λ (i : ℕ). set gains i v) (sym here)
gains_set (y ∷ nodes) gains k v =
    ap (λ (ws : List ℕ). node_words y ++ ws) (gains_set nodes gains k v)
    ∙ ap (λ (i : ℕ). set (words (y ∷ nodes) gains) i v) (sym (five_more (length nodes) k))

abbrev gains_of : List Bus → List ℕ
gains_of buses = map (λ (b : Bus). b.gain) buses

gain_kept : (node out gain : ℕ) (b : Bus) → is_output node out b ≡ false → (bus_with_gain node out gain b).gain ≡ b.gain
gain_kept node out gain b other = ap (λ (t : Bool). (if t then record b { gain = gain } else b).gain) other

gains_kept : (node out gain : ℕ) (buses : List Bus) → ((k : ℕ) (b : Bus) → slice_get buses k ≡ Some b → is_output node out b ≡ false) → gains_of (with_gain node out gain buses) ≡ gains_of buses
gains_kept node out gain [] none = refl
gains_kept node out gain (b ∷ buses) none =
    ap (λ (g : ℕ). g ∷ gains_of (with_gain node out gain buses)) (gain_kept node out gain b (none 0 b refl))
    ∙ ap (λ (gs : List ℕ). b.gain ∷ gs) (gains_kept node out gain buses (λ k c at. none (suc k) c at))

gain_set : (node out gain : ℕ) (buses : List Bus) (k : ℕ) (b : Bus) → slice_get buses k ≡ Some b → is_output node out b ≡ true → ((j : ℕ) (c : Bus) → slice_get buses j ≡ Some c → is_output node out c ≡ true → j ≡ k) → gains_of (with_gain node out gain buses) ≡ set (gains_of buses) k gain
gain_set node out gain [] k b at is only = absurd (none-some b at)
gain_set node out gain (c ∷ buses) zero b at is only =
    let own : is_output node out c ≡ true = ap (is_output node out) (same_Some c b at) ∙ is in
    ap (λ (t : Bool). (if t then record c { gain = gain } else c).gain ∷ gains_of (with_gain node out gain buses)) own
    ∙ ap (λ (gs : List ℕ). gain ∷ gs) (gains_kept node out gain buses (λ j d there. false_from_ne_true (is_output node out d) (λ yes. absurd (later j (only (suc j) d there yes)))))
  where
    later : (j : ℕ) → suc j ≡ 0 → ⊥
    later j e = omega arith
gain_set node out gain (c ∷ buses) (suc k) b at is only =
    let other : is_output node out c ≡ false = false_from_ne_true (is_output node out c) (λ yes. absurd (first (only 0 c refl yes))) in
    ap (λ (g : ℕ). g ∷ gains_of (with_gain node out gain buses)) (gain_kept node out gain c other)
    ∙ ap (λ (gs : List ℕ). c.gain ∷ gs) (gain_set node out gain buses k b at is (λ j d there yes. down j (only (suc j) d there yes)))
  where
    first : 0 ≡ suc k → ⊥
    first e = omega arith

    down : (j : ℕ) → suc j ≡ suc k → j ≡ k
    down j e = omega arith

-- ---- the board after an edit

-- a list with one element set is known by that element
set_by_itself : (xs ys : List ℕ) (k v : ℕ) → k < length xs → ys ≡ set xs k v → ys ≡ set xs k (slice_index ys k)
set_by_itself xs ys k v within is =
    is ∙ ap (λ (w : ℕ). set xs k w) (sym (ap (λ (zs : List ℕ). get_or zs k 0) is ∙ get_or-set_same xs k v 0 within))

gains_targeted : (node out : ℕ) (to : Option ℕ) (buses : List Bus) → gains_of (with_target node out to buses) ≡ gains_of buses
gains_targeted node out to [] = refl
gains_targeted node out to (b ∷ buses) =
    ap (λ (g : ℕ). g ∷ gains_of (with_target node out to buses)) (by_test (is_output node out b))
    ∙ ap (λ (gs : List ℕ). b.gain ∷ gs) (gains_targeted node out to buses)
  where
    by_test : (t : Bool) → (if t then record b { to = to } else b).gain ≡ b.gain
    by_test true = refl
    by_test false = refl

abbrev SetsDial : PlanData → Edit → Type 0
SetsDial p e = board (made p e) ≡ words_set (board p) (word_at (made p e) (dial_of p e))

-- the edit of a node
of_node : (p : PlanData) (change : NodeState → NodeState) (n j v : ℕ) → j < 5 → n < length p.nodes → ((x : NodeState) → node_words (change x) ≡ set (node_words x) j (get_or (node_words (change x)) j 0)) → board (record p { nodes = change_at change p.nodes n }) ≡ set (board p) (5 * n + j) (slice_index (board (record p { nodes = change_at change p.nodes n })) (5 * n + j))
of_node p change n j v low within is =
    let x = get_or p.nodes n no_node in
    let at = slice_get-get_or p.nodes n no_node within in
    let long = length-board p in
    set_by_itself (board p) (board (record p { nodes = change_at change p.nodes n })) (5 * n + j) (get_or (node_words (change x)) j 0) (omega arith)
    (node_set change j (get_or (node_words (change x)) j 0) p.nodes (gains_of p.buses) n x low at (is x))

named : (nodes node : ℕ) → nat_lt node nodes ≡ true → node < nodes
named nodes node is = ltb-true node nodes is

zero_more : (n : ℕ) → 5 * n + 0 ≡ 5 * n
zero_more n = omega arith

first_word : (p : PlanData) (change : NodeState → NodeState) (n : ℕ) → n < length p.nodes → ((x : NodeState) → node_words (change x) ≡ set (node_words x) 0 (get_or (node_words (change x)) 0 0)) → board (record p { nodes = change_at change p.nodes n }) ≡ set (board p) (5 * n) (slice_index (board (record p { nodes = change_at change p.nodes n })) (5 * n))
first_word p change n within is =
    subst (λ (k : ℕ). board (record p { nodes = change_at change p.nodes n }) ≡ set (board p) k (slice_index (board (record p { nodes = change_at change p.nodes n })) k)) (zero_more n)
    (of_node p change n 0 0 (omega arith) within is)

of_gain : (p : PlanData) (node out gain : ℕ) → IsPlan p → (o : Option ℕ) → number_of p.buses node out ≡ o → board (made p (SetGain node out gain)) ≡ words_set (board p) (word_at (made p (SetGain node out gain)) (option_map (λ (bus : ℕ). 5 * length p.nodes + bus) o))
of_gain p node out gain w None e =
    ap (words p.nodes) (gains_kept node out gain p.buses (unnumbered p.buses node out e))
of_gain p node out gain w (Some k) e =
    let b = get_or p.buses k no_bus in
    let number = numbered p.buses node out k e in
    let long = length-board p in
    let within = number.within in
    set_by_itself (board p) (board (made p (SetGain node out gain))) (5 * length p.nodes + k) gain (omega arith)
    (ap (words p.nodes) (gain_set node out gain p.buses k b number.at number.is (λ j c at is. one_place p node out j k c b w at is number.at number.is))
    ∙ gains_set p.nodes (gains_of p.buses) k gain)

pub sets_dial : (p : PlanData) (e : Edit) → IsPlan p → names_nodes (length p.nodes) e ≡ true → SetsDial p e
sets_dial p (Attach node out to) w names = ap (words p.nodes) (gains_targeted node out (Some to) p.buses)
sets_dial p (Detach node out) w names = ap (words p.nodes) (gains_targeted node out None p.buses)
sets_dial p (SetGain node out gain) w names = of_gain p node out gain w (number_of p.buses node out) refl
sets_dial p (Start node) w names =
    first_word p (λ n. record n { started = true }) node (named (length p.nodes) node names) (λ x. refl)
sets_dial p (Stop node) w names =
    first_word p (λ n. record n { started = false }) node (named (length p.nodes) node names) (λ x. refl)
sets_dial p (From node value) w names =
    of_node p (λ n. record n { from = value }) node 1 value (omega arith) (named (length p.nodes) node names) (λ x. refl)
sets_dial p (Until node value) w names =
    of_node p (λ n. record n { until = value }) node 2 value (omega arith) (named (length p.nodes) node names) (λ x. refl)
sets_dial p (Seek node place) w names =
    of_node p (with_seek place) node 3 place (omega arith) (named (length p.nodes) node names) (λ x. refl)
sets_dial p (Loop node on) w names =
    of_node p (λ n. record n { looped = on }) node 4 0 (omega arith) (named (length p.nodes) node names) (λ x. refl)

-- ---- places

pub dial_within : (p : PlanData) (e : Edit) (place : ℕ) → names_nodes (length p.nodes) e ≡ true → dial_of p e ≡ Some place → place < 5 * length p.nodes + length p.buses
dial_within p (Attach node out to) place names is = absurd (none-some place is)
dial_within p (Detach node out) place names is = absurd (none-some place is)
dial_within p (SetGain node out gain) place names is = by_number (number_of p.buses node out) refl is
  where
    by_number : (o : Option ℕ) → number_of p.buses node out ≡ o → option_map (λ (bus : ℕ). 5 * length p.nodes + bus) o ≡ Some place → place < 5 * length p.nodes + length p.buses
    by_number None e at = absurd (none-some place at)
    by_number (Some k) e at =
        let within = (numbered p.buses node out k e).within in
        let same = same_Some (5 * length p.nodes + k) place at in
        omega arith
dial_within p (Start node) place names is =
    let low = named (length p.nodes) node names in let same = same_Some (5 * node) place is in omega arith
dial_within p (Stop node) place names is =
    let low = named (length p.nodes) node names in let same = same_Some (5 * node) place is in omega arith
dial_within p (From node value) place names is =
    let low = named (length p.nodes) node names in let same = same_Some (5 * node + 1) place is in omega arith
dial_within p (Until node value) place names is =
    let low = named (length p.nodes) node names in let same = same_Some (5 * node + 2) place is in omega arith
dial_within p (Seek node at) place names is =
    let low = named (length p.nodes) node names in let same = same_Some (5 * node + 3) place is in omega arith
dial_within p (Loop node on) place names is =
    let low = named (length p.nodes) node names in let same = same_Some (5 * node + 4) place is in omega arith

-- ---- largest words

abbrev NoneAbove : List ℕ → List ℕ → Type 0
NoneAbove xs most = (k : ℕ) → k < length xs → get_or xs k 0 ≤ get_or most k 0

switch_most : (on : Bool) → switch on ≤ 1
switch_most true = omega arith
switch_most false = omega arith

most_of_gains : (gains : List ℕ) → ((k : ℕ) → k < length gains → get_or gains k 0 ≤ limits.most_gain) → NoneAbove gains (replicate (length gains) limits.most_gain)
most_of_gains [] low k within = absurd (omega arith)
most_of_gains (g ∷ gains) low zero within = low 0 (omega arith)
most_of_gains (g ∷ gains) low (suc k) within = most_of_gains gains (λ j b. low (suc j) (omega arith)) k (omega arith)

most_of_nodes : (nodes : List NodeState) (gains most : List ℕ) → All IsNodeState nodes → All HasTimesInRange nodes → NoneAbove gains most → NoneAbove (words nodes gains) (most_before (length nodes) most)
most_of_nodes [] gains most states times rest k within = rest k within
most_of_nodes (x ∷ nodes) gains most states times rest zero within = switch_most x.started
most_of_nodes (x ∷ nodes) gains most states times rest (suc zero) within = (times 0 no_node (omega arith)).from_most
most_of_nodes (x ∷ nodes) gains most states times rest (suc (suc zero)) within = (times 0 no_node (omega arith)).until_most
most_of_nodes (x ∷ nodes) gains most states times rest (suc (suc (suc zero))) within =
    let seeks = (states 0 no_node (omega arith)).seeks_most in
    let place = (states 0 no_node (omega arith)).place_most in
    omega arith
most_of_nodes (x ∷ nodes) gains most states times rest (suc (suc (suc (suc zero)))) within = switch_most x.looped
most_of_nodes (x ∷ nodes) gains most states times rest (suc (suc (suc (suc (suc k))))) within =
    most_of_nodes nodes gains most (λ j d b. states (suc j) d (omega arith)) (λ j d b. times (suc j) d (omega arith)) rest k (omega arith)

pub within_most : (p : PlanData) (place : ℕ) → IsPlan p → AreTimesInRange p → place < 5 * length p.nodes + length p.buses → slice_index (board p) place ≤ slice_index (most_words (length p.nodes) (length p.buses)) place
within_most p place w times within =
    let long = length-board p in
    let same = length-map p.buses (λ (b : Bus). b.gain) in
    subst (λ (n : ℕ). get_or (board p) place 0 ≤ get_or (most_words (length p.nodes) n) place 0) same
    (most_of_nodes p.nodes (gains_of p.buses) (replicate (length (gains_of p.buses)) limits.most_gain) w.states_are times
    (most_of_gains (gains_of p.buses) gain_most) place (omega arith))
  where
    gain_most : (k : ℕ) → k < length (gains_of p.buses) → get_or (gains_of p.buses) k 0 ≤ limits.most_gain
    gain_most k low =
        let same = length-map p.buses (λ (b : Bus). b.gain) in
        subst (λ (g : ℕ). g ≤ limits.most_gain) (sym (get_or-map (λ (b : Bus). b.gain) p.buses k no_bus 0 (omega arith))) (w.gains_most k no_bus (omega arith))
