-- The lists of a plan stay its lists when an edit is done and the lists are changed by it.
use Rattle.std.proofs.Common.{◌≡◌, ℕ, zero, suc, ◌≤◌, Bool, true, false, not, List, [], ◌∷◌, ◌++◌, length, get_or, set, Option, Some, None, refl, sym, ◌∙◌, ap, subst, arith, ◌⊎◌, inl, inr}
use Rattle.std.specs.Prelude.{◌==◌, if◌then◌else◌, nat_le, nat_lt, slice_get}
use Rattle.std.specs.Option.{option_map, option_map_or}
use Rattle.std.proofs.lemmas.Bool.{false≢true, and_parts, cases_eq, eqb-true, eqb-false, eq-eqb, false_from_ne_true, leb-true, ne_eqb}
use Rattle.std.proofs.lemmas.List.{get_or-set_same, get_or-set_other, length-map, length-set}
use Rattle.std.proofs.lemmas.List.Elements.{All-get_or}
use Rattle.bus_list.specs.declared.history.Entry.TheVariants.{On, Off}
use Rattle.bus_list.specs.Visits.{attached_feed}
use Rattle.bus_list.proofs.Visits.{feed_attached, feed_detached, feed_else}
use Rattle.scene_model.specs.declared.bus.Bus.{Bus}
use Rattle.scene_model.specs.declared.node_state.NodeState.{NodeState}
use Rattle.scene_model.specs.declared.edit.Edit.{Edit}
use Rattle.scene_model.specs.declared.edit.Edit.TheVariants.{Attach, Detach, SetGain, Start, Stop, From, Until, Seek, Loop}
use Rattle.scene_model.specs.declared.reply.Reply.TheVariants.{NoSuchBus, NoInput}
use Rattle.scene_model.specs.IsPlan.{IsBusOf, IsPlan, names_nodes}
use Rattle.scene_model.specs.PlanData.{PlanData}
use Rattle.scene_model.specs.Plans.{reply, made, is_done, has_output, is_sound, is_sound_kind, attach_reply, change_at, with_seek}
use Rattle.scene_model.specs.Wiring.{is_output, target, bus_with_target, with_target, bus_with_gain}
use Rattle.scene_model.proofs.PlanStays.{length-change_at}
use Rattle.scene_model.proofs.Steps.{no_bus}
use Rattle.node_graph.specs.declared.feed.Feed.{Feed}
use Rattle.node_graph.specs.Attached.{leads_to, is_attached}
use Rattle.node_graph.specs.ListData.{ListData, feed_of, list_numbers, IsListOf, IsInputOf, AreInputsOf}
use Rattle.node_graph.specs.ListChanges.{number_of, attachment, detachment, list_change, with_edit, changed}
use Rattle.node_graph.proofs.Feeds.{edit_kept, if_listed, feed_target, feed_gain, feed_own}
use Rattle.node_graph.proofs.OneOutput.{one_place}
use Rattle.node_graph.proofs.Wired.{attached_other, attached_own, attached_gain, IsNumber, numbered, unnumbered}

-- ---- plans that differ in nothing that a list shows but where buses are attached

record IsLike (p q : PlanData) : Type 0 where
  nodes : length q.nodes ≡ length p.nodes
  sounds : (n : ℕ) → is_sound q.nodes n ≡ is_sound p.nodes n
  buses : length q.buses ≡ length p.buses
  feeds : (k : ℕ) → feed_of q.buses k ≡ feed_of p.buses k

same_list : (p q : PlanData) (n : ℕ) (list : ListData) → IsLike p q → ((k : ℕ) → is_attached q.buses n k ≡ is_attached p.buses n k) → IsListOf p.buses n list → IsListOf q.buses n list
same_list p q n list like same w = record {
  numbers_are = w.numbers_are ∙ ap list_numbers (sym like.buses);
  each_is = λ k. w.each_is k ∙ ap (λ (t : Bool). if_listed t (feed_of p.buses k)) (sym (same k)) ∙ ap (if_listed (is_attached q.buses n k)) (sym (like.feeds k));
}

same_input : (p q : PlanData) (n : ℕ) (input : Option ListData) → IsLike p q → ((k : ℕ) → is_attached q.buses n k ≡ is_attached p.buses n k) → IsInputOf p n input → IsInputOf q n input
same_input p q n input like same w = record {
  of_sound = λ e. w.of_sound (sym (like.sounds n) ∙ e);
  of_other = λ e. (let s = w.of_other (sym (like.sounds n) ∙ e) in (s.0, s.1, λ kept. same_list p q n s.0 like same (s.2 kept)));
}

same_inputs : (p q : PlanData) (inputs : List (Option ListData)) → IsLike p q → ((n k : ℕ) → is_attached q.buses n k ≡ is_attached p.buses n k) → AreInputsOf p inputs → AreInputsOf q inputs
same_inputs p q inputs like same w = record {
  one_each = w.one_each ∙ ap suc (sym like.nodes);
  each_is = λ n within. same_input p q n (get_or inputs n None) like (same n) (w.each_is n (let count = like.nodes in omega arith));
}

-- one input is another, and the others stay
one_input : (q : PlanData) (inputs : List (Option ListData)) (m : ℕ) (input : Option ListData) → length inputs ≡ suc (length q.nodes) → m ≤ length q.nodes → IsInputOf q m input → ((n : ℕ) → n ≤ length q.nodes → (n ≡ m → ⊥) → IsInputOf q n (get_or inputs n None)) → AreInputsOf q (set inputs m input)
one_input q inputs m input long within own others = record {
  one_each = length-set inputs m input ∙ long;
  each_is = λ n least. by_node n least (cases_eq n m);
}
  where
    by_node : (n : ℕ) → n ≤ length q.nodes → (n ≡ m) ⊎ (n ≡ m → ⊥) → IsInputOf q n (get_or (set inputs m input) n None)
    by_node n least (inl same) =
        subst (λ (k : ℕ). IsInputOf q k (get_or (set inputs m input) k None)) (sym same)
        (subst (λ (i : Option ListData). IsInputOf q m i) (sym (get_or-set_same inputs m input None (omega arith))) own)
    by_node n least (inr other) =
        subst (λ (i : Option ListData). IsInputOf q n i) (sym (get_or-set_other inputs m n input None other)) (others n least other)

-- a node that is changed stays a sound, or none
sound_kept : (change : NodeState → NodeState) → ((x : NodeState) → is_sound_kind (change x).kind ≡ is_sound_kind x.kind) → (nodes : List NodeState) (k n : ℕ) → is_sound (change_at change nodes k) n ≡ is_sound nodes n
sound_kept change same [] k n = refl
sound_kept change same (x ∷ nodes) zero zero = same x
sound_kept change same (x ∷ nodes) zero (suc n) = refl
sound_kept change same (x ∷ nodes) (suc k) zero = refl
sound_kept change same (x ∷ nodes) (suc k) (suc n) = sound_kept change same nodes k n

node_changed : (p : PlanData) (k : ℕ) (change : NodeState → NodeState) → ((x : NodeState) → is_sound_kind (change x).kind ≡ is_sound_kind x.kind) → IsLike p (record p { nodes = change_at change p.nodes k })
node_changed p k change same = record {
  nodes = length-change_at change p.nodes k;
  sounds = sound_kept change same p.nodes k;
  buses = refl;
  feeds = λ j. refl;
}

target_changed : (p : PlanData) (node out : ℕ) (to : Option ℕ) → IsLike p (record p { buses = with_target node out to p.buses })
target_changed p node out to = record {
  nodes = refl;
  sounds = λ n. refl;
  buses = length-map p.buses (bus_with_target node out to);
  feeds = feed_target node out to p.buses;
}

-- ---- an output that has another target

-- the bus of that number is the only one that is this output
record IsOnly (buses : List Bus) (node out k : ℕ) (b : Bus) : Type 0 where
  at : slice_get buses k ≡ Some b
  is : is_output node out b ≡ true
  only : (j : ℕ) (c : Bus) → slice_get buses j ≡ Some c → is_output node out c ≡ true → j ≡ k

only_number : (p : PlanData) (node out k : ℕ) (b : Bus) → IsPlan p → IsNumber p.buses node out k b → IsOnly p.buses node out k b
only_number p node out k b w number = record {
  at = number.at;
  is = number.is;
  only = λ j c at is. one_place p node out j k c b w at is number.at number.is;
}

-- the node to which a bus of a plan is attached is one of its nodes or the endpoint
pub target_within : (p : PlanData) (node out k from : ℕ) → IsPlan p → number_of p.buses node out ≡ Some k → target p.buses node out ≡ Some from → from ≤ length p.nodes
target_within p node out k from w e f =
    let number = numbered p.buses node out k e in
    (All-get_or (IsBusOf (length p.nodes)) p.buses k no_bus number.within w.buses_are).to_is from (sym number.target_is ∙ f)

-- whether another bus is attached to a node does not change
elsewhere : (buses : List Bus) (node out k : ℕ) (b : Bus) (to : Option ℕ) (n j : ℕ) → IsOnly buses node out k b → (j == k) ≡ false → is_attached (with_target node out to buses) n j ≡ is_attached buses n j
elsewhere buses node out k b to n j w other =
    attached_other node out to buses n j (λ c at. false_from_ne_true (is_output node out c) (λ is. eqb-false j k other (w.only j c at is)))

-- nor whether this one is, where neither the old target nor the new one is that node
unmoved : (buses : List Bus) (node out k : ℕ) (b : Bus) (to : Option ℕ) (n j : ℕ) → IsOnly buses node out k b → leads_to n b ≡ false → option_map_or (λ (m : ℕ). m == n) to false ≡ false → is_attached (with_target node out to buses) n j ≡ is_attached buses n j
unmoved buses node out k b to n j w old new = by_test (j == k) refl
  where
    by_test : (t : Bool) → (j == k) ≡ t → is_attached (with_target node out to buses) n j ≡ is_attached buses n j
    by_test false e = elsewhere buses node out k b to n j w e
    by_test true e =
        let here : slice_get buses j ≡ Some b = ap (slice_get buses) (eqb-true j k e) ∙ w.at in
        attached_own node out to buses n j b here w.is ∙ new
        ∙ sym (ap (λ (o : Option Bus). option_map_or (leads_to n) o false) here ∙ old)

-- the list of the new target
abbrev fed : ℕ → ℕ → ℕ → Feed
fed bus node out = record { bus = bus; node = node; out = out }

list_attached : (buses : List Bus) (node out k to : ℕ) (b : Bus) (list : ListData) → IsOnly buses node out k b → IsListOf buses to list → IsListOf (with_target node out (Some to) buses) to (record list { history = list.history ++ On k (fed k node out) ∷ [] })
list_attached buses node out k to b list w is = record {
  numbers_are = is.numbers_are ∙ ap list_numbers (sym (length-map buses (bus_with_target node out (Some to))));
  each_is = λ j. by_test j (j == k) refl;
}
  where
    here : attached_feed (list.history ++ On k (fed k node out) ∷ []) k ≡ if_listed (is_attached (with_target node out (Some to) buses) to k) (feed_of (with_target node out (Some to) buses) k)
    here =
        let own = feed_target node out (Some to) buses k ∙ feed_own buses node out k b w.at w.is in
        let leads : is_attached (with_target node out (Some to) buses) to k ≡ true = attached_own node out (Some to) buses to k b w.at w.is ∙ eq-eqb to to refl in
        feed_attached list.history k (fed k node out) k refl ∙ sym (ap (λ (t : Bool). if_listed t (feed_of (with_target node out (Some to) buses) k)) leads ∙ own)

    by_test : (j : ℕ) (t : Bool) → (j == k) ≡ t → attached_feed (list.history ++ On k (fed k node out) ∷ []) j ≡ if_listed (is_attached (with_target node out (Some to) buses) to j) (feed_of (with_target node out (Some to) buses) j)
    by_test j true e =
        subst (λ (i : ℕ). attached_feed (list.history ++ On k (fed k node out) ∷ []) i ≡ if_listed (is_attached (with_target node out (Some to) buses) to i) (feed_of (with_target node out (Some to) buses) i)) (sym (eqb-true j k e)) here
    by_test j false e =
        feed_else list.history (On k (fed k node out)) j (eqb-false j k e) ∙ is.each_is j
        ∙ ap (λ (t : Bool). if_listed t (feed_of buses j)) (sym (elsewhere buses node out k b (Some to) to j w e))
        ∙ ap (if_listed (is_attached (with_target node out (Some to) buses) to j)) (sym (feed_target node out (Some to) buses j))

-- the list of the old target
list_detached : (buses : List Bus) (node out k from : ℕ) (b : Bus) (list : ListData) → IsOnly buses node out k b → IsListOf buses from list → IsListOf (with_target node out None buses) from (record list { history = list.history ++ Off k ∷ [] })
list_detached buses node out k from b list w is = record {
  numbers_are = is.numbers_are ∙ ap list_numbers (sym (length-map buses (bus_with_target node out None)));
  each_is = λ j. by_test j (j == k) refl;
}
  where
    by_test : (j : ℕ) (t : Bool) → (j == k) ≡ t → attached_feed (list.history ++ Off k ∷ []) j ≡ if_listed (is_attached (with_target node out None buses) from j) (feed_of (with_target node out None buses) j)
    by_test j true e =
        let here : slice_get buses j ≡ Some b = ap (slice_get buses) (eqb-true j k e) ∙ w.at in
        feed_detached list.history k j (eqb-true j k e)
        ∙ sym (ap (λ (t : Bool). if_listed t (feed_of (with_target node out None buses) j)) (attached_own node out None buses from j b here w.is))
    by_test j false e =
        feed_else list.history (Off k) j (eqb-false j k e) ∙ is.each_is j
        ∙ ap (λ (t : Bool). if_listed t (feed_of buses j)) (sym (elsewhere buses node out k b None from j w e))
        ∙ ap (if_listed (is_attached (with_target node out None buses) from j)) (sym (feed_target node out None buses j))

-- ---- attach and detach

-- only a bus that is attached nowhere is attached
attach_free : (has sound : Bool) (buses : List Bus) (node to : ℕ) (o : Option ℕ) → is_done (if not has then NoSuchBus else (if sound then NoInput else attach_reply buses node to o)) ≡ true → o ≡ None
attach_free false sound buses node to o d = absurd (false≢true d)
attach_free true true buses node to o d = absurd (false≢true d)
attach_free true false buses node to (Some m) d = absurd (false≢true d)
attach_free true false buses node to None d = refl

inputs_attached : (p : PlanData) (node out to : ℕ) (inputs : List (Option ListData)) → IsPlan p → to ≤ length p.nodes → target p.buses node out ≡ None → AreInputsOf p inputs → AreInputsOf (made p (Attach node out to)) (changed inputs (list_change p.buses (Attach node out to)))
inputs_attached p node out to inputs w within free are = by_number (number_of p.buses node out) refl
  where
    like : IsLike p (made p (Attach node out to))
    like = target_changed p node out (Some to)

    by_number : (o : Option ℕ) → number_of p.buses node out ≡ o → AreInputsOf (made p (Attach node out to)) (changed inputs (attachment node out to o))
    by_number None e =
        same_inputs p (made p (Attach node out to)) inputs like
        (λ n k. attached_other node out (Some to) p.buses n k (unnumbered p.buses node out e k)) are
    by_number (Some k) e =
        let b = get_or p.buses k no_bus in
        let number = numbered p.buses node out k e in
        let only = only_number p node out k b w number in
        let nowhere : b.to ≡ None = sym number.target_is ∙ free in
        let input = get_or inputs to None in
        let own : IsInputOf (made p (Attach node out to)) to (option_map (with_edit (On k (fed k node out))) input) = record {
          of_sound = λ f. ap (option_map (with_edit (On k (fed k node out)))) ((are.each_is to within).of_sound f);
          of_other = λ f. (let s = (are.each_is to within).of_other f in (with_edit (On k (fed k node out)) s.0, ap (option_map (with_edit (On k (fed k node out)))) s.1, edit_kept (IsListOf p.buses to) (IsListOf (with_target node out (Some to) p.buses) to) (On k (fed k node out)) s.0 s.2 (list_attached p.buses node out k to b s.0 only)));
        } in
        one_input (made p (Attach node out to)) inputs to (option_map (with_edit (On k (fed k node out))) input) are.one_each within own
        (λ n least other. same_input p (made p (Attach node out to)) n (get_or inputs n None) like
        (λ j. unmoved p.buses node out k b (Some to) n j only (ap (λ (o : Option ℕ). option_map_or (λ (m : ℕ). m == n) o false) nowhere) (ne_eqb to n (λ same. other (sym same)))) (are.each_is n least))

inputs_detached : (p : PlanData) (node out : ℕ) (inputs : List (Option ListData)) → IsPlan p → AreInputsOf p inputs → AreInputsOf (made p (Detach node out)) (changed inputs (list_change p.buses (Detach node out)))
inputs_detached p node out inputs w are = by_number (number_of p.buses node out) refl (target p.buses node out) refl
  where
    like : IsLike p (made p (Detach node out))
    like = target_changed p node out None

    by_number : (o : Option ℕ) → number_of p.buses node out ≡ o → (t : Option ℕ) → target p.buses node out ≡ t → AreInputsOf (made p (Detach node out)) (changed inputs (detachment o t))
    by_number None e t f =
        same_inputs p (made p (Detach node out)) inputs like
        (λ n k. attached_other node out None p.buses n k (unnumbered p.buses node out e k)) are
    by_number (Some k) e None f =
        let b = get_or p.buses k no_bus in
        let number = numbered p.buses node out k e in
        let only = only_number p node out k b w number in
        let nowhere : b.to ≡ None = sym number.target_is ∙ f in
        same_inputs p (made p (Detach node out)) inputs like
        (λ n j. unmoved p.buses node out k b None n j only (ap (λ (o : Option ℕ). option_map_or (λ (m : ℕ). m == n) o false) nowhere) refl) are
    by_number (Some k) e (Some from) f =
        let b = get_or p.buses k no_bus in
        let number = numbered p.buses node out k e in
        let only = only_number p node out k b w number in
        let there : b.to ≡ Some from = sym number.target_is ∙ f in
        let within = target_within p node out k from w e f in
        let input = get_or inputs from None in
        let own : IsInputOf (made p (Detach node out)) from (option_map (with_edit (Off k)) input) = record {
          of_sound = λ g. ap (option_map (with_edit (Off k))) ((are.each_is from within).of_sound g);
          of_other = λ g. (let s = (are.each_is from within).of_other g in (with_edit (Off k) s.0, ap (option_map (with_edit (Off k))) s.1, edit_kept (IsListOf p.buses from) (IsListOf (with_target node out None p.buses) from) (Off k) s.0 s.2 (list_detached p.buses node out k from b s.0 only)));
        } in
        one_input (made p (Detach node out)) inputs from (option_map (with_edit (Off k)) input) are.one_each within own
        (λ n least other. same_input p (made p (Detach node out)) n (get_or inputs n None) like
        (λ j. unmoved p.buses node out k b None n j only (ap (λ (o : Option ℕ). option_map_or (λ (m : ℕ). m == n) o false) there ∙ ne_eqb from n (λ same. other (sym same))) refl) (are.each_is n least))

-- ---- all edits

pub target_named : (p : PlanData) (node out to : ℕ) → names_nodes (length p.nodes) (Attach node out to) ≡ true → to ≤ length p.nodes
target_named p node out to named =
    leb-true to (length p.nodes) (and_parts (nat_lt node (length p.nodes)) (nat_le to (length p.nodes)) named).1

pub free_to_attach : (p : PlanData) (node out to : ℕ) → is_done (reply p (Attach node out to)) ≡ true → target p.buses node out ≡ None
free_to_attach p node out to d =
    attach_free (has_output p.nodes node out) (is_sound p.nodes to) p.buses node to (target p.buses node out) d

pub inputs_made : (p : PlanData) (e : Edit) (inputs : List (Option ListData)) → IsPlan p → names_nodes (length p.nodes) e ≡ true → is_done (reply p e) ≡ true → AreInputsOf p inputs → AreInputsOf (made p e) (changed inputs (list_change p.buses e))
inputs_made p (Attach node out to) inputs w named d are =
    inputs_attached p node out to inputs w (target_named p node out to named) (free_to_attach p node out to d) are
inputs_made p (Detach node out) inputs w named d are = inputs_detached p node out inputs w are
inputs_made p (SetGain node out gain) inputs w named d are =
    same_inputs p (made p (SetGain node out gain)) inputs
    (record { nodes = refl; sounds = λ n. refl; buses = length-map p.buses (bus_with_gain node out gain); feeds = feed_gain node out gain p.buses })
    (attached_gain node out gain p.buses) are
inputs_made p (Start node) inputs w named d are =
    same_inputs p (made p (Start node)) inputs (node_changed p node (λ n. record n { started = true }) (λ x. refl)) (λ n k. refl) are
inputs_made p (Stop node) inputs w named d are =
    same_inputs p (made p (Stop node)) inputs (node_changed p node (λ n. record n { started = false }) (λ x. refl)) (λ n k. refl) are
inputs_made p (From node value) inputs w named d are =
    same_inputs p (made p (From node value)) inputs (node_changed p node (λ n. record n { from = value }) (λ x. refl)) (λ n k. refl) are
inputs_made p (Until node value) inputs w named d are =
    same_inputs p (made p (Until node value)) inputs (node_changed p node (λ n. record n { until = value }) (λ x. refl)) (λ n k. refl) are
inputs_made p (Seek node place) inputs w named d are =
    same_inputs p (made p (Seek node place)) inputs (node_changed p node (with_seek place) (λ x. refl)) (λ n k. refl) are
inputs_made p (Loop node on) inputs w named d are =
    same_inputs p (made p (Loop node on)) inputs (node_changed p node (λ n. record n { looped = on }) (λ x. refl)) (λ n k. refl) are
