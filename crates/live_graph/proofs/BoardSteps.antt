-- The history of the board after one entry more of the journal.
use Rattle.std.proofs.Common.{◌≡◌, ℕ, ◌+◌, ◌≤◌, ◌⊎◌, inl, inr, Bool, true, false, true≢false, List, [], ◌∷◌, ◌++◌, length, map, fold, set, take, Option, Some, None, refl, sym, ◌∙◌, ap, subst, arith, length-append}
use Rattle.std.specs.Prelude.{if◌then◌else◌, slice_index, filter}
use Rattle.std.specs.List.{flat_map}
use Rattle.std.specs.Option.{option_map_or}
use Rattle.std.proofs.lemmas.Bool.{cases_eq}
use Rattle.std.proofs.lemmas.List.{append-nil, take-append-le, take_all}
use Rattle.std.proofs.lemmas.List.Concat.{flat_map-append}
use Rattle.std.proofs.lemmas.List.Elements.{filter-append}
use Rattle.std.proofs.lemmas.List.Sums.{fold-append}
use Rattle.scene_model.specs.declared.bus.Bus.{Bus}
use Rattle.scene_model.specs.declared.edit.Edit.{Edit}
use Rattle.scene_model.specs.declared.edit.Edit.TheVariants.{Attach, Detach, SetGain, Start, Stop, From, Until, Seek, Loop}
use Rattle.scene_model.specs.declared.node_state.NodeState.{NodeState}
use Rattle.scene_model.specs.IsPlan.{IsPlan, names_nodes}
use Rattle.scene_model.specs.Opening.{opening}
use Rattle.scene_model.specs.PlanData.{PlanData}
use Rattle.scene_model.specs.Plans.{after, made, reply, is_done, change_at, gain_reply, sound_reply, with_seek}
use Rattle.scene_model.specs.SceneData.{SceneData}
use Rattle.scene_model.specs.Wiring.{is_output, bus_with_gain, with_gain, with_target}
use Rattle.mix_model.specs.Board.{node_words, board}
use Rattle.mix_model.specs.Histories.{sets_word, edit_done, board_part, board_after}
use Rattle.mix_model.specs.Journals.{EntryData, edit_of, after_entry, plan_after}
use Rattle.live_board.specs.Rule.{words_set}
use Rattle.live_graph.specs.BoardHistories.{untargeted, AreAlike, IsBoardHistory}
use Rattle.live_graph.specs.Dials.{dial_of, dial_set, word_at}
use Rattle.live_graph.proofs.DialWords.{sets_dial}

-- ---- plans that differ in where buses lead

abbrev gains_of : List Bus → List ℕ
gains_of buses = map (λ (b : Bus). b.gain) buses

gains_untargeted : (buses : List Bus) → gains_of (map untargeted buses) ≡ gains_of buses
gains_untargeted [] = refl
gains_untargeted (b ∷ buses) = ap (λ (gs : List ℕ). b.gain ∷ gs) (gains_untargeted buses)

alike_board : (p q : PlanData) → AreAlike p q → board q ≡ board p
alike_board p q w =
    ap (λ (nodes : List NodeState). flat_map node_words nodes ++ gains_of q.buses) w.nodes_are
    ∙ ap (λ (gs : List ℕ). flat_map node_words p.nodes ++ gs) (sym (gains_untargeted q.buses) ∙ ap gains_of w.buses_are ∙ gains_untargeted p.buses)

gain_commutes : (node out gain : ℕ) (buses : List Bus) → map untargeted (with_gain node out gain buses) ≡ with_gain node out gain (map untargeted buses)
gain_commutes node out gain [] = refl
gain_commutes node out gain (b ∷ buses) =
    ap (λ (c : Bus). c ∷ map untargeted (with_gain node out gain buses)) (by_test (is_output node out b))
    ∙ ap (λ (bs : List Bus). bus_with_gain node out gain (untargeted b) ∷ bs) (gain_commutes node out gain buses)
  where
    by_test : (t : Bool) → untargeted (if t then record b { gain = gain } else b) ≡ (if t then record (untargeted b) { gain = gain } else untargeted b)
    by_test true = refl
    by_test false = refl

target_unseen : (node out : ℕ) (to : Option ℕ) (buses : List Bus) → map untargeted (with_target node out to buses) ≡ map untargeted buses
target_unseen node out to [] = refl
target_unseen node out to (b ∷ buses) =
    ap (λ (c : Bus). c ∷ map untargeted (with_target node out to buses)) (by_test (is_output node out b))
    ∙ ap (λ (bs : List Bus). untargeted b ∷ bs) (target_unseen node out to buses)
  where
    by_test : (t : Bool) → untargeted (if t then record b { to = to } else b) ≡ untargeted b
    by_test true = refl
    by_test false = refl

alike_node : (p q : PlanData) (n : ℕ) (change : NodeState → NodeState) → AreAlike p q → AreAlike (record p { nodes = change_at change p.nodes n }) (record q { nodes = change_at change q.nodes n })
alike_node p q n change w = record {
  nodes_are = ap (λ (nodes : List NodeState). change_at change nodes n) w.nodes_are;
  buses_are = w.buses_are;
}

alike_made : (p q : PlanData) (e : Edit) → sets_word e ≡ true → AreAlike p q → AreAlike (made p e) (made q e)
alike_made p q (Attach node out to) sets w = absurd (true≢false (sym sets))
alike_made p q (Detach node out) sets w = absurd (true≢false (sym sets))
alike_made p q (SetGain node out gain) sets w = record {
  nodes_are = w.nodes_are;
  buses_are = gain_commutes node out gain q.buses ∙ ap (with_gain node out gain) w.buses_are ∙ sym (gain_commutes node out gain p.buses);
}
alike_made p q (Start node) sets w = alike_node p q node (λ n. record n { started = true }) w
alike_made p q (Stop node) sets w = alike_node p q node (λ n. record n { started = false }) w
alike_made p q (From node value) sets w = alike_node p q node (λ n. record n { from = value }) w
alike_made p q (Until node value) sets w = alike_node p q node (λ n. record n { until = value }) w
alike_made p q (Seek node place) sets w = alike_node p q node (with_seek place) w
alike_made p q (Loop node on) sets w = alike_node p q node (λ n. record n { looped = on }) w

alike_wired : (p q : PlanData) (e : Edit) → sets_word e ≡ false → AreAlike p q → AreAlike (made p e) q
alike_wired p q (Attach node out to) sets w = record { nodes_are = w.nodes_are; buses_are = w.buses_are ∙ sym (target_unseen node out (Some to) p.buses) }
alike_wired p q (Detach node out) sets w = record { nodes_are = w.nodes_are; buses_are = w.buses_are ∙ sym (target_unseen node out None p.buses) }
alike_wired p q (SetGain node out gain) sets w = absurd (true≢false sets)
alike_wired p q (Start node) sets w = absurd (true≢false sets)
alike_wired p q (Stop node) sets w = absurd (true≢false sets)
alike_wired p q (From node value) sets w = absurd (true≢false sets)
alike_wired p q (Until node value) sets w = absurd (true≢false sets)
alike_wired p q (Seek node place) sets w = absurd (true≢false sets)
alike_wired p q (Loop node on) sets w = absurd (true≢false sets)

same_reply : (p q : PlanData) (e : Edit) → sets_word e ≡ true → AreAlike p q → reply q e ≡ reply p e
same_reply p q (Attach node out to) sets w = absurd (true≢false (sym sets))
same_reply p q (Detach node out) sets w = absurd (true≢false (sym sets))
same_reply p q (SetGain node out gain) sets w = ap (λ (nodes : List NodeState). gain_reply nodes node out gain) w.nodes_are
same_reply p q (Start node) sets w = refl
same_reply p q (Stop node) sets w = refl
same_reply p q (From node value) sets w = refl
same_reply p q (Until node value) sets w = refl
same_reply p q (Seek node place) sets w = ap (λ (nodes : List NodeState). sound_reply nodes node) w.nodes_are
same_reply p q (Loop node on) sets w = ap (λ (nodes : List NodeState). sound_reply nodes node) w.nodes_are

no_dial : (p : PlanData) (e : Edit) → sets_word e ≡ false → dial_of p e ≡ None
no_dial p (Attach node out to) sets = refl
no_dial p (Detach node out) sets = refl
no_dial p (SetGain node out gain) sets = absurd (true≢false sets)
no_dial p (Start node) sets = absurd (true≢false sets)
no_dial p (Stop node) sets = absurd (true≢false sets)
no_dial p (From node value) sets = absurd (true≢false sets)
no_dial p (Until node value) sets = absurd (true≢false sets)
no_dial p (Seek node place) sets = absurd (true≢false sets)
no_dial p (Loop node on) sets = absurd (true≢false sets)

-- ---- one entry more

pub part_more : (s : SceneData) (es : List EntryData) (e : EntryData) → board_part s (es ++ e ∷ []) ≡ board_part s es ++ filter sets_word (edit_done s e)
part_more s es e =
    ap (filter sets_word) (flat_map-append (edit_done s) es (e ∷ []) ∙ ap (λ (ys : List Edit). flat_map (edit_done s) es ++ ys) (append-nil (edit_done s e)))
    ∙ filter-append sets_word (flat_map (edit_done s) es) (edit_done s e)

pub plan_more : (s : SceneData) (es : List EntryData) (e : EntryData) (edit : Edit) → edit_of s e ≡ Some edit → plan_after s (es ++ e ∷ []) ≡ after (plan_after s es) edit
plan_more s es e edit is =
    fold-append (after_entry s) (opening s) es (e ∷ [])
    ∙ ap (λ (o : Option Edit). option_map_or (after (plan_after s es)) o (plan_after s es)) is

-- nothing changes but where buses lead
same_history : (s : SceneData) (es new : List EntryData) (history changes : List (ℕ × ℕ)) → board_part s new ≡ board_part s es → changes ≡ [] → AreAlike (plan_after s new) (fold after (opening s) (board_part s es)) → IsBoardHistory s es history → IsBoardHistory s new (history ++ changes)
same_history s es new history changes part none alike w =
    let same : history ++ changes ≡ history = ap (λ (xs : List (ℕ × ℕ)). history ++ xs) none ∙ append-nil history in
    record {
      count_is = ap length same ∙ w.count_is ∙ ap length (sym part);
      words_are = λ count within.
          ap (λ (h : List (ℕ × ℕ)). words_set (board (opening s)) (take count h)) same
          ∙ w.words_are count (subst (λ (h : List (ℕ × ℕ)). count ≤ length h) same within)
          ∙ ap (λ (edits : List Edit). board (fold after (opening s) (take count edits))) (sym part);
      alike = subst (λ (edits : List Edit). AreAlike (plan_after s new) (fold after (opening s) edits)) (sym part) alike;
    }

-- one word changes
next_history : (s : SceneData) (es new : List EntryData) (history : List (ℕ × ℕ)) (edit : Edit) (change : ℕ × ℕ) → board_part s new ≡ board_part s es ++ edit ∷ [] → words_set (board (fold after (opening s) (board_part s es))) (change ∷ []) ≡ board (after (fold after (opening s) (board_part s es)) edit) → AreAlike (plan_after s new) (after (fold after (opening s) (board_part s es)) edit) → IsBoardHistory s es history → IsBoardHistory s new (history ++ change ∷ [])
next_history s es new history edit change part changed alike w = record {
  count_is = length-append history (change ∷ []) ∙ ap (λ (n : ℕ). n + 1) w.count_is ∙ sym (ap length part ∙ length-append (board_part s es) (edit ∷ []));
  words_are = λ count within. by_count count within (cases_eq count (length history + 1));
  alike = subst (AreAlike (plan_after s new)) (sym all) alike;
}
  where
    all : fold after (opening s) (board_part s new) ≡ after (fold after (opening s) (board_part s es)) edit
    all = ap (fold after (opening s)) part ∙ fold-append after (opening s) (board_part s es) (edit ∷ [])

    before : words_set (board (opening s)) history ≡ board (fold after (opening s) (board_part s es))
    before =
        let count = w.count_is in
        ap (words_set (board (opening s))) (sym (take_all (length history) history (omega arith)))
        ∙ w.words_are (length history) (omega arith)
        ∙ ap (λ (edits : List Edit). board (fold after (opening s) edits)) (take_all (length history) (board_part s es) (omega arith))

    by_count : (count : ℕ) → count ≤ length (history ++ change ∷ []) → (count ≡ length history + 1) ⊎ (count ≡ length history + 1 → ⊥) → words_set (board (opening s)) (take count (history ++ change ∷ [])) ≡ board_after s new count
    by_count count within (inl last) =
        let long = length-append history (change ∷ []) in
        let edits = ap length part ∙ length-append (board_part s es) (edit ∷ []) in
        let same = w.count_is in
        ap (words_set (board (opening s))) (take_all count (history ++ change ∷ []) (omega arith))
        ∙ fold-append (λ ds e. set ds e.0 e.1) (board (opening s)) history (change ∷ [])
        ∙ ap (λ (ws : List ℕ). words_set ws (change ∷ [])) before
        ∙ changed
        ∙ ap board (sym all)
        ∙ ap (λ (es : List Edit). board (fold after (opening s) es)) (sym (take_all count (board_part s new) (omega arith)))
    by_count count within (inr earlier) =
        let long = length-append history (change ∷ []) in
        let same = w.count_is in
        let low : count ≤ length history = omega arith in
        ap (words_set (board (opening s))) (take-append-le count history (change ∷ []) low)
        ∙ w.words_are count low
        ∙ ap (λ (es : List Edit). board (fold after (opening s) es)) (sym (ap (take count) part ∙ take-append-le count (board_part s es) (edit ∷ []) (omega arith)))

pub record HasDial (p : PlanData) (e : Edit) : Type 0 where
  pub place : ℕ
  pub is : dial_of p e ≡ Some place

pub history_more : (s : SceneData) (es : List EntryData) (e : EntryData) (edit : Edit) (history : List (ℕ × ℕ)) → edit_of s e ≡ Some edit → e.reply ≡ reply (plan_after s es) edit → IsPlan (plan_after s es) → names_nodes (length (plan_after s es).nodes) edit ≡ true → (is_done (reply (plan_after s es) edit) ≡ true → sets_word edit ≡ true → HasDial (plan_after s es) edit) → IsBoardHistory s es history → IsBoardHistory s (es ++ e ∷ []) (history ++ dial_set (plan_after s es) edit)
history_more s es e edit history edit_is reply_is plan names dial w = by_case (is_done (reply (plan_after s es) edit)) (sets_word edit) refl refl
  where
    p : PlanData
    p = plan_after s es

    q : PlanData
    q = fold after (opening s) (board_part s es)

    done_is : (d : Bool) → is_done (reply p edit) ≡ d → edit_done s e ≡ (if d then edit ∷ [] else [])
    done_is d is =
        ap (λ (o : Option Edit). if is_done e.reply then option_map_or (λ (x : Edit). x ∷ []) o [] else []) edit_is
        ∙ ap (λ (t : Bool). if t then edit ∷ [] else []) (ap is_done reply_is ∙ is)

    after_is : (d : Bool) → is_done (reply p edit) ≡ d → plan_after s (es ++ e ∷ []) ≡ (if d then made p edit else p)
    after_is d is = plan_more s es e edit edit_is ∙ ap (λ (t : Bool). if t then made p edit else p) is

    set_is : (d : Bool) → is_done (reply p edit) ≡ d → dial_set p edit ≡ (if d then word_at (made p edit) (dial_of p edit) else [])
    set_is d is = ap (λ (t : Bool). if t then word_at (made p edit) (dial_of p edit) else []) is

    by_case : (d sets : Bool) → is_done (reply p edit) ≡ d → sets_word edit ≡ sets → IsBoardHistory s (es ++ e ∷ []) (history ++ dial_set p edit)
    by_case false sets d_is sets_is =
        same_history s es (es ++ e ∷ []) history (dial_set p edit)
        (part_more s es e ∙ ap (λ (xs : List Edit). board_part s es ++ filter sets_word xs) (done_is false d_is) ∙ append-nil (board_part s es))
        (set_is false d_is) (subst (λ (x : PlanData). AreAlike x q) (sym (after_is false d_is)) w.alike) w
    by_case true false d_is sets_is =
        same_history s es (es ++ e ∷ []) history (dial_set p edit)
        (part_more s es e ∙ ap (λ (xs : List Edit). board_part s es ++ filter sets_word xs) (done_is true d_is) ∙ ap (λ (t : Bool). board_part s es ++ (if t then edit ∷ [] else [])) sets_is ∙ append-nil (board_part s es))
        (set_is true d_is ∙ ap (word_at (made p edit)) (no_dial p edit sets_is))
        (subst (λ (x : PlanData). AreAlike x q) (sym (after_is true d_is)) (alike_wired p q edit sets_is w.alike)) w
    by_case true true d_is sets_is =
        let has = dial d_is sets_is in
        let change : ℕ × ℕ = (has.place, slice_index (board (made p edit)) has.place) in
        let stored : dial_set p edit ≡ change ∷ [] = set_is true d_is ∙ ap (word_at (made p edit)) has.is in
        let q_done : after q edit ≡ made q edit = ap (λ (t : Bool). if t then made q edit else q) (ap is_done (same_reply p q edit sets_is w.alike) ∙ d_is) in
        let both = alike_made p q edit sets_is w.alike in
        let words : words_set (board q) (change ∷ []) ≡ board (after q edit) =
        ap (λ (ws : List ℕ). words_set ws (change ∷ [])) (alike_board p q w.alike)
        ∙ ap (λ (o : Option ℕ). words_set (board p) (word_at (made p edit) o)) (sym has.is)
        ∙ sym (sets_dial p edit plan names)
        ∙ sym (alike_board (made p edit) (made q edit) both)
        ∙ ap board (sym q_done) in
        subst (λ (changes : List (ℕ × ℕ)). IsBoardHistory s (es ++ e ∷ []) (history ++ changes)) (sym stored)
        (next_history s es (es ++ e ∷ []) history edit change
        (part_more s es e ∙ ap (λ (xs : List Edit). board_part s es ++ filter sets_word xs) (done_is true d_is) ∙ ap (λ (t : Bool). board_part s es ++ (if t then edit ∷ [] else [])) sets_is)
        words
        (subst (λ (x : PlanData). AreAlike x (after q edit)) (sym (after_is true d_is)) (subst (AreAlike (made p edit)) (sym q_done) both)) w)
