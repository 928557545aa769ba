-- The plans of a run: those to which its journal leads.
use Rattle.std.proofs.Common.{◌≡◌, ℕ, zero, suc, ◌+◌, ◌*◌, ◌<◌, ◌≤◌, Bool, true, false, true≢false, List, [], ◌∷◌, ◌++◌, length, map, fold, Option, Some, None, refl, sym, ◌∙◌, ap, subst, arith}
use Rattle.std.specs.Prelude.{◌==◌, ◌&&◌, if◌then◌else◌, not, slice_get, filter, nat_lt, nat_le}
use Rattle.std.specs.List.{list_all}
use Rattle.std.specs.Option.{option_map, option_map_or}
use Rattle.std.proofs.lemmas.Bool.{and_parts, eq-eqb}
use Rattle.std.proofs.lemmas.List.{length-map}
use Rattle.std.proofs.lemmas.Option.{none-some, same_Some, slice_get-map}
use Rattle.scene_model.specs.declared.bus.Bus.{Bus}
use Rattle.scene_model.specs.declared.bus_row.BusRow.{BusRow}
use Rattle.scene_model.specs.declared.edit.Edit.{Edit}
use Rattle.scene_model.specs.declared.edit.Edit.TheVariants.{Attach, Detach, SetGain, Start, Stop, From, Until, Seek, Loop}
use Rattle.scene_model.specs.declared.edit.EditRow.{EditRow}
use Rattle.scene_model.specs.declared.node.Node.{Node}
use Rattle.scene_model.specs.declared.node.NodeKind.{NodeKind}
use Rattle.scene_model.specs.declared.node_state.NodeState.{NodeState}
use Rattle.scene_model.specs.declared.reply.Reply.TheVariants.{NoSuchBus, GainTooLarge, Done}
use Rattle.scene_model.specs.Buses.{outputs, has_bus, bus_number}
use Rattle.scene_model.specs.IsPlan.{can_apply, kinds, output_of}
use Rattle.scene_model.specs.IsScene.{is_edit, is_edit_row, is_time}
use Rattle.scene_model.specs.Limits as limits
use Rattle.scene_model.specs.Opening.{opening, after_row, row_edits, state_of, unwired}
use Rattle.scene_model.specs.PlanData.{PlanData}
use Rattle.scene_model.specs.Plans.{after, reply, is_done, has_output}
use Rattle.scene_model.specs.SceneData.{SceneData}
use Rattle.scene_model.specs.Wiring.{is_output}
use Rattle.scene_model.proofs.BusNumbers.{number_later}
use Rattle.scene_model.proofs.Kept.{kinds_after}
use Rattle.scene_model.proofs.PlanStays.{length-after}
use Rattle.scene_model.proofs.Seeks.{can_apply_later}
use Rattle.mix_model.specs.Histories.{sets_word}
use Rattle.mix_model.specs.Journals.{EntryData, after_entry, edit_of, edits_by, plan_after}
use Rattle.node_graph.specs.ListChanges.{number_of}
use Rattle.node_graph.proofs.Wired.{unnumbered}
use Rattle.live_graph.proofs.BoardSteps.{HasDial}
use Rattle.live_graph.proofs.StageEdits.{length-buses}

-- ---- a journal's plan is that of its edits

abbrev one_edit : Option Edit → List Edit
one_edit o = option_map_or (λ (x : Edit). x ∷ []) o []

abbrev edits_in : SceneData → List EntryData → List Edit
edits_in s [] = []
edits_in s (e ∷ es) = one_edit (edit_of s e) ++ edits_in s es

plan_run : (s : SceneData) (p : PlanData) (es : List EntryData) → fold (after_entry s) p es ≡ fold after p (edits_in s es)
plan_run s p [] = refl
plan_run s p (e ∷ es) = by_edit (λ q. plan_run s q es) (edit_of s e)
  where
    by_edit : ((q : PlanData) → fold (after_entry s) q es ≡ fold after q (edits_in s es)) → (o : Option Edit) → fold (after_entry s) (option_map_or (after p) o p) es ≡ fold after p (one_edit o ++ edits_in s es)
    by_edit rest None = rest p
    by_edit rest (Some x) = rest (after p x)

pub plan_of_edits : (s : SceneData) (es : List EntryData) → plan_after s es ≡ fold after (opening s) (edits_in s es)
plan_of_edits s es = plan_run s (opening s) es

few_edits : (s : SceneData) (es : List EntryData) → length (edits_in s es) ≤ length es
few_edits s [] = omega arith
few_edits s (e ∷ es) = by_edit (few_edits s es) (edit_of s e)
  where
    by_edit : length (edits_in s es) ≤ length es → (o : Option Edit) → length (one_edit o ++ edits_in s es) ≤ suc (length es)
    by_edit rest None = omega arith
    by_edit rest (Some x) = omega arith

-- ---- its nodes, kinds and buses are those of the opening

nodes_run : (es : List Edit) (p : PlanData) → length (fold after p es).nodes ≡ length p.nodes
nodes_run [] p = refl
nodes_run (e ∷ es) p = nodes_run es (after p e) ∙ length-after p e

buses_run : (es : List Edit) (p : PlanData) → length (fold after p es).buses ≡ length p.buses
buses_run [] p = refl
buses_run (e ∷ es) p = buses_run es (after p e) ∙ length-buses p e

kinds_run : (es : List Edit) (p : PlanData) → kinds (fold after p es).nodes ≡ kinds p.nodes
kinds_run [] p = refl
kinds_run (e ∷ es) p = kinds_run es (after p e) ∙ kinds_after p e

kinds_rows : (rows : List BusRow) (p : PlanData) → kinds (fold after_row p rows).nodes ≡ kinds p.nodes
kinds_rows [] p = refl
kinds_rows (b ∷ rows) p = kinds_rows rows (after_row p b) ∙ kinds_run (row_edits b) p

pub nodes_stay : (s : SceneData) (es : List EntryData) → length (plan_after s es).nodes ≡ length (opening s).nodes
nodes_stay s es = ap (λ (p : PlanData). length p.nodes) (plan_of_edits s es) ∙ nodes_run (edits_in s es) (opening s)

pub buses_stay : (s : SceneData) (es : List EntryData) → length (plan_after s es).buses ≡ length (opening s).buses
buses_stay s es = ap (λ (p : PlanData). length p.buses) (plan_of_edits s es) ∙ buses_run (edits_in s es) (opening s)

abbrev kind_of : NodeState → NodeKind
kind_of n = n.kind

pub nodes_opened : (s : SceneData) → length (opening s).nodes ≡ length s.nodes
nodes_opened s =
    sym (length-map (opening s).nodes kind_of) ∙ ap length (kinds_rows s.buses (unwired s.nodes)) ∙ length-map (map state_of s.nodes) kind_of ∙ length-map s.nodes state_of

-- ---- its edits may be made

row_is_edit : (nodes : ℕ) (rows : List EditRow) (editor k : ℕ) (edit : Edit) → list_all (is_edit_row nodes) rows ≡ true → slice_get (map (λ (r : EditRow). r.edit) (filter (λ (r : EditRow). r.editor == editor) rows)) k ≡ Some edit → is_edit nodes edit ≡ true
row_is_edit nodes [] editor k edit all at = absurd (none-some edit at)
row_is_edit nodes (r ∷ rows) editor k edit all at =
    by_test (λ n e. row_is_edit nodes rows editor n edit (and_parts (is_edit_row nodes r) (list_all (is_edit_row nodes) rows) all).1 e) (r.editor == editor) k at
  where
    both : (is_edit_row nodes r ≡ true) × (list_all (is_edit_row nodes) rows ≡ true)
    both = and_parts (is_edit_row nodes r) (list_all (is_edit_row nodes) rows) all

    here : is_edit nodes r.edit ≡ true
    here = (and_parts (is_time r.at && nat_le r.editor limits.last_editor) (is_edit nodes r.edit) both.0).1

    by_test : ((n : ℕ) → slice_get (map (λ (q : EditRow). q.edit) (filter (λ (q : EditRow). q.editor == editor) rows)) n ≡ Some edit → is_edit nodes edit ≡ true) → (t : Bool) (n : ℕ) → slice_get (map (λ (q : EditRow). q.edit) (if t then r ∷ filter (λ (q : EditRow). q.editor == editor) rows else filter (λ (q : EditRow). q.editor == editor) rows)) n ≡ Some edit → is_edit nodes edit ≡ true
    by_test rest true zero e = subst (λ (x : Edit). is_edit nodes x ≡ true) (same_Some r.edit edit e) here
    by_test rest true (suc n) e = rest n e
    by_test rest false n e = rest n e

pub edit_of_rows : (s : SceneData) (es : List EntryData) (editor k : ℕ) (edit : Edit) → list_all (is_edit_row (length s.nodes)) s.edits ≡ true → slice_get (edits_by s editor) k ≡ Some edit → is_edit (length (plan_after s es).nodes) edit ≡ true
edit_of_rows s es editor k edit all at =
    subst (λ (n : ℕ). is_edit n edit ≡ true) (sym (nodes_stay s es ∙ nodes_opened s)) (row_is_edit (length s.nodes) s.edits editor k edit all at)

pub can_be_made : (s : SceneData) (es : List EntryData) (editor k : ℕ) (edit : Edit) → length es < limits.most_seeks → list_all (is_edit_row (length s.nodes)) s.edits ≡ true → slice_get (edits_by s editor) k ≡ Some edit → can_apply (plan_after s es) edit ≡ true
can_be_made s es editor k edit few all at =
    subst (λ (p : PlanData). can_apply p edit ≡ true) (sym (plan_of_edits s es))
    (can_apply_later s (edits_in s es) (let less = few_edits s es in omega arith) edit (row_is_edit (length s.nodes) s.edits editor k edit all at))

-- ---- an edit of a word that is done has a dial

abbrev outputs_at : List NodeKind → ℕ → ℕ
outputs_at ks node = option_map_or outputs (slice_get ks node) 0

states_outputs : (nodes : List NodeState) (node : ℕ) → option_map_or (λ (n : NodeState). outputs n.kind) (slice_get nodes node) 0 ≡ outputs_at (kinds nodes) node
states_outputs [] node = refl
states_outputs (x ∷ nodes) zero = refl
states_outputs (x ∷ nodes) (suc node) = states_outputs nodes node

rows_outputs : (nodes : List Node) (node : ℕ) → option_map_or (λ (n : Node). outputs n.kind) (slice_get nodes node) 0 ≡ outputs_at (kinds (map state_of nodes)) node
rows_outputs [] node = refl
rows_outputs (x ∷ nodes) zero = refl
rows_outputs (x ∷ nodes) (suc node) = rows_outputs nodes node

same_outputs : (s : SceneData) (edits : List Edit) (node out : ℕ) → has_output (fold after (opening s) edits).nodes node out ≡ has_bus s.nodes node out
same_outputs s edits node out =
    ap (nat_lt out) (states_outputs (fold after (opening s) edits).nodes node
    ∙ ap (λ (ks : List NodeKind). outputs_at ks node) (kinds_run edits (opening s) ∙ kinds_rows s.buses (unwired s.nodes))
    ∙ sym (rows_outputs s.nodes node))

has_from_done : (has : Bool) (gain : ℕ) → is_done (if not has then NoSuchBus else (if nat_lt limits.most_gain gain then GainTooLarge else Done)) ≡ true → has ≡ true
has_from_done true gain d = refl
has_from_done false gain d = absurd (true≢false (sym d))

abbrev HasNumber : List Bus → ℕ → ℕ → Type 0
HasNumber buses node out = (k : ℕ) × (number_of buses node out ≡ Some k)

number_there : (buses : List Bus) (node out n : ℕ) → slice_get (map output_of buses) n ≡ Some (node, out) → HasNumber buses node out
number_there buses node out n at = by_number (number_of buses node out) refl
  where
    is_there : (o : Option Bus) → slice_get buses n ≡ o → option_map output_of o ≡ Some (node, out) → number_of buses node out ≡ None → HasNumber buses node out
    is_there None here out_is none = absurd (none-some (node, out) out_is)
    is_there (Some b) here out_is none =
        let same = same_Some (output_of b) (node, out) out_is in
        let yes : is_output node out b ≡ true = ap (λ (t : Bool). t && (b.out == out)) (eq-eqb b.node node (ap (λ (x : ℕ × ℕ). x.0) same)) ∙ eq-eqb b.out out (ap (λ (x : ℕ × ℕ). x.1) same) in
        absurd (true≢false (sym yes ∙ unnumbered buses node out none n b here))

    by_number : (o : Option ℕ) → number_of buses node out ≡ o → HasNumber buses node out
    by_number (Some k) e = (k, e)
    by_number None e = is_there (slice_get buses n) refl (sym (slice_get-map output_of buses n) ∙ at) e

pub has_dial : (s : SceneData) (es : List EntryData) (e : Edit) → is_done (reply (plan_after s es) e) ≡ true → sets_word e ≡ true → HasDial (plan_after s es) e
has_dial s es (Attach node out to) d sets = absurd (true≢false (sym sets))
has_dial s es (Detach node out) d sets = absurd (true≢false (sym sets))
has_dial s es (SetGain node out gain) d sets =
    let p = plan_after s es in
    let edits = edits_in s es in
    let has : has_bus s.nodes node out ≡ true = sym (same_outputs s edits node out) ∙ ap (λ (q : PlanData). has_output q.nodes node out) (sym (plan_of_edits s es)) ∙ has_from_done (has_output p.nodes node out) gain d in
    let there = number_there p.buses node out (bus_number s.nodes node out) (ap (λ (q : PlanData). slice_get (map output_of q.buses) (bus_number s.nodes node out)) (plan_of_edits s es) ∙ number_later s edits node out has) in
    record { place = 5 * length p.nodes + there.0; is = ap (option_map (λ (bus : ℕ). 5 * length p.nodes + bus)) there.1 }
has_dial s es (Start node) d sets = record { place = 5 * node; is = refl }
has_dial s es (Stop node) d sets = record { place = 5 * node; is = refl }
has_dial s es (From node value) d sets = record { place = 5 * node + 1; is = refl }
has_dial s es (Until node value) d sets = record { place = 5 * node + 2; is = refl }
has_dial s es (Seek node place) d sets = record { place = 5 * node + 3; is = refl }
has_dial s es (Loop node on) d sets = record { place = 5 * node + 4; is = refl }
