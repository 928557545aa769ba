-- The times of nodes stay in the range of a scene.
use Rattle.std.proofs.Common.{◌≡◌, ℕ, zero, suc, ◌≤◌, Bool, true, false, ◌&&◌, cond, List, [], ◌∷◌, length, map, Option, Some, None, refl}
use Rattle.std.specs.Prelude.{All, filter, fold, if◌then◌else◌, ◌==◌, nat_le, nat_lt}
use Rattle.std.specs.List.{list_all}
use Rattle.std.proofs.lemmas.Bool.{and_parts, and_from, leb-true}
use Rattle.std.proofs.lemmas.List.Elements.{All-cons, All-nil}
use Rattle.scene_model.specs.declared.bus_row.BusRow.{BusRow}
use Rattle.scene_model.specs.declared.edit.Edit.{Edit}
use Rattle.scene_model.specs.declared.edit.Edit.TheVariants.{Attach, Detach, SetGain, Start, Stop, From, Until, Seek, Loop}
use Rattle.scene_model.specs.declared.edit.EditRow.{EditRow}
use Rattle.scene_model.specs.declared.node.Node.{Node}
use Rattle.scene_model.specs.declared.node_state.NodeState.{NodeState}
use Rattle.scene_model.specs.IsPlan.{HasTimesInRange, AreTimesInRange}
use Rattle.scene_model.specs.IsScene.{IsScene, is_edit, is_edit_row, is_kind, is_node, is_time}
use Rattle.scene_model.specs.Limits as limits
use Rattle.scene_model.specs.Names.{is_name}
use Rattle.scene_model.specs.Opening.{state_of, unwired, attach_edits, after_row, opening}
use Rattle.scene_model.specs.PlanData.{PlanData}
use Rattle.scene_model.specs.Plans.{reply, made, is_done, change_at, after, with_seek}
use Rattle.scene_model.specs.SceneData.{SceneData}
use Rattle.scene_model.specs.Times.{edits_at, plan_before, plan}
use Rattle.scene_model.proofs.PlanStays.{All_changed}

node_changed : (change : NodeState → NodeState) (nodes : List NodeState) (n : ℕ) → ((x : NodeState) → HasTimesInRange x → HasTimesInRange (change x)) → All HasTimesInRange nodes → All HasTimesInRange (change_at change nodes n)
node_changed change nodes n step all = All_changed HasTimesInRange change nodes n (λ x e h. step x h) all

in_range : (value : ℕ) → is_time value ≡ true → value ≤ limits.most_frames
in_range value h = leb-true value limits.most_frames h

times_made : (nodes : ℕ) (p : PlanData) (e : Edit) → is_edit nodes e ≡ true → AreTimesInRange p → AreTimesInRange (made p e)
times_made nodes p (Attach node out to) h all = all
times_made nodes p (Detach node out) h all = all
times_made nodes p (SetGain node out gain) h all = all
times_made nodes p (Start node) h all = node_changed _ p.nodes node (λ x w. record { from_most = w.from_most; until_most = w.until_most }) all
times_made nodes p (Stop node) h all = node_changed _ p.nodes node (λ x w. record { from_most = w.from_most; until_most = w.until_most }) all
times_made nodes p (From node value) h all =
    let small = in_range value (and_parts (nat_lt node nodes) (is_time value) h).1 in
    node_changed _ p.nodes node (λ x w. record { from_most = small; until_most = w.until_most }) all
times_made nodes p (Until node value) h all =
    let small = in_range value (and_parts (nat_lt node nodes) (is_time value) h).1 in
    node_changed _ p.nodes node (λ x w. record { from_most = w.from_most; until_most = small }) all
times_made nodes p (Seek node place) h all = node_changed (with_seek place) p.nodes node (λ x w. record { from_most = w.from_most; until_most = w.until_most }) all
times_made nodes p (Loop node on) h all = node_changed _ p.nodes node (λ x w. record { from_most = w.from_most; until_most = w.until_most }) all

pub times_after : (nodes : ℕ) (p : PlanData) (e : Edit) → is_edit nodes e ≡ true → AreTimesInRange p → AreTimesInRange (after p e)
times_after nodes p e h all = either (is_done (reply p e))
  where
    either : (d : Bool) → AreTimesInRange (if d then made p e else p)
    either true = times_made nodes p e h all
    either false = all

times_run : (nodes : ℕ) (es : List Edit) (p : PlanData) → list_all (is_edit nodes) es ≡ true → AreTimesInRange p → AreTimesInRange (fold after p es)
times_run nodes [] p h all = all
times_run nodes (e ∷ es) p h all =
    let both = and_parts (is_edit nodes e) (list_all (is_edit nodes) es) h in
    times_run nodes es (after p e) both.1 (times_after nodes p e both.0 all)

-- a bus row changes no node
times_row : (p : PlanData) (b : BusRow) → AreTimesInRange p → AreTimesInRange (after_row p b)
times_row p b all = by_target b.to
  where
    unchanged : (q : PlanData) (e : Edit) → (AreTimesInRange q → AreTimesInRange (made q e)) → AreTimesInRange q → AreTimesInRange (after q e)
    unchanged q e same all = either (is_done (reply q e))
      where
        either : (d : Bool) → AreTimesInRange (if d then made q e else q)
        either true = same all
        either false = all

    gained : PlanData
    gained = after p (SetGain b.node b.out b.gain)

    by_target : (to : Option ℕ) → AreTimesInRange (fold after gained (attach_edits b.node b.out to))
    by_target None = unchanged p (SetGain b.node b.out b.gain) (λ w. w) all
    by_target (Some to) = unchanged gained (Attach b.node b.out to) (λ w. w) (unchanged p (SetGain b.node b.out b.gain) (λ w. w) all)

times_rows : (rows : List BusRow) (p : PlanData) → AreTimesInRange p → AreTimesInRange (fold after_row p rows)
times_rows [] p all = all
times_rows (b ∷ rows) p all = times_rows rows (after_row p b) (times_row p b all)

times_at_start : (resources : ℕ) (nodes : List Node) → list_all (is_node resources) nodes ≡ true → All HasTimesInRange (map state_of nodes)
times_at_start resources [] h = All-nil HasTimesInRange
times_at_start resources (n ∷ nodes) h =
    let both = and_parts (is_node resources n) (list_all (is_node resources) nodes) h in
    let ends = and_parts (is_name n.name && is_kind resources n.kind && is_time n.from) (is_time n.until) both.0 in
    let begins = and_parts (is_name n.name && is_kind resources n.kind) (is_time n.from) ends.0 in
    All-cons HasTimesInRange (state_of n) (map state_of nodes)
    (record { from_most = in_range n.from begins.1; until_most = in_range n.until ends.1 })
    (times_at_start resources nodes both.1)

times_opening : (s : SceneData) → IsScene s → AreTimesInRange (opening s)
times_opening s is =
    times_rows s.buses (unwired s.nodes) (times_at_start (length s.resources) s.nodes is.nodes_are)

pub times_later : (s : SceneData) (edits : List Edit) → IsScene s → list_all (is_edit (length s.nodes)) edits ≡ true → AreTimesInRange (fold after (opening s) edits)
times_later s edits is may = times_run (length s.nodes) edits (opening s) may (times_opening s is)

-- the edits of a frame are edits of rows
edits_at_are : (nodes t : ℕ) (rows : List EditRow) → list_all (is_edit_row nodes) rows ≡ true → list_all (is_edit nodes) (edits_at rows t) ≡ true
edits_at_are nodes t [] h = refl
edits_at_are nodes t (row ∷ rows) h =
    let both = and_parts (is_edit_row nodes row) (list_all (is_edit_row nodes) rows) h in
    let own = and_parts (is_time row.at && nat_le row.editor limits.last_editor) (is_edit nodes row.edit) both.0 in
    by_test own.1 (edits_at_are nodes t rows both.1) (row.at == t)
  where
    by_test : is_edit nodes row.edit ≡ true → list_all (is_edit nodes) (edits_at rows t) ≡ true → (b : Bool) → list_all (is_edit nodes) (map (λ (r : EditRow). r.edit) (cond b (row ∷ filter (λ (r : EditRow). r.at == t) rows) (filter (λ (r : EditRow). r.at == t) rows))) ≡ true
    by_test here ih true = and_from (is_edit nodes row.edit) _ here ih
    by_test here ih false = ih

times_before : (s : SceneData) (t : ℕ) → IsScene s → AreTimesInRange (plan_before s t)
unfolding plan_before
times_before s zero is = times_opening s is
times_before s (suc t) is =
    times_run (length s.nodes) (edits_at s.edits t) (plan_before s t) (edits_at_are (length s.nodes) t s.edits is.edits_are) (times_before s t is)

pub times_at : (s : SceneData) (t : ℕ) → IsScene s → AreTimesInRange (plan s t)
times_at s t is =
    times_run (length s.nodes) (edits_at s.edits t) (plan_before s t) (edits_at_are (length s.nodes) t s.edits is.edits_are) (times_before s t is)
