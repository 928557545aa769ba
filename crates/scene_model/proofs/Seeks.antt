-- How many seeks a node has had, and that the edits of a scene may be applied.
use Rattle.std.proofs.Common.{◌≡◌, ℕ, zero, suc, ◌+◌, ◌<◌, ◌≤◌, Bool, true, false, ◌&&◌, List, [], ◌∷◌, length, map, Option, Some, None, refl, sym, ◌∙◌, subst, arith}
use Rattle.std.specs.Prelude.{fold, if◌then◌else◌, nat_le, nat_lt}
use Rattle.std.proofs.lemmas.Bool.{and_parts, and_from, lt-ltb}
use Rattle.std.proofs.lemmas.List.{length-map}
use Rattle.scene_model.specs.declared.bus_row.BusRow.{BusRow}
use Rattle.scene_model.specs.declared.edit.Edit.{Edit}
use Rattle.scene_model.specs.declared.edit.Edit.TheVariants.{Attach, Detach, SetGain, Start, Stop, From, Until, Seek, Loop}
use Rattle.scene_model.specs.declared.node.Node.{Node}
use Rattle.scene_model.specs.declared.node_state.NodeState.{NodeState}
use Rattle.scene_model.specs.IsPlan.{names_nodes, seeks_at, may_seek, can_apply}
use Rattle.scene_model.specs.IsScene.{is_edit, is_time}
use Rattle.scene_model.specs.Limits as limits
use Rattle.scene_model.specs.Opening.{state_of, unwired, attach_edits, after_row, opening}
use Rattle.scene_model.specs.PlanData.{PlanData}
use Rattle.scene_model.specs.Plans.{reply, made, is_done, change_at, after, with_seek}
use Rattle.scene_model.specs.SceneData.{SceneData}
use Rattle.scene_model.proofs.PlanStays.{length-after, length-after_row}

-- no change of one node counts more than `more` seeks
seeks_changed : (more : ℕ) (change : NodeState → NodeState) → ((x : NodeState) → (change x).seeks ≤ x.seeks + more) → (nodes : List NodeState) (k n : ℕ) → seeks_at (change_at change nodes k) n ≤ seeks_at nodes n + more
seeks_changed more change few [] k n = omega arith
seeks_changed more change few (x ∷ nodes) zero zero = few x
seeks_changed more change few (x ∷ nodes) zero (suc n) = omega arith
seeks_changed more change few (x ∷ nodes) (suc k) zero = omega arith
seeks_changed more change few (x ∷ nodes) (suc k) (suc n) = seeks_changed more change few nodes k n

-- one for a seek, and none for another edit
seeks_of : Edit → ℕ
seeks_of (Attach node out to) = 0
seeks_of (Detach node out) = 0
seeks_of (SetGain node out gain) = 0
seeks_of (Start node) = 0
seeks_of (Stop node) = 0
seeks_of (From node value) = 0
seeks_of (Until node value) = 0
seeks_of (Seek node place) = 1
seeks_of (Loop node on) = 0

seeks_made : (p : PlanData) (e : Edit) (n : ℕ) → seeks_at (made p e).nodes n ≤ seeks_at p.nodes n + seeks_of e
unfolding seeks_of
seeks_made p (Attach node out to) n = omega arith
seeks_made p (Detach node out) n = omega arith
seeks_made p (SetGain node out gain) n = omega arith
seeks_made p (Start node) n = seeks_changed 0 _ (λ x. omega arith) p.nodes node n
seeks_made p (Stop node) n = seeks_changed 0 _ (λ x. omega arith) p.nodes node n
seeks_made p (From node value) n = seeks_changed 0 _ (λ x. omega arith) p.nodes node n
seeks_made p (Until node value) n = seeks_changed 0 _ (λ x. omega arith) p.nodes node n
seeks_made p (Seek node place) n = seeks_changed 1 (with_seek place) (λ x. omega arith) p.nodes node n
seeks_made p (Loop node on) n = seeks_changed 0 _ (λ x. omega arith) p.nodes node n

seeks_after : (p : PlanData) (e : Edit) (n : ℕ) → seeks_at (after p e).nodes n ≤ seeks_at p.nodes n + seeks_of e
seeks_after p e n = either (is_done (reply p e))
  where
    either : (d : Bool) → seeks_at (if d then made p e else p).nodes n ≤ seeks_at p.nodes n + seeks_of e
    either true = seeks_made p e n
    either false = omega arith

seeks_of_most : (e : Edit) → seeks_of e ≤ 1
unfolding seeks_of
seeks_of_most (Attach node out to) = omega arith
seeks_of_most (Detach node out) = omega arith
seeks_of_most (SetGain node out gain) = omega arith
seeks_of_most (Start node) = omega arith
seeks_of_most (Stop node) = omega arith
seeks_of_most (From node value) = omega arith
seeks_of_most (Until node value) = omega arith
seeks_of_most (Seek node place) = omega arith
seeks_of_most (Loop node on) = omega arith

seeks_run : (es : List Edit) (p : PlanData) (n : ℕ) → seeks_at (fold after p es).nodes n ≤ seeks_at p.nodes n + length es
seeks_run [] p n = omega arith
seeks_run (e ∷ es) p n = omega (arith, seeks_run es (after p e) n, seeks_after p e n, seeks_of_most e)

-- bus rows seek nothing
seeks_row : (p : PlanData) (b : BusRow) (n : ℕ) → seeks_at (after_row p b).nodes n ≤ seeks_at p.nodes n
seeks_row p b n = by_target b.to
  where
    gained : PlanData
    gained = after p (SetGain b.node b.out b.gain)

    unchanged : (q : PlanData) (e : Edit) → seeks_of e ≡ 0 → seeks_at (after q e).nodes n ≤ seeks_at q.nodes n
    unchanged q e none = omega (arith, seeks_after q e n, none)

    by_target : (to : Option ℕ) → seeks_at (fold after gained (attach_edits b.node b.out to)).nodes n ≤ seeks_at p.nodes n
    by_target None = unchanged p (SetGain b.node b.out b.gain) (unfold seeks_of in refl)
    by_target (Some to) =
        let first = unchanged p (SetGain b.node b.out b.gain) (unfold seeks_of in refl) in
        let second = unchanged gained (Attach b.node b.out to) (unfold seeks_of in refl) in
        omega (arith, first, second)

seeks_rows : (rows : List BusRow) (p : PlanData) (n : ℕ) → seeks_at (fold after_row p rows).nodes n ≤ seeks_at p.nodes n
seeks_rows [] p n = omega arith
seeks_rows (b ∷ rows) p n = omega (arith, seeks_rows rows (after_row p b) n, seeks_row p b n)

seeks_at_start : (nodes : List Node) (n : ℕ) → seeks_at (map state_of nodes) n ≡ 0
seeks_at_start [] n = refl
seeks_at_start (x ∷ nodes) zero = refl
seeks_at_start (x ∷ nodes) (suc n) = seeks_at_start nodes n

seeks_opening : (s : SceneData) (edits : List Edit) (n : ℕ) → seeks_at (fold after (opening s) edits).nodes n ≤ length edits
seeks_opening s edits n =
    omega (arith, seeks_run edits (opening s) n, seeks_rows s.buses (unwired s.nodes) n, seeks_at_start s.nodes n)

length_rows : (rows : List BusRow) (p : PlanData) → length (fold after_row p rows).nodes ≡ length p.nodes
length_rows [] p = refl
length_rows (b ∷ rows) p = length_rows rows (after_row p b) ∙ length-after_row p b

length_run : (es : List Edit) (p : PlanData) → length (fold after p es).nodes ≡ length p.nodes
length_run [] p = refl
length_run (e ∷ es) p = length_run es (after p e) ∙ length-after p e

length_later : (s : SceneData) (edits : List Edit) → length (fold after (opening s) edits).nodes ≡ length s.nodes
length_later s edits =
    length_run edits (opening s) ∙ length_rows s.buses (unwired s.nodes) ∙ length-map s.nodes state_of

-- an edit in its ranges may be applied where no node had the most seeks
may_from_ranges : (nodes : ℕ) (states : List NodeState) → ((n : ℕ) → seeks_at states n < limits.most_seeks) → (e : Edit) → is_edit nodes e ≡ true → (names_nodes nodes e && may_seek states e) ≡ true
may_from_ranges nodes states few (Attach node out to) h = and_from _ true h refl
may_from_ranges nodes states few (Detach node out) h = and_from _ true h refl
may_from_ranges nodes states few (SetGain node out gain) h = and_from _ true h refl
may_from_ranges nodes states few (Start node) h = and_from _ true h refl
may_from_ranges nodes states few (Stop node) h = and_from _ true h refl
may_from_ranges nodes states few (From node value) h = and_from _ true (and_parts (nat_lt node nodes) (is_time value) h).0 refl
may_from_ranges nodes states few (Until node value) h = and_from _ true (and_parts (nat_lt node nodes) (is_time value) h).0 refl
may_from_ranges nodes states few (Seek node place) h =
    let both = and_parts (nat_lt node nodes) (nat_le place limits.last_place) h in
    and_from (nat_lt node nodes) (nat_le place limits.last_place && nat_lt (seeks_at states node) limits.most_seeks) both.0
    (and_from (nat_le place limits.last_place) (nat_lt (seeks_at states node) limits.most_seeks) both.1 (lt-ltb (seeks_at states node) limits.most_seeks (few node)))
may_from_ranges nodes states few (Loop node on) h = and_from _ true h refl

pub can_apply_later : (s : SceneData) (edits : List Edit) → length edits < limits.most_seeks → (e : Edit) → is_edit (length s.nodes) e ≡ true → can_apply (fold after (opening s) edits) e ≡ true
can_apply_later s edits few e h =
    let p = fold after (opening s) edits in
    may_from_ranges (length p.nodes) p.nodes (λ n. omega (arith, seeks_opening s edits n, few)) e
    (subst (λ (k : ℕ). is_edit k e ≡ true) (sym (length_later s edits)) h)
