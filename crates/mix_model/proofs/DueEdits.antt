-- The edits that are due, one after the other.
use Rattle.std.proofs.Common.{◌≡◌, ℕ, zero, suc, ◌+◌, ◌<◌, ◌≤◌, Bool, true, false, eqb, cond, List, [], ◌∷◌, length, get_or, drop, map, refl, sym, ◌∙◌, ap, subst, arith}
use Rattle.std.specs.Prelude.{fold, filter}
use Rattle.std.proofs.lemmas.Bool.{eq-eqb, eqb-true, eqb-false}
use Rattle.std.proofs.lemmas.List.{drop_more, length-map}
use Rattle.scene_model.specs.declared.edit.Edit.{Edit}
use Rattle.scene_model.specs.declared.edit.EditRow.{EditRow}
use Rattle.scene_model.specs.declared.node.NodeKind.{NodeKind}
use Rattle.scene_model.specs.declared.node_state.NodeState.{NodeState}
use Rattle.scene_model.specs.declared.order.NumberedEdit.{NumberedEdit}
use Rattle.scene_model.specs.PlanData.{PlanData}
use Rattle.scene_model.specs.Plans.{after}
use Rattle.scene_model.proofs.Kept.{kinds_after}
use Rattle.mix_model.specs.Due.{no_edit, rows_of, due, frame_at, AreInOrder, CanMakeAll}

not_due : (x : NumberedEdit) (edits : List NumberedEdit) (t : ℕ) → (x.row.at ≡ t → ⊥) → due (x ∷ edits) t ≡ due edits t
not_due x edits t other = by_test (eqb x.row.at t) refl
  where
    by_test : (is : Bool) → eqb x.row.at t ≡ is → map (λ (r : EditRow). r.edit) (cond is (x.row ∷ filter (λ (r : EditRow). eqb r.at t) (rows_of edits)) (filter (λ (r : EditRow). eqb r.at t) (rows_of edits))) ≡ due edits t
    by_test true e = absurd (other (eqb-true x.row.at t e))
    by_test false e = refl

pub is_due : (x : NumberedEdit) (edits : List NumberedEdit) (t : ℕ) → x.row.at ≡ t → due (x ∷ edits) t ≡ x.row.edit ∷ due edits t
is_due x edits t e = rw (eq-eqb x.row.at t e) refl

pub due_here : (edits : List NumberedEdit) (i t : ℕ) → i < length edits → frame_at edits i ≡ t → due (drop i edits) t ≡ (get_or edits i no_edit).row.edit ∷ due (drop (i + 1) edits) t
due_here edits i t within e =
    ap (λ es. due es t) (drop_more edits i no_edit within) ∙ is_due (get_or edits i no_edit) (drop (i + 1) edits) t e

-- edits of earlier frames aren't due
pub due_skip : (edits : List NumberedEdit) (i t : ℕ) → ((k : ℕ) → k < i → frame_at edits k < t) → i ≤ length edits → due (drop i edits) t ≡ due edits t
due_skip edits zero t earlier within = refl
due_skip [] (suc i) t earlier within = absurd (omega arith)
due_skip (x ∷ edits) (suc i) t earlier within =
    let first : x.row.at < t = earlier 0 (omega arith) in
    due_skip edits i t (λ k below. earlier (suc k) (omega arith)) (omega arith) ∙ sym (not_due x edits t (λ e. omega arith))

-- nor are those of later frames
pub none_left : (edits : List NumberedEdit) (i t : ℕ) → ((k : ℕ) → i ≤ k → k < length edits → t < frame_at edits k) → due (drop i edits) t ≡ []
none_left [] zero t later = refl
none_left [] (suc i) t later = refl
none_left (x ∷ edits) zero t later =
    let first : t < x.row.at = later 0 (omega arith) (omega arith) in
    not_due x edits t (λ e. omega arith) ∙ none_left edits zero t (λ k le lt. later (suc k) (omega arith) (omega arith))
none_left (x ∷ edits) (suc i) t later = none_left edits i t (λ k le lt. later (suc k) (omega arith) (omega arith))

pub later_from : (edits : List NumberedEdit) (i t : ℕ) → AreInOrder edits → (frame_at edits i ≡ t → ⊥) → t ≤ frame_at edits i → (k : ℕ) → i ≤ k → k < length edits → t < frame_at edits k
later_from edits i t order other from k le lt =
    let up = order i k le lt in
    omega (arith, other)

-- a fold over the edits that are left, when one of them is made
pub fold_here : {X : Type 0} (f : X → Edit → X) (x y : X) (edits : List NumberedEdit) (i t : ℕ) → i < length edits → frame_at edits i ≡ t → y ≡ f x (get_or edits i no_edit).row.edit → fold f y (due (drop (i + 1) edits) t) ≡ fold f x (due (drop i edits) t)
fold_here f x y edits i t within e made =
    ap (λ z. fold f z (due (drop (i + 1) edits) t)) made ∙ ap (fold f x) (sym (due_here edits i t within e))

-- and when all are
pub fold_all : {X : Type 0} (f : X → Edit → X) (x y : X) (edits : List NumberedEdit) (place i t : ℕ) → place ≤ length edits → ((k : ℕ) → k < place → frame_at edits k < t) → ((k : ℕ) → i ≤ k → k < length edits → t < frame_at edits k) → fold f y (due (drop i edits) t) ≡ fold f x (due (drop place edits) t) → y ≡ fold f x (due edits t)
fold_all f x y edits place i t within earlier later same =
    ap (fold f y) (sym (none_left edits i t later)) ∙ same ∙ ap (fold f x) (due_skip edits place t earlier within)

pub can_after : (p : PlanData) (edits : List NumberedEdit) (i : ℕ) → i < length edits → CanMakeAll p (drop i edits) → CanMakeAll (after p (get_or edits i no_edit).row.edit) (drop (i + 1) edits)
can_after p edits i within can =
    let both : CanMakeAll p (get_or edits i no_edit ∷ drop (i + 1) edits) = subst (λ (es : List NumberedEdit). CanMakeAll p es) (drop_more edits i no_edit within) can in
    both.1

pub nodes_after : (p : PlanData) (e : Edit) → length (after p e).nodes ≡ length p.nodes
nodes_after p e =
    let kind : NodeState → NodeKind = λ n. n.kind in
    sym (length-map (after p e).nodes kind) ∙ ap length (kinds_after p e) ∙ length-map p.nodes kind

pub below_more_from : (from i : ℕ) (P : ℕ → Type 0) → ((k : ℕ) → from ≤ k → k < i → P k) → P i → (k : ℕ) → from ≤ k → k < i + 1 → P k
below_more_from from i P below here k le lt = by_test (eqb k i) refl
  where
    by_test : (t : Bool) → eqb k i ≡ t → P k
    by_test true e = subst P (sym (eqb-true k i e)) here
    by_test false e = below k le (let other = eqb-false k i e in omega arith)
