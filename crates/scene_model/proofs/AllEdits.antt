-- The plan at a frame is the opening plan after all edits up to that frame.
use Rattle.std.proofs.Common.{◌≡◌, ℕ, zero, suc, ◌≤◌, Bool, true, false, cond, List, [], ◌∷◌, ◌++◌, map, nat_lt, refl, sym, ◌∙◌, ap, arith}
use Rattle.std.specs.Prelude.{filter, fold, ◌==◌, nat_le}
use Rattle.std.proofs.Math.Dec.{leb-suc-suc}
use Rattle.std.proofs.lemmas.Bool.{eqb-true, eqb-false, ltb-true, ltb-false}
use Rattle.std.proofs.lemmas.List.{map-append}
use Rattle.std.proofs.lemmas.List.Sums.{fold-append}
use Rattle.scene_model.specs.declared.edit.Edit.{Edit}
use Rattle.scene_model.specs.declared.order.NumberedEdit.{NumberedEdit}
use Rattle.scene_model.specs.Opening.{opening}
use Rattle.scene_model.specs.Order.{in_order}
use Rattle.scene_model.specs.Plans.{after}
use Rattle.scene_model.specs.SceneData.{SceneData}
use Rattle.scene_model.specs.Times.{edits_at, plan_before, plan}
use Rattle.scene_model.proofs.Ordered.{NoneBefore, Ascend, order_ascend, of_frame, edits_of_frame}

abbrev edit_of : NumberedEdit → Edit
edit_of e = e.row.edit

-- the edits before a frame
abbrev earlier : ℕ → List NumberedEdit → List NumberedEdit
earlier t es = filter (λ (e : NumberedEdit). nat_lt e.row.at t) es

none_earlier : (t at : ℕ) → t ≤ at → (es : List NumberedEdit) → NoneBefore at es → earlier t es ≡ []
none_earlier t at least [] none = refl
none_earlier t at least (x ∷ es) none = by_test (none_earlier t at least es none.1) (nat_lt x.row.at t) refl
  where
    by_test : earlier t es ≡ [] → (b : Bool) → nat_lt x.row.at t ≡ b → cond b (x ∷ earlier t es) (earlier t es) ≡ []
    by_test ih true is = let first = none.0 in absurd (omega (arith, ltb-true x.row.at t is))
    by_test ih false is = ih

none_before_all : (es : List NumberedEdit) → NoneBefore 0 es
none_before_all [] = tt
none_before_all (x ∷ es) = (omega arith, none_before_all es)

-- those before the next frame are those before this one, and then its own
earlier_more : (t : ℕ) (es : List NumberedEdit) → Ascend es → earlier (suc t) es ≡ earlier t es ++ of_frame t es
earlier_more t [] up = refl
earlier_more t (x ∷ es) up =
    by_test (earlier_more t es up.1) (nat_lt x.row.at (suc t)) refl (nat_lt x.row.at t) refl (x.row.at == t) refl
  where
    by_test : earlier (suc t) es ≡ earlier t es ++ of_frame t es → (a : Bool) → nat_lt x.row.at (suc t) ≡ a → (b : Bool) → nat_lt x.row.at t ≡ b → (c : Bool) → (x.row.at == t) ≡ c → cond a (x ∷ earlier (suc t) es) (earlier (suc t) es) ≡ cond b (x ∷ earlier t es) (earlier t es) ++ cond c (x ∷ of_frame t es) (of_frame t es)
    by_test ih true p true q false r = ap (λ (es : List NumberedEdit). x ∷ es) ih
    by_test ih true p false q true r =
        let at : x.row.at ≡ t = eqb-true x.row.at t r in
        let none = none_earlier t x.row.at (omega arith) es up.0 in
        ap (λ (es : List NumberedEdit). x ∷ es) (ih ∙ ap (λ (front : List NumberedEdit). front ++ of_frame t es) none)
        ∙ sym (ap (λ (front : List NumberedEdit). front ++ x ∷ of_frame t es) none)
    by_test ih false p false q false r = ih
    by_test ih true p true q true r = absurd (omega (arith, ltb-true x.row.at t q, eqb-true x.row.at t r))
    by_test ih true p false q false r = absurd (omega (arith, ltb-true x.row.at (suc t) p, ltb-false x.row.at t q, eqb-false x.row.at t r))
    by_test ih false p true q c r = absurd (omega (arith, ltb-false x.row.at (suc t) p, ltb-true x.row.at t q))
    by_test ih false p false q true r = absurd (omega (arith, ltb-false x.row.at (suc t) p, eqb-true x.row.at t r))

-- the plan after the edits of a frame
frame_made : (s : SceneData) (t : ℕ) → fold after (opening s) (map edit_of (earlier (suc t) (in_order s.edits))) ≡ fold after (fold after (opening s) (map edit_of (earlier t (in_order s.edits)))) (edits_at s.edits t)
frame_made s t =
    let es = in_order s.edits in
    ap (λ (front : List NumberedEdit). fold after (opening s) (map edit_of front)) (earlier_more t es (order_ascend s.edits))
    ∙ ap (fold after (opening s)) (map-append edit_of (earlier t es) (of_frame t es))
    ∙ fold-append after (opening s) (map edit_of (earlier t es)) (map edit_of (of_frame t es))
    ∙ ap (fold after (fold after (opening s) (map edit_of (earlier t es)))) (edits_of_frame s.edits t)

before_is : (s : SceneData) (t : ℕ) → plan_before s t ≡ fold after (opening s) (map edit_of (earlier t (in_order s.edits)))
unfolding plan_before
before_is s zero =
    sym (ap (λ (front : List NumberedEdit). fold after (opening s) (map edit_of front)) (none_earlier 0 0 (omega arith) (in_order s.edits) (none_before_all (in_order s.edits))))
before_is s (suc t) =
    ap (λ p. fold after p (edits_at s.edits t)) (before_is s t) ∙ sym (frame_made s t)

up_to : (t : ℕ) (es : List NumberedEdit) → filter (λ (e : NumberedEdit). nat_le e.row.at t) es ≡ earlier (suc t) es
up_to t [] = refl
up_to t (x ∷ es) =
    ap (λ (rest : List NumberedEdit). cond (nat_le x.row.at t) (x ∷ rest) rest) (up_to t es)
    ∙ ap (λ b. cond b (x ∷ earlier (suc t) es) (earlier (suc t) es)) (sym (leb-suc-suc x.row.at t))

pub plan_of_all_edits : (s : SceneData) (t : ℕ) → plan s t ≡ fold after (opening s) (map edit_of (filter (λ (e : NumberedEdit). nat_le e.row.at t) (in_order s.edits)))
plan_of_all_edits s t =
    ap (λ p. fold after p (edits_at s.edits t)) (before_is s t) ∙ sym (frame_made s t)
    ∙ sym (ap (λ (front : List NumberedEdit). fold after (opening s) (map edit_of front)) (up_to t (in_order s.edits)))
