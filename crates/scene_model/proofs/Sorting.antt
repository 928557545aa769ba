-- A stable sort by frames puts edits in order: lists that ascend and have the same edits of each frame are the same.
use Rattle.std.proofs.Common.{◌≡◌, ℕ, suc, ◌<◌, ◌≤◌, Bool, true, false, cond, List, [], ◌∷◌, length, get_or, nat_cmp, is_lt, refl, sym, ◌∙◌, ap, arith}
use Rattle.std.specs.Prelude.{filter, ◌==◌}
use Rattle.std.specs.List.Sorted.{ties, IsNonDecreasingBy, IsStableByKey}
use Rattle.std.proofs.lemmas.Bool.{eq-eqb, eqb-true, eqb-false}
use Rattle.std.proofs.lemmas.Bool.Decides.{nat_tests}
use Rattle.scene_model.specs.declared.edit.Edit.TheVariants.{Start}
use Rattle.scene_model.specs.declared.edit.EditRow.{EditRow}
use Rattle.scene_model.specs.declared.order.NumberedEdit.{NumberedEdit}
use Rattle.scene_model.specs.Order.{numbered, in_order}
use Rattle.scene_model.proofs.Ordered.{NoneBefore, Ascend, order_ascend, of_frame, order_keeps_frames}

-- an edit of that frame
abbrev edit_at : ℕ → NumberedEdit
edit_at t = record { number = 0; row = record { at = t; editor = 0; edit = Start 0 } }

none_from : (at : ℕ) (es : List NumberedEdit) → ((j : ℕ) → j < length es → at ≤ (get_or es j (edit_at 0)).row.at) → NoneBefore at es
none_from at [] least = tt
none_from at (x ∷ es) least = (least 0 (omega arith), none_from at es (λ j within. least (suc j) (omega arith)))

ascend_from : (es : List NumberedEdit) → IsNonDecreasingBy (λ (e : NumberedEdit). e.row.at) es → Ascend es
ascend_from [] up = tt
ascend_from (x ∷ es) up = (
  none_from x.row.at es (λ j within. up 0 (suc j) (edit_at 0) (omega arith) (omega arith)),
  ascend_from es (λ i j d order within. up (suc i) (suc j) d (omega arith) (omega arith)),
)

kept : (t : ℕ) (x : NumberedEdit) (es : List NumberedEdit) → x.row.at ≡ t → of_frame t (x ∷ es) ≡ x ∷ of_frame t es
kept t x es is = ap (λ b. cond b (x ∷ of_frame t es) (of_frame t es)) (eq-eqb x.row.at t is)

dropped : (t : ℕ) (x : NumberedEdit) (es : List NumberedEdit) → (x.row.at == t) ≡ false → of_frame t (x ∷ es) ≡ of_frame t es
dropped t x es other = ap (λ b. cond b (x ∷ of_frame t es) (of_frame t es)) other

-- where there is an edit of a frame, no edit before that frame is the least
found : (at t : ℕ) (es : List NumberedEdit) (w : NumberedEdit) (ws : List NumberedEdit) → NoneBefore at es → of_frame t es ≡ w ∷ ws → at ≤ t
found at t [] w ws none is = cc
found at t (x ∷ es) w ws none is =
    by_test (λ e. found at t es w ws none.1 (sym (dropped t x es e) ∙ is)) (x.row.at == t) refl
  where
    by_test : ((x.row.at == t) ≡ false → at ≤ t) → (b : Bool) → (x.row.at == t) ≡ b → at ≤ t
    by_test rest true e = let first = none.0 in omega (arith, eqb-true x.row.at t e)
    by_test rest false e = rest e

same_from_frames : (xs ys : List NumberedEdit) → Ascend xs → Ascend ys → ((t : ℕ) → of_frame t xs ≡ of_frame t ys) → xs ≡ ys
same_from_frames [] [] left right same = refl
same_from_frames [] (y ∷ ys) left right same =
    let clash = same y.row.at ∙ kept y.row.at y ys refl in cc
same_from_frames (x ∷ xs) [] left right same =
    let clash = sym (same x.row.at) ∙ kept x.row.at x xs refl in cc
same_from_frames (x ∷ xs) (y ∷ ys) left right same =
    let at_x = kept x.row.at x xs refl in
    let at_y = kept y.row.at y ys refl in
    let up = found y.row.at x.row.at (y ∷ ys) x _ (omega arith, right.0) (sym (same x.row.at) ∙ at_x) in
    let down = found x.row.at y.row.at (x ∷ xs) y _ (omega arith, left.0) (same y.row.at ∙ at_y) in
    let heads = sym at_x ∙ same x.row.at ∙ kept x.row.at y ys (omega arith) in
    let head : x ≡ y = cc in
    ap (λ e. e ∷ xs) head ∙ ap (λ es. y ∷ es) (same_from_frames xs ys left.1 right.1 (rest head))
  where
    rest : x ≡ y → (t : ℕ) → of_frame t xs ≡ of_frame t ys
    rest head t = by_test (x.row.at == t) refl
      where
        frame_is : x.row.at ≡ y.row.at
        frame_is = ap (λ (e : NumberedEdit). e.row.at) head

        by_test : (b : Bool) → (x.row.at == t) ≡ b → of_frame t xs ≡ of_frame t ys
        by_test true e =
            let both = sym (kept t x xs (eqb-true x.row.at t e)) ∙ same t ∙ kept t y ys (sym frame_is ∙ eqb-true x.row.at t e) in cc
        by_test false e =
            sym (dropped t x xs e) ∙ same t ∙ dropped t y ys (ap (λ k. k == t) (sym frame_is) ∙ e)

-- the edits that tie with one of a frame are those of the frame
tie_is : (m n : ℕ) → ties (λ a b. is_lt (nat_cmp a b)) m n ≡ (n == m)
tie_is m n = by_test (n == m) refl
  where
    by_test : (b : Bool) → (n == m) ≡ b → ties (λ a b. is_lt (nat_cmp a b)) m n ≡ b
    by_test true e = let same = eqb-true n m e in grind (arith, nat_tests)
    by_test false e = let other = eqb-false n m e in grind (arith, nat_tests)

tied : (t : ℕ) (es : List NumberedEdit) → filter (ties (λ (x y : NumberedEdit). is_lt (nat_cmp x.row.at y.row.at)) (edit_at t)) es ≡ of_frame t es
tied t [] = refl
tied t (e ∷ es) =
    ap (λ rest. cond (ties (λ (x y : NumberedEdit). is_lt (nat_cmp x.row.at y.row.at)) (edit_at t) e) (e ∷ rest) rest) (tied t es)
    ∙ ap (λ b. cond b (e ∷ of_frame t es) (of_frame t es)) (tie_is t e.row.at)

pub sorted_in_order : (rows : List EditRow) (placed sorted : List NumberedEdit) → placed ≡ numbered 0 rows → IsNonDecreasingBy (λ (e : NumberedEdit). e.row.at) sorted → IsStableByKey (λ (e : NumberedEdit). e.row.at) nat_cmp placed sorted → sorted ≡ in_order rows
sorted_in_order rows placed sorted same up stable =
    same_from_frames sorted (in_order rows) (ascend_from sorted up) (order_ascend rows)
    (λ t. sym (tied t sorted) ∙ stable (edit_at t) ∙ tied t placed ∙ ap (of_frame t) same ∙ sym (order_keeps_frames rows t))
