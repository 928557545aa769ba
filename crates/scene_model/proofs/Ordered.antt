-- The edits in the order of their frames: where one is put, and that the order is that of the frames.
use Rattle.std.proofs.Common.{◌≡◌, ℕ, zero, suc, ◌+◌, ◌<◌, ◌≤◌, Bool, true, false, cond, List, [], ◌∷◌, ◌++◌, length, map, get_or, nat_lt, refl, sym, ◌∙◌, ap, arith, append-nil, append_assoc}
use Rattle.std.specs.Prelude.{filter, fold, ◌==◌, ◌&&◌, if◌then◌else◌}
use Rattle.std.specs.List.{list_all}
use Rattle.std.specs.List.Sorted.{IsNonDecreasingBy}
use Rattle.std.proofs.lemmas.Bool.{and_from, and_parts, eqb-true, lt-ltb, ltb-true, ltb-false}
use Rattle.std.proofs.lemmas.List.Elements.{filter-append}
use Rattle.std.proofs.lemmas.List.{length-map}
use Rattle.std.proofs.lemmas.List.Folds.{list_all-map}
use Rattle.scene_model.specs.declared.edit.Edit.{Edit}
use Rattle.scene_model.specs.declared.edit.EditRow.{EditRow}
use Rattle.scene_model.specs.declared.order.NumberedEdit.{NumberedEdit}
use Rattle.scene_model.specs.Order.{numbered, put, in_order}
use Rattle.scene_model.specs.Times.{edits_at}

abbrev later : ℕ → NumberedEdit → Bool
later at e = nat_lt at e.row.at

-- no edit of these is before that frame
abbrev pub NoneBefore : ℕ → List NumberedEdit → Type 0
NoneBefore at [] = Unit {0}
NoneBefore at (x ∷ placed) = (at ≤ x.row.at) × NoneBefore at placed

-- no edit is before one that stands before it
abbrev pub Ascend : List NumberedEdit → Type 0
Ascend [] = Unit {0}
Ascend (x ∷ placed) = NoneBefore x.row.at placed × Ascend placed

none_earlier : (m n : ℕ) → m ≤ n → (placed : List NumberedEdit) → NoneBefore n placed → NoneBefore m placed
none_earlier m n least [] none = tt
none_earlier m n least (x ∷ placed) none = (let h = none.0 in omega arith, none_earlier m n least placed none.1)

none_put : (at : ℕ) (placed : List NumberedEdit) (e : NumberedEdit) → at ≤ e.row.at → NoneBefore at placed → NoneBefore at (put placed e)
none_put at [] e least none = (least, tt)
none_put at (x ∷ placed) e least none = by_test (none_put at placed e least none.1) (later e.row.at x)
  where
    by_test : NoneBefore at (put placed e) → (t : Bool) → NoneBefore at (if t then e ∷ x ∷ placed else x ∷ put placed e)
    by_test ih true = (least, none)
    by_test ih false = (none.0, ih)

ascend_put : (placed : List NumberedEdit) (e : NumberedEdit) → Ascend placed → Ascend (put placed e)
ascend_put [] e up = (tt, tt)
ascend_put (x ∷ placed) e up = by_test (ascend_put placed e up.1) (later e.row.at x) refl
  where
    by_test : Ascend (put placed e) → (t : Bool) → later e.row.at x ≡ t → Ascend (if t then e ∷ x ∷ placed else x ∷ put placed e)
    by_test ih true is =
        let least : e.row.at ≤ x.row.at = omega (arith, ltb-true e.row.at x.row.at is) in
        ((least, none_earlier e.row.at x.row.at least placed up.0), up)
    by_test ih false is = (none_put x.row.at placed e (ltb-false e.row.at x.row.at is) up.0, ih)

ascend_all : (placed es : List NumberedEdit) → Ascend placed → Ascend (fold put placed es)
ascend_all placed [] up = up
ascend_all placed (e ∷ es) up = ascend_all (put placed e) es (ascend_put placed e up)

none_at : (at : ℕ) (placed : List NumberedEdit) → NoneBefore at placed → (j : ℕ) (d : NumberedEdit) → j < length placed → at ≤ (get_or placed j d).row.at
none_at at [] none j d within = absurd (omega arith)
none_at at (x ∷ placed) none zero d within = none.0
none_at at (x ∷ placed) none (suc j) d within = none_at at placed none.1 j d (omega arith)

ascend_at : (placed : List NumberedEdit) → Ascend placed → IsNonDecreasingBy (λ (e : NumberedEdit). e.row.at) placed
ascend_at [] up i j d order within = absurd (omega arith)
ascend_at (x ∷ placed) up zero zero d order within = omega arith
ascend_at (x ∷ placed) up zero (suc j) d order within = none_at x.row.at placed up.0 j d (omega arith)
ascend_at (x ∷ placed) up (suc i) zero d order within = absurd (omega arith)
ascend_at (x ∷ placed) up (suc i) (suc j) d order within = ascend_at placed up.1 i j d (omega arith) (omega arith)

pub order_ascend : (rows : List EditRow) → Ascend (in_order rows)
order_ascend rows = ascend_all [] (numbered 0 rows) tt

pub order_ascends : (rows : List EditRow) → IsNonDecreasingBy (λ (e : NumberedEdit). e.row.at) (in_order rows)
order_ascends rows = ascend_at (in_order rows) (order_ascend rows)

-- the edits of a frame
abbrev pub of_frame : ℕ → List NumberedEdit → List NumberedEdit
of_frame t es = filter (λ (e : NumberedEdit). e.row.at == t) es

none_of_frame : (t at : ℕ) (placed : List NumberedEdit) → t < at → NoneBefore at placed → of_frame t placed ≡ []
none_of_frame t at [] past none = refl
none_of_frame t at (x ∷ placed) past none = by_test (none_of_frame t at placed past none.1) (x.row.at == t) refl
  where
    by_test : of_frame t placed ≡ [] → (b : Bool) → (x.row.at == t) ≡ b → cond b (x ∷ of_frame t placed) (of_frame t placed) ≡ []
    by_test ih true is = let least = none.0 in absurd (omega (arith, eqb-true x.row.at t is))
    by_test ih false is = ih

-- the edit stands behind those of its frame
frame_put : (t : ℕ) (placed : List NumberedEdit) (e : NumberedEdit) → Ascend placed → of_frame t (put placed e) ≡ of_frame t placed ++ of_frame t (e ∷ [])
frame_put t [] e up = refl
frame_put t (x ∷ placed) e up = by_test (frame_put t placed e up.1) (later e.row.at x) refl
  where
    before : (b : Bool) → (e.row.at == t) ≡ b → e.row.at < x.row.at → cond b (e ∷ of_frame t (x ∷ placed)) (of_frame t (x ∷ placed)) ≡ of_frame t (x ∷ placed) ++ cond b (e ∷ []) []
    before true is past =
        let none = none_of_frame t x.row.at (x ∷ placed) (omega (arith, eqb-true e.row.at t is)) (omega arith, up.0) in
        ap (λ (es : List NumberedEdit). e ∷ es) none ∙ sym (ap (λ (es : List NumberedEdit). es ++ e ∷ []) none)
    before false is past = sym (append-nil (of_frame t (x ∷ placed)))

    behind : of_frame t (put placed e) ≡ of_frame t placed ++ of_frame t (e ∷ []) → (b : Bool) → cond b (x ∷ of_frame t (put placed e)) (of_frame t (put placed e)) ≡ cond b (x ∷ of_frame t placed) (of_frame t placed) ++ of_frame t (e ∷ [])
    behind ih true = ap (λ (es : List NumberedEdit). x ∷ es) ih
    behind ih false = ih

    by_test : of_frame t (put placed e) ≡ of_frame t placed ++ of_frame t (e ∷ []) → (b : Bool) → later e.row.at x ≡ b → of_frame t (if b then e ∷ x ∷ placed else x ∷ put placed e) ≡ of_frame t (x ∷ placed) ++ of_frame t (e ∷ [])
    by_test ih true is = before (e.row.at == t) refl (ltb-true e.row.at x.row.at is)
    by_test ih false is = behind ih (x.row.at == t)

frame_all : (t : ℕ) (placed es : List NumberedEdit) → Ascend placed → of_frame t (fold put placed es) ≡ of_frame t placed ++ of_frame t es
frame_all t placed [] up = sym (append-nil (of_frame t placed))
frame_all t placed (e ∷ es) up =
    frame_all t (put placed e) es (ascend_put placed e up)
    ∙ ap (λ xs. xs ++ of_frame t es) (frame_put t placed e up)
    ∙ append_assoc (of_frame t placed) (of_frame t (e ∷ [])) (of_frame t es)
    ∙ ap (λ xs. of_frame t placed ++ xs) (sym (filter-append (λ (x : NumberedEdit). x.row.at == t) (e ∷ []) es))

pub order_keeps_frames : (rows : List EditRow) (t : ℕ) → of_frame t (in_order rows) ≡ of_frame t (numbered 0 rows)
order_keeps_frames rows t = frame_all t [] (numbered 0 rows) tt

abbrev rows_of : List NumberedEdit → List EditRow
rows_of es = map (λ (e : NumberedEdit). e.row) es

rows_of_numbered : (n : ℕ) (rows : List EditRow) → rows_of (numbered n rows) ≡ rows
rows_of_numbered n [] = refl
rows_of_numbered n (r ∷ rows) = ap (λ (rs : List EditRow). r ∷ rs) (rows_of_numbered (suc n) rows)

rows_of_frame : (t : ℕ) (es : List NumberedEdit) → filter (λ (r : EditRow). r.at == t) (rows_of es) ≡ rows_of (of_frame t es)
rows_of_frame t [] = refl
rows_of_frame t (e ∷ es) = by_test (rows_of_frame t es) (e.row.at == t)
  where
    by_test : filter (λ (r : EditRow). r.at == t) (rows_of es) ≡ rows_of (of_frame t es) → (b : Bool) → cond b (e.row ∷ filter (λ (r : EditRow). r.at == t) (rows_of es)) (filter (λ (r : EditRow). r.at == t) (rows_of es)) ≡ rows_of (cond b (e ∷ of_frame t es) (of_frame t es))
    by_test ih true = ap (λ (rs : List EditRow). e.row ∷ rs) ih
    by_test ih false = ih

pub order_keeps_edits : (rows : List EditRow) (t : ℕ) → edits_at (rows_of (in_order rows)) t ≡ edits_at rows t
order_keeps_edits rows t =
    ap (map (λ (r : EditRow). r.edit))
    (rows_of_frame t (in_order rows) ∙ ap rows_of (order_keeps_frames rows t) ∙ sym (rows_of_frame t (numbered 0 rows))
    ∙ ap (filter (λ (r : EditRow). r.at == t)) (rows_of_numbered 0 rows))

edits_of_rows : (es : List NumberedEdit) → map (λ (e : NumberedEdit). e.row.edit) es ≡ map (λ (r : EditRow). r.edit) (rows_of es)
edits_of_rows [] = refl
edits_of_rows (e ∷ es) = ap (λ (rest : List Edit). e.row.edit ∷ rest) (edits_of_rows es)

pub edits_of_frame : (rows : List EditRow) (t : ℕ) → map (λ (e : NumberedEdit). e.row.edit) (of_frame t (in_order rows)) ≡ edits_at rows t
edits_of_frame rows t =
    edits_of_rows (of_frame t (in_order rows))
    ∙ ap (map (λ (r : EditRow). r.edit)) (sym (rows_of_frame t (in_order rows))) ∙ order_keeps_edits rows t

-- what holds of each edit of the script holds of each in order
all_put : (p : NumberedEdit → Bool) (placed : List NumberedEdit) (e : NumberedEdit) → list_all p (put placed e) ≡ (p e && list_all p placed)
all_put p [] e = refl
all_put p (x ∷ placed) e = by_test (all_put p placed e) (later e.row.at x)
  where
    swapped : (a b c : Bool) → (a && (b && c)) ≡ (b && (a && c))
    swapped true b c = refl
    swapped false true c = refl
    swapped false false c = refl

    by_test : list_all p (put placed e) ≡ (p e && list_all p placed) → (b : Bool) → list_all p (if b then e ∷ x ∷ placed else x ∷ put placed e) ≡ (p e && (p x && list_all p placed))
    by_test ih true = refl
    by_test ih false = ap (λ b. p x && b) ih ∙ swapped (p x) (p e) (list_all p placed)

all_in_order : (p : NumberedEdit → Bool) (placed es : List NumberedEdit) → list_all p placed ≡ true → list_all p es ≡ true → list_all p (fold put placed es) ≡ true
all_in_order p placed [] before after = before
all_in_order p placed (e ∷ es) before after =
    let (here, rest) = and_parts (p e) (list_all p es) after in
    all_in_order p (put placed e) es (all_put p placed e ∙ and_from (p e) (list_all p placed) here before) rest

pub order_keeps_all : (rows : List EditRow) (p : EditRow → Bool) → list_all p rows ≡ true → list_all p (rows_of (in_order rows)) ≡ true
order_keeps_all rows p all =
    list_all-map p (λ (e : NumberedEdit). e.row) (in_order rows)
    ∙ all_in_order (λ e. p e.row) [] (numbered 0 rows) refl (sym (list_all-map p (λ (e : NumberedEdit). e.row) (numbered 0 rows)) ∙ ap (list_all p) (rows_of_numbered 0 rows) ∙ all)

-- the numbers are those of rows
numbers_below : (n most : ℕ) (rows : List EditRow) → n + length rows ≤ most → list_all (λ (e : NumberedEdit). nat_lt e.number most) (numbered n rows) ≡ true
numbers_below n most [] few = refl
numbers_below n most (r ∷ rows) few =
    and_from (nat_lt n most) _ (lt-ltb n most (omega arith)) (numbers_below (suc n) most rows (omega arith))

pub order_numbers_rows : (rows : List EditRow) → list_all (λ (e : NumberedEdit). nat_lt e.number (length rows)) (in_order rows) ≡ true
order_numbers_rows rows = all_in_order _ [] (numbered 0 rows) refl (numbers_below 0 (length rows) rows (omega arith))

-- and there are as many of them
length_put : (placed : List NumberedEdit) (e : NumberedEdit) → length (put placed e) ≡ suc (length placed)
length_put [] e = refl
length_put (x ∷ placed) e = by_test (length_put placed e) (later e.row.at x)
  where
    by_test : length (put placed e) ≡ suc (length placed) → (b : Bool) → length (if b then e ∷ x ∷ placed else x ∷ put placed e) ≡ suc (suc (length placed))
    by_test ih true = refl
    by_test ih false = ap suc ih

length_all : (placed es : List NumberedEdit) → length (fold put placed es) ≡ length placed + length es
length_all placed [] = omega arith
length_all placed (e ∷ es) = omega (arith, length_all (put placed e) es, length_put placed e)

pub order_keeps_length : (rows : List EditRow) → length (in_order rows) ≡ length rows
order_keeps_length rows = omega (arith, length_all [] (numbered 0 rows), length-map (numbered 0 rows) (λ (e : NumberedEdit). e.row), ap length (rows_of_numbered 0 rows))
