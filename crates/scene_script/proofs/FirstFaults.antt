-- The rows have a fault exactly where one of them has it and none before it has one.
use Rattle.std.proofs.Common.{◌≡◌, List, [], ◌∷◌, ◌++◌, map, Result, Ok, Err, refl, sym, ◌∙◌, ap}
use Rattle.std.specs.Prelude.{fold}
use Rattle.scene_model.specs.PlanData.{PlanData}
use Rattle.scene_model.specs.Plans.{after}
use Rattle.scene_script.specs.declared.fault.SceneFault.{SceneFault}
use Rattle.scene_script.specs.declared.placed_edit.PlacedEdit.{PlacedEdit}
use Rattle.scene_script.specs.Checked.{◌>>=◌, each}
use Rattle.scene_script.specs.FirstFault.{HasFirst, RefusesFirst}
use Rattle.scene_script.specs.Wiring.{done, all_done}

bind_later : {A B C : Type 0} (r : Result A SceneFault) (f : A → Result B SceneFault) (g : B → Result C SceneFault) → ((r >>= f) >>= g) ≡ (r >>= λ x. f x >>= g)
bind_later (Ok x) f g = refl
bind_later (Err e) f g = refl

bind_same : {A B : Type 0} (r : Result A SceneFault) (f g : A → Result B SceneFault) → ((x : A) → f x ≡ g x) → (r >>= f) ≡ (r >>= g)
bind_same (Ok x) f g same = same x
bind_same (Err e) f g same = refl

pub each_append : {A B : Type 0} (one : List B → A → Result B SceneFault) (start : List B) (xs ys : List A) → each one start (xs ++ ys) ≡ (each one start xs >>= λ read. each one read ys)
each_append one start [] ys = refl
each_append one start (x ∷ xs) ys =
    bind_same (one start x) _ _ (λ y. each_append one (start ++ y ∷ []) xs ys)
    ∙ sym (bind_later (one start x) (λ y. each one (start ++ y ∷ []) xs) (λ read. each one read ys))

pub has_first : {A B : Type 0} (one : List B → A → Result B SceneFault) (start : List B) (rows : List A) (f : SceneFault) → each one start rows ≡ Err f → HasFirst one start rows f
has_first one start [] f e = absurd (cc)
has_first {A} {B} one start (x ∷ rows) f e = by_row (λ y. has_first one (start ++ y ∷ []) rows f) (one start x) refl e
  where
    by_row : ((y : B) → each one (start ++ y ∷ []) rows ≡ Err f → HasFirst one (start ++ y ∷ []) rows f) → (r : Result B SceneFault) → one start x ≡ r → (r >>= λ y. each one (start ++ y ∷ []) rows) ≡ Err f → HasFirst one start (x ∷ rows) f
    by_row later (Err g) is e = record { before = []; row = x; behind = rows; rows_are = refl; read = start; before_is = refl; row_is = is ∙ fault e }
      where
        fault : ◌≡◌ {A = Result (List B) SceneFault} (Err g) (Err f) → ◌≡◌ {A = Result B SceneFault} (Err g) (Err f)
        fault same = cc
    by_row later (Ok y) is e =
        let s = later y e in
        record { before = x ∷ s.before; row = s.row; behind = s.behind; rows_are = ap (λ (xs : List A). x ∷ xs) s.rows_are; read = s.read; before_is = ap (λ r. r >>= λ y. each one (start ++ y ∷ []) s.before) is ∙ s.before_is; row_is = s.row_is }

pub first_is : {A B : Type 0} (one : List B → A → Result B SceneFault) (start : List B) (rows : List A) (f : SceneFault) → HasFirst one start rows f → each one start rows ≡ Err f
first_is one start rows f s =
    ap (each one start) s.rows_are
    ∙ each_append one start s.before (s.row ∷ s.behind)
    ∙ ap (λ r. r >>= λ read. each one read (s.row ∷ s.behind)) s.before_is
    ∙ ap (λ r. r >>= λ y. each one (s.read ++ y ∷ []) s.behind) s.row_is

-- the plan after edits of rows
abbrev after_all : PlanData → List PlacedEdit → PlanData
after_all plan edits = fold after plan (map (λ (e : PlacedEdit). e.edit) edits)

done_append : (plan : PlanData) (xs ys : List PlacedEdit) → all_done plan (xs ++ ys) ≡ (all_done plan xs >>= λ _. all_done (after_all plan xs) ys)
done_append plan [] ys = refl
done_append plan (x ∷ xs) ys =
    bind_same (done plan x) _ _ (λ _. done_append (after plan x.edit) xs ys)
    ∙ sym (bind_later (done plan x) (λ _. all_done (after plan x.edit) xs) (λ _. all_done (after_all plan (x ∷ xs)) ys))

pub refuses_first : (plan : PlanData) (edits : List PlacedEdit) (f : SceneFault) → all_done plan edits ≡ Err f → RefusesFirst plan edits f
refuses_first plan [] f e = absurd (cc)
refuses_first plan (x ∷ edits) f e = by_edit (refuses_first (after plan x.edit) edits f) (done plan x) refl e
  where
    by_edit : (all_done (after plan x.edit) edits ≡ Err f → RefusesFirst (after plan x.edit) edits f) → (r : Result (Unit {0}) SceneFault) → done plan x ≡ r → (r >>= λ _. all_done (after plan x.edit) edits) ≡ Err f → RefusesFirst plan (x ∷ edits) f
    by_edit later (Err g) is e = record { before = []; edit = x; behind = edits; edits_are = refl; before_is = refl; edit_is = is ∙ e }
    by_edit later (Ok y) is e =
        let s = later e in
        record { before = x ∷ s.before; edit = s.edit; behind = s.behind; edits_are = ap (λ (xs : List PlacedEdit). x ∷ xs) s.edits_are; before_is = ap (λ r. r >>= λ _. all_done (after plan x.edit) s.before) is ∙ s.before_is; edit_is = s.edit_is }

pub refused_is : (plan : PlanData) (edits : List PlacedEdit) (f : SceneFault) → RefusesFirst plan edits f → all_done plan edits ≡ Err f
refused_is plan edits f s =
    ap (all_done plan) s.edits_are
    ∙ done_append plan s.before (s.edit ∷ s.behind)
    ∙ ap (λ r. r >>= λ _. all_done (after_all plan s.before) (s.edit ∷ s.behind)) s.before_is
    ∙ ap (λ r. r >>= λ _. all_done (after (after_all plan s.before) s.edit.edit) s.behind) s.edit_is
