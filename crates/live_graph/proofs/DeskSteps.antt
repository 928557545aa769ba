-- The desk of a run after an edit.
use Rattle.std.proofs.Common.{◌≡◌, ℕ, zero, suc, ◌+◌, ◌<◌, ◌≤◌, ◌^◌, ◌⊎◌, inl, inr, Bool, true, false, List, [], ◌∷◌, ◌++◌, length, map, get_or, set, take, Option, Some, None, refl, sym, ◌∙◌, ap, subst, arith, length-append}
use Rattle.std.specs.Prelude.{◌==◌, if◌then◌else◌, filter, nat_eq, slice_get, slice_index}
use Rattle.std.specs.List.{flat_map}
use Rattle.std.specs.Option.{option_map, option_map_or}
use Rattle.std.proofs.lemmas.Bool.{cases_eq, cases_lt, eqb-true, ne_eqb}
use Rattle.std.proofs.lemmas.Grind.{get_or_default_zero}
use Rattle.std.proofs.lemmas.List.{get_or-set_other, get_or-set_same, length-map, length-set, map-append, set_past, take-append-le, take_all}
use Rattle.std.proofs.lemmas.Option.{none-some, same_Some, slice_get-get_or, slice_get_within}
use Rattle.atomic_table.specs.Table.{Me}
use Rattle.atomic_table.specs.declared.shared.Seat.{Seat}
use Rattle.bus_list.specs.declared.history.Entry.{Entry as ListEntry}
use Rattle.bus_list.specs.declared.history.Entry.TheVariants.{On, Off}
use Rattle.node_graph.specs.declared.feed.Feed.{Feed}
use Rattle.node_graph.specs.declared.list_changes.ListChange.{ListChange}
use Rattle.node_graph.specs.declared.list_changes.ListChange.TheVariants.{Attached, Detached, Unchanged}
use Rattle.node_graph.specs.ListChanges.{list_change}
use Rattle.node_graph.specs.ListData.{ListData}
use Rattle.scene_model.specs.declared.edit.Edit.{Edit}
use Rattle.scene_model.specs.declared.edit.EditRow.{EditRow}
use Rattle.scene_model.specs.declared.reply.Reply.{Reply}
use Rattle.scene_model.specs.Opening.{opening}
use Rattle.scene_model.specs.PlanData.{PlanData}
use Rattle.scene_model.specs.Plans.{after, is_done, reply}
use Rattle.scene_model.specs.IsPlan.{IsPlan, can_apply, names_nodes}
use Rattle.scene_model.specs.IsScene.{is_edit}
use Rattle.scene_model.specs.SceneData.{SceneData}
use Rattle.mix_model.specs.Histories.{edit_done, sets_word}
use Rattle.mix_model.specs.Journals.{EntryData, IsLegalJournal, IsNextEntry, edit_of, edits_by, plan_after}
use Rattle.live_board.specs.declared.board.Board.{Board}
use Rattle.live_board.specs.declared.view.Entry.{Entry}
use Rattle.live_board.specs.declared.view.View.{View}
use Rattle.live_board.specs.Rule.{entry_data, replies_of}
use Rattle.live_board.specs.Steps.{booked_as, entry, heard_as}
use Rattle.live_board.proofs.Hands.{by_other, by_same}
use Rattle.node_graph.proofs.BoardWords.{length-board}
use Rattle.live_graph.specs.BoardHistories.{IsBoardHistory}
use Rattle.live_graph.specs.Dials.{dial_set, most_words}
use Rattle.live_graph.specs.InputEditors.{EditorData, editors_changed, entered, entered_at, list_of, lists_of}
use Rattle.live_graph.specs.Parts.{IsDesk, IsRunBoard, sum_of_four}
use Rattle.live_graph.specs.Runs.{RunData}
use Rattle.live_graph.specs.Stages.{HadFewer, IsBoardOf, IsEdited, IsStage}
use Rattle.live_graph.specs.declared.stage.LiveStage.{LiveStage}
use Rattle.live_graph.proofs.BoardSteps.{history_more, plan_more}
use Rattle.live_graph.proofs.EditedLists.{list_at}
use Rattle.live_graph.proofs.RunPlans.{buses_stay, can_be_made, edit_of_rows, has_dial, nodes_stay}

-- ---- how many edits are left

abbrev by_editor : ℕ → List EditRow → List Edit
by_editor e rows = map (λ (r : EditRow). r.edit) (filter (λ (r : EditRow). r.editor == e) rows)

one_row : (e : ℕ) (r : EditRow) (rows : List EditRow) → length (by_editor e (r ∷ rows)) ≡ (if r.editor == e then 1 else 0) + length (by_editor e rows)
one_row e r rows = by_test (r.editor == e)
  where
    by_test : (b : Bool) → length (map (λ (q : EditRow). q.edit) (if b then r ∷ filter (λ (q : EditRow). q.editor == e) rows else filter (λ (q : EditRow). q.editor == e) rows)) ≡ (if b then 1 else 0) + length (by_editor e rows)
    by_test true = omega arith
    by_test false = omega arith

one_of : (n : ℕ) → (if n == 0 then 1 else 0) + (if n == 1 then 1 else 0) + (if n == 2 then 1 else 0) + (if n == 3 then 1 else 0) ≤ 1
one_of zero = omega arith
one_of (suc zero) = omega arith
one_of (suc (suc zero)) = omega arith
one_of (suc (suc (suc zero))) = omega arith
one_of (suc (suc (suc (suc n)))) =
    let a = none n 0 (omega arith) in let b = none n 1 (omega arith) in let c = none n 2 (omega arith) in let d = none n 3 (omega arith) in omega arith
  where
    none : (n k : ℕ) → k < 4 → ◌≡◌ {A = ℕ} (if suc (suc (suc (suc n))) == k then 1 else 0) 0
    none n k lt = ap (λ (b : Bool). if◌then◌else◌ {A = ℕ} b 1 0) (ne_eqb (suc (suc (suc (suc n)))) k (λ q. absurd (omega arith)))

edits_sum : (rows : List EditRow) → length (by_editor 0 rows) + length (by_editor 1 rows) + length (by_editor 2 rows) + length (by_editor 3 rows) ≤ length rows
edits_sum [] = omega arith
edits_sum (r ∷ rows) =
    let h = edits_sum rows in let o = one_of r.editor in let a = one_row 0 r rows in let b = one_row 1 r rows in let c = one_row 2 r rows in let d = one_row 3 r rows in omega arith

sum_set : (made : List ℕ) (e k : ℕ) → length made ≡ 4 → e < 4 → get_or made e 0 ≡ k → sum_of_four (set made e (k + 1)) ≡ suc (sum_of_four made)
sum_set [] e k l b is = absurd (omega arith)
sum_set (x ∷ []) e k l b is = absurd (omega arith)
sum_set (x ∷ y ∷ []) e k l b is = absurd (omega arith)
sum_set (x ∷ y ∷ z ∷ []) e k l b is = absurd (omega arith)
sum_set (x ∷ y ∷ z ∷ u ∷ v ∷ vs) e k l b is = absurd (omega arith)
sum_set (x ∷ y ∷ z ∷ u ∷ []) zero k l b is = omega arith
sum_set (x ∷ y ∷ z ∷ u ∷ []) (suc zero) k l b is = omega arith
sum_set (x ∷ y ∷ z ∷ u ∷ []) (suc (suc zero)) k l b is = omega arith
sum_set (x ∷ y ∷ z ∷ u ∷ []) (suc (suc (suc zero))) k l b is = omega arith
sum_set (x ∷ y ∷ z ∷ u ∷ []) (suc (suc (suc (suc e)))) k l b is = absurd (omega arith)

four : (P : ℕ → Type 0) → P 0 → P 1 → P 2 → P 3 → (e : ℕ) → e < 4 → P e
four P a b c d zero lt = a
four P a b c d (suc zero) lt = b
four P a b c d (suc (suc zero)) lt = c
four P a b c d (suc (suc (suc zero))) lt = d
four P a b c d (suc (suc (suc (suc e)))) lt = absurd (omega arith)

-- while an editor has edits left, the journal is shorter than the rows
pub has_room : (r : RunData) (w : LiveStage) (made : List ℕ) (j : List Entry) (e : ℕ) → IsDesk r w made j → e < 4 → slice_index made e < length (edits_by r.scene e) → length j < length r.scene.edits
has_room r w made j e d lt less =
    let all = edits_sum r.scene.edits in
    let a = d.made_most 0 (omega arith) in let b = d.made_most 1 (omega arith) in let c = d.made_most 2 (omega arith) in let f = d.made_most 3 (omega arith) in
    let sum = d.sum_is in
    four (λ (x : ℕ). slice_index made x < length (edits_by r.scene x) → length j < length r.scene.edits) (λ h. omega arith) (λ h. omega arith) (λ h. omega arith) (λ h. omega arith) e lt less

-- the journal is never longer than the rows
pub few_entries : (r : RunData) (w : LiveStage) (made : List ℕ) (j : List Entry) → IsDesk r w made j → length j ≤ length r.scene.edits
few_entries r w made j d =
    let all = edits_sum r.scene.edits in
    let a = d.made_most 0 (omega arith) in let b = d.made_most 1 (omega arith) in let c = d.made_most 2 (omega arith) in let f = d.made_most 3 (omega arith) in
    let sum = d.sum_is in
    omega arith

-- ---- the board is the stage's

pub is_board : (r : RunData) (w : LiveStage) (made : List ℕ) (j : List Entry) (b : Board) → IsDesk r w made j → IsRunBoard r b → IsBoardOf b w
is_board r w made j b d of_run =
    let es = map entry_data j in
    let long = length-board (opening r.scene) in
    let nodes : length w.plan.nodes ≡ length (opening r.scene).nodes = ap (λ (p : PlanData). length p.nodes) d.plan_is ∙ nodes_stay r.scene es in
    let buses : length w.plan.buses ≡ length (opening r.scene).buses = ap (λ (p : PlanData). length p.buses) d.plan_is ∙ buses_stay r.scene es in
    record {
      table_is = d.table_is ∙ sym of_run.table_is;
      dials_are = ap length of_run.dials_are ∙ omega arith;
      most_is = of_run.most_is ∙ sym (ap (λ (n : ℕ). most_words n (length w.plan.buses)) nodes ∙ ap (most_words (length (opening r.scene).nodes)) buses);
    }

-- ---- lists with one edit more

entered_few : (n : ℕ) (entry : ListEntry Feed) (o : Option EditorData) → ((list : ListData) → list_of o ≡ Some list → length list.history < n) → (list : ListData) → list_of (option_map (entered entry) o) ≡ Some list → length list.history < n + 1
entered_few n entry None few list is = absurd (none-some list is)
entered_few n entry (Some d) few list is =
    let same = ap (λ (l : ListData). length l.history) (same_Some (entered entry d).list list is) in
    let less = few d.list refl in
    omega (arith, same, length-append d.list.history (entry ∷ []))

few_at : (n : ℕ) (editors : List (Option EditorData)) (node : ℕ) (entry : ListEntry Feed) → HadFewer n (lists_of editors) → HadFewer (n + 1) (lists_of (entered_at editors node entry))
few_at n editors node entry few m list is = by_node (cases_eq m node)
  where
    o : Option EditorData
    o = get_or editors node None

    before : (i : ℕ) (l : ListData) → list_of (get_or editors i None) ≡ Some l → length l.history < n
    before i l at = few i l (list_at editors i ∙ at)

    read : list_of (get_or (entered_at editors node entry) m None) ≡ Some list
    read = sym (list_at (entered_at editors node entry) m) ∙ is

    by_length : m ≡ node → (node < length editors) ⊎ (length editors ≤ node) → length list.history < n + 1
    by_length same (inl within) =
        entered_few n entry o (before node) list
        (sym (ap list_of (ap (λ (i : ℕ). get_or (entered_at editors node entry) i None) same ∙ get_or-set_same editors node (option_map (entered entry) o) None within)) ∙ read)
    by_length same (inr past) =
        let less = before m list (sym (ap (λ (xs : List (Option EditorData)). list_of (get_or xs m None)) (set_past editors node (option_map (entered entry) o) past)) ∙ read) in
        omega arith

    by_node : (m ≡ node) ⊎ (m ≡ node → ⊥) → length list.history < n + 1
    by_node (inl same) = by_length same (cases_lt node (length editors))
    by_node (inr other) =
        let less = before m list (sym (ap list_of (get_or-set_other editors node m (option_map (entered entry) o) None other)) ∙ read) in
        omega arith

few_more : (n : ℕ) (editors : List (Option EditorData)) (done : Bool) (c : ListChange) → HadFewer n (lists_of editors) → HadFewer (n + 1) (lists_of (if done then editors_changed editors c else editors))
few_more n editors false c few m list is = (let less = few m list is in omega arith)
few_more n editors true (Attached feed to) few m list is = few_at n editors to (On feed.bus feed) few m list is
few_more n editors true (Detached bus from) few m list is = few_at n editors from (Off bus) few m list is
few_more n editors true Unchanged few m list is = (let less = few m list is in omega arith)

-- ---- a legal journal with one entry more

read_left : (xs ys : List EntryData) (i : ℕ) → i < length xs → slice_get (xs ++ ys) i ≡ slice_get xs i
read_left [] ys i within = absurd (omega arith)
read_left (x ∷ xs) ys zero within = refl
read_left (x ∷ xs) ys (suc i) within = read_left xs ys i (omega arith)

read_last : (xs : List EntryData) (y : EntryData) → slice_get (xs ++ y ∷ []) (length xs) ≡ Some y
read_last [] y = refl
read_last (x ∷ xs) y = read_last xs y

legal_more : (s : SceneData) (es : List EntryData) (e : EntryData) → IsLegalJournal s es → IsNextEntry s es e → IsLegalJournal s (es ++ e ∷ [])
legal_more s es e legal next i x at = by_place (cases_eq i (length es))
  where
    by_place : (i ≡ length es) ⊎ (i ≡ length es → ⊥) → IsNextEntry s (take i (es ++ e ∷ [])) x
    by_place (inl last) =
        let x_is : x ≡ e = same_Some x e (sym at ∙ ap (slice_get (es ++ e ∷ [])) last ∙ read_last es e) in
        let taken : take i (es ++ e ∷ []) ≡ es = take-append-le i es (e ∷ []) (omega arith) ∙ take_all i es (omega arith) in
        subst (λ (before : List EntryData). IsNextEntry s before x) (sym taken) (subst (IsNextEntry s es) (sym x_is) next)
    by_place (inr earlier) =
        let within = slice_get_within (es ++ e ∷ []) i x at in
        let low : i < length es = omega (arith, within, length-append es (e ∷ []), earlier) in
        subst (λ (before : List EntryData). IsNextEntry s before x) (sym (take-append-le i es (e ∷ []) (omega arith)))
        (legal i x (sym (read_left es (e ∷ []) i low) ∙ at))

-- ---- the desk after an edit

pub desk_next : (r : RunData) (w x : LiveStage) (made : List ℕ) (j : List Entry) (edit : Edit) (rp : Reply) (e k : ℕ) (seat : Seat Bool View) → IsDesk r w made j → e < 4 → slice_get (edits_by r.scene e) k ≡ Some edit → slice_index made e ≡ k → names_nodes (length w.plan.nodes) edit ≡ true → rp ≡ reply w.plan edit → IsEdited w edit x → IsStage x → seat.table_id ≡ x.seat.table_id → seat.me ≡ (booked_as e rp (heard_as e (replies_of e x.seat.me.0.lock.journal ++ rp ∷ []) x.seat.me.0), x.seat.me.1) → IsDesk r (record { plan = x.plan; inputs = x.inputs; changes = x.changes; seat = seat }) (set made e (k + 1)) (j ++ entry e k rp ∷ [])
desk_next r w x made j edit rp e k seat d lt edit_is k_is names reply_is m stage table me =
    let s = r.scene in
    let n : Entry = entry e k rp in
    let es = map entry_data j in
    let v : View = x.seat.me.0 in
    let new : map entry_data (j ++ n ∷ []) ≡ es ++ entry_data n ∷ [] = map-append entry_data j (n ∷ []) in
    let journal' : v.lock.journal ≡ j = ap (λ (y : Me Bool View). y.0.lock.journal) m.stored ∙ d.journal_is in
    let k_by : k ≡ length (replies_of e j) = sym k_is ∙ d.made_is e lt in
    let by_is : length (replies_of e v.lock.journal) ≡ k = ap (λ (l : List Entry). length (replies_of e l)) journal' ∙ sym k_by in
    let less = last_below edit (edits_by s e) k edit_is in
    let reply' : rp ≡ reply (plan_after s es) edit = reply_is ∙ ap (λ (p : PlanData). reply p edit) d.plan_is in
    let plan' : x.plan ≡ plan_after s (es ++ entry_data n ∷ []) = m.plan_is ∙ ap (λ (p : PlanData). after p edit) d.plan_is ∙ sym (plan_more s es (entry_data n) edit edit_is) in
    let history' : v.lock.history ≡ w.seat.me.0.lock.history ++ dial_set (plan_after s es) edit = ap (λ (y : Me Bool View). y.0.lock.history) m.stored ∙ ap (λ (p : PlanData). w.seat.me.0.lock.history ++ dial_set p edit) d.plan_is in
    let kept : IsBoardHistory s (es ++ entry_data n ∷ []) (w.seat.me.0.lock.history ++ dial_set (plan_after s es) edit) = history_more s es (entry_data n) edit w.seat.me.0.lock.history edit_is reply' (subst IsPlan d.plan_is d.stage_is.plan_is) (subst (λ (p : PlanData). names_nodes (length p.nodes) edit ≡ true) d.plan_is names) (has_dial s es edit) d.history_is in
    record {
      scene_is = d.scene_is;
      stage_is = record {
        plan_is = stage.plan_is;
        inputs_are = stage.inputs_are;
        times_are = stage.times_are;
        locks = ap (λ (y : Me Bool View). y.0.locks) me ∙ stage.locks;
        counted = ap (λ (y : Me Bool View). y.0.lock.stored) me ∙ stage.counted;
        changes_are = stage.changes_are ∙ ap (λ (y : Me Bool View). length y.0.lock.history) (sym me);
      };
      table_is = table ∙ m.table_is ∙ d.table_is;
      no_slot = ap (λ (y : Me Bool View). y.1) me ∙ ap (λ (y : Me Bool View). y.1) m.stored ∙ d.no_slot;
      opening_is = ap (λ (y : Me Bool View). y.0.lock.opening) me ∙ ap (λ (y : Me Bool View). y.0.lock.opening) m.stored ∙ d.opening_is;
      journal_is = ap (λ (y : Me Bool View). y.0.lock.journal) me ∙ ap (λ (i : ℕ). v.lock.journal ++ entry e i rp ∷ []) by_is ∙ ap (λ (l : List Entry). l ++ n ∷ []) journal';
      plan_is = plan' ∙ ap (plan_after s) (sym new);
      history_is = subst (λ (es' : List EntryData). IsBoardHistory s es' seat.me.0.lock.history) (sym new) (subst (IsBoardHistory s (es ++ entry_data n ∷ [])) (sym (ap (λ (y : Me Bool View). y.0.lock.history) me ∙ history')) kept);
      lists_few = more_few (257 + length j) (257 + length (j ++ n ∷ [])) (lists_of x.inputs.items) (omega (arith, length-append j (n ∷ []))) (subst (λ (editors : List (Option EditorData)). HadFewer (257 + length j + 1) (lists_of editors)) (sym m.inputs_are) (few_more (257 + length j) w.inputs.items (is_done (reply w.plan edit)) (list_change w.plan.buses edit) d.lists_few));
      legal = subst (IsLegalJournal s) (sym new) (legal_more s es (entry_data n) d.legal (record { edit = edit; edit_is = edit_is; k_is = k_by; reply_is = reply' }));
      made_are = length-set made e (k + 1) ∙ d.made_are;
      made_is = λ f b. made_by f b (cases_eq f e) k_by;
      made_most = λ f b. most_by f b (cases_eq f e) less;
      sum_is = omega (arith, length-append j (n ∷ []), d.sum_is, sum_set made e k d.made_are lt k_is);
    }
  where
    last_below : (edit : Edit) (edits : List Edit) (i : ℕ) → slice_get edits i ≡ Some edit → i < length edits
    last_below edit edits i at = slice_get_within edits i edit at

    more_few : (a b : ℕ) (lists : List (Option ListData)) → a + 1 ≡ b → HadFewer (a + 1) lists → HadFewer b lists
    more_few a b lists same few node list at = (let less = few node list at in omega arith)

    made_by : (f : ℕ) → f < 4 → (f ≡ e) ⊎ (f ≡ e → ⊥) → k ≡ length (replies_of e j) → slice_index (set made e (k + 1)) f ≡ length (replies_of f (j ++ entry e k rp ∷ []))
    made_by f b (inl is) k_by =
        subst (λ (z : ℕ). slice_index (set made e (k + 1)) z ≡ length (replies_of z (j ++ entry e k rp ∷ []))) (sym is)
        (get_or-set_same made e (k + 1) 0 (let four = d.made_are in omega arith) ∙ omega (arith, ap length (by_same e k rp j), length-append (replies_of e j) (rp ∷ []), k_by))
    made_by f b (inr ne) k_by =
        get_or-set_other made e f (k + 1) 0 ne ∙ d.made_is f b ∙ ap length (sym (by_other f e k rp j (λ q. ne (sym q))))

    most_by : (f : ℕ) → f < 4 → (f ≡ e) ⊎ (f ≡ e → ⊥) → k < length (edits_by r.scene e) → slice_index (set made e (k + 1)) f ≤ length (edits_by r.scene f)
    most_by f b (inl is) less =
        subst (λ (z : ℕ). slice_index (set made e (k + 1)) z ≤ length (edits_by r.scene z)) (sym is)
        (subst (λ (n : ℕ). n ≤ length (edits_by r.scene e)) (sym (get_or-set_same made e (k + 1) 0 (let four = d.made_are in omega arith))) (omega arith))
    most_by f b (inr ne) less =
        subst (λ (n : ℕ). n ≤ length (edits_by r.scene f)) (sym (get_or-set_other made e f (k + 1) 0 ne)) (d.made_most f b)

-- ---- the edit that the hand makes

pub edit_is_next : (s : SceneData) (editor next : ℕ) (edits : List Edit) (replies : List Reply) (edit : Edit) → edits ≡ edits_by s editor → next ≡ length replies → length replies < length (edits_by s editor) → edit ≡ get_or edits next edit → slice_get (edits_by s editor) next ≡ Some edit
edit_is_next s editor next edits replies edit edits_are next_is left is =
    slice_get-get_or (edits_by s editor) next edit (omega arith) ∙ ap (λ (l : List Edit). Some (get_or l next edit)) (sym edits_are) ∙ ap Some (sym is)

pub made_is_next : (made : List ℕ) (e next x : ℕ) → length made ≡ 4 → e < 4 → x ≡ get_or made e x → nat_eq x next ≡ true → slice_index made e ≡ next
made_is_next made e next x len lt is so = sym (get_or_default_zero made e x (omega arith)) ∙ sym is ∙ eqb-true x next so

-- the desk's count of an editor's entries, in its seat after an edit of the stage
pub count_is_by : (r : RunData) (w x : LiveStage) (made : List ℕ) (j : List Entry) (edit : Edit) (e k : ℕ) → IsDesk r w made j → e < 4 → slice_index made e ≡ k → IsEdited w edit x → k ≡ length (replies_of e x.seat.me.0.lock.journal)
count_is_by r w x made j edit e k d lt is m =
    sym is ∙ d.made_is e lt ∙ ap (λ (l : List Entry). length (replies_of e l)) (sym (ap (λ (y : Me Bool View). y.0.lock.journal) m.stored ∙ d.journal_is))

-- ---- what an edit of the stage asks

filter_few : {X : Type 0} (p : X → Bool) (xs : List X) → length (filter p xs) ≤ length xs
filter_few p [] = omega arith
filter_few p (x ∷ xs) = by_test (filter_few p xs) (p x)
  where
    by_test : length (filter p xs) ≤ length xs → (t : Bool) → length (if t then x ∷ filter p xs else filter p xs) ≤ suc (length xs)
    by_test rest true = omega arith
    by_test rest false = omega arith

one_done : (s : SceneData) (e : EntryData) → length (edit_done s e) ≤ 1
one_done s e = by_done (is_done e.reply) (edit_of s e)
  where
    by_done : (d : Bool) (o : Option Edit) → length (if d then option_map_or (λ (x : Edit). x ∷ []) o [] else []) ≤ 1
    by_done true None = omega arith
    by_done true (Some x) = omega arith
    by_done false o = omega arith

few_done : (s : SceneData) (es : List EntryData) → length (flat_map (edit_done s) es) ≤ length es
few_done s [] = omega arith
few_done s (e ∷ es) =
    let rest = few_done s es in let one = one_done s e in omega (arith, length-append (edit_done s e) (flat_map (edit_done s) es))

pub room_is : (r : RunData) (w : LiveStage) (made : List ℕ) (j : List Entry) → IsDesk r w made j → (w.changes < 2 ^ 62) × HadFewer (2 ^ 62) (lists_of w.inputs.items)
room_is r w made j d =
    let few = few_entries r w made j d in
    let most = d.scene_is.edits_most in
    let count = d.history_is.count_is in
    let changes = d.stage_is.changes_are in
    let es = map entry_data j in
    let part = filter_few sets_word (flat_map (edit_done r.scene) es) in
    let done = few_done r.scene es in
    let long = length-map j entry_data in
    (omega arith, λ node list is. (let less = d.lists_few node list is in omega arith))

pub may_edit : (r : RunData) (w : LiveStage) (made : List ℕ) (j : List Entry) (e k : ℕ) (edit : Edit) → IsDesk r w made j → slice_get (edits_by r.scene e) k ≡ Some edit → (can_apply w.plan edit ≡ true) × (is_edit (length w.plan.nodes) edit ≡ true)
may_edit r w made j e k edit d at =
    let few = few_entries r w made j d in
    let most = d.scene_is.edits_most in
    let es = map entry_data j in
    let long = length-map j entry_data in (
      subst (λ (p : PlanData). can_apply p edit ≡ true) (sym d.plan_is) (can_be_made r.scene es e k edit (omega arith) d.scene_is.edits_are at),
      subst (λ (p : PlanData). is_edit (length p.nodes) edit ≡ true) (sym d.plan_is) (edit_of_rows r.scene es e k edit d.scene_is.edits_are at),
    )
