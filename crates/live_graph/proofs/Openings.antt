-- What a run opens with.
use Rattle.std.proofs.Common.{◌≡◌, ℕ, zero, suc, ◌+◌, ◌-◌, ◌*◌, ◌%◌, ◌/◌, ◌<◌, ◌≤◌, ◌⊎◌, inl, inr, true, false, true≢false, List, [], ◌∷◌, ◌++◌, length, get_or, take, replicate, Option, Some, None, refl, sym, ◌∙◌, ap, subst, arith, length-append}
use Rattle.std.specs.Prelude.{IfSome, slice_get, slice_index}
use Rattle.std.proofs.lemmas.Bool.{cases_eq}
use Rattle.std.proofs.lemmas.List.{get_or_append_left, get_or-replicate, get_or_push, length-replicate, map-append, take_more}
use Rattle.std.proofs.lemmas.Option.{get_or_from_slice_get, slice_get_within}
use Rattle.bus_list.specs.declared.pass.Pass.{Pass}
use Rattle.bus_list.specs.declared.history.Entry.{Entry}
use Rattle.node_graph.specs.declared.feed.Feed.{Feed}
use Rattle.node_graph.specs.ListData.{ListData, IsInputOf, IsListOf}
use Rattle.node_graph.proofs.Gathered.{AreFirstInputs, first_more}
use Rattle.scene_model.specs.Limits as limits
use Rattle.scene_model.specs.PlanData.{PlanData}
use Rattle.scene_model.specs.Plans.{is_sound}
use Rattle.live_graph.specs.Dials.{most_before, most_node_words, most_words}
use Rattle.live_graph.specs.InputEditors.{EditorData, list_of, lists_of}
use Rattle.live_graph.specs.Passes.{ArePasses, IsPassFrom}

-- ---- words that are pushed one by one

pub push_read : (xs words new : List ℕ) (i x : ℕ) → words ≡ take i xs → i < length xs → x ≡ slice_index xs i → new ≡ words ++ x ∷ [] → new ≡ take (i + 1) xs
push_read xs words new i x w within is grown =
    grown ∙ ap (λ (l : List ℕ). l ++ x ∷ []) w ∙ ap (λ (y : ℕ). take i xs ++ y ∷ []) is ∙ sym (take_more xs i 0 within)

pub push_taken : (xs words new : List ℕ) (i x : ℕ) → words ≡ take i xs → slice_get xs i ≡ Some x → new ≡ words ++ x ∷ [] → new ≡ take (i + 1) xs
push_taken xs words new i x w at grown =
    push_read xs words new i x w (slice_get_within xs i x at) (sym (get_or_from_slice_get xs i x 0 at)) grown

-- ---- the largest words by their places

five_more : (n j : ℕ) → 5 * suc n + j ≡ suc (suc (suc (suc (suc (5 * n + j)))))
five_more n j = omega arith

most_of_node : (n k j : ℕ) (rest : List ℕ) → k < n → j < 5 → get_or (most_before n rest) (5 * k + j) 0 ≡ get_or most_node_words j 0
most_of_node zero k j rest below low = absurd (omega arith)
most_of_node (suc n) zero j rest below low =
    let here : 5 * 0 + j ≡ j = omega arith in
    ap (λ (i : ℕ). get_or (most_before (suc n) rest) i 0) here ∙ get_or_append_left most_node_words (most_before n rest) 0 j low
most_of_node (suc n) (suc k) j rest below low =
    ap (λ (i : ℕ). get_or (most_before (suc n) rest) i 0) (five_more k j) ∙ most_of_node n k j rest (omega arith) low

most_behind : (n k : ℕ) (rest : List ℕ) → get_or (most_before n rest) (5 * n + k) 0 ≡ get_or rest k 0
most_behind zero k rest =
    let here : 5 * 0 + k ≡ k = omega arith in ap (λ (i : ℕ). get_or rest i 0) here
most_behind (suc n) k rest =
    ap (λ (i : ℕ). get_or (most_before (suc n) rest) i 0) (five_more n k) ∙ most_behind n k rest

pub length-most : (nodes buses : ℕ) → length (most_words nodes buses) ≡ 5 * nodes + buses
length-most nodes buses = by_nodes nodes
  where
    by_nodes : (n : ℕ) → length (most_before n (replicate buses limits.most_gain)) ≡ 5 * n + buses
    by_nodes zero = length-replicate buses limits.most_gain ∙ omega arith
    by_nodes (suc n) = (let rest = by_nodes n in omega arith)

pub largest_gain : (nodes buses place : ℕ) → 5 * nodes ≤ place → place < 5 * nodes + buses → limits.most_gain ≡ slice_index (most_words nodes buses) place
largest_gain nodes buses place past within =
    let k = place - 5 * nodes in
    let split : place ≡ 5 * nodes + k = omega arith in
    sym (ap (λ (i : ℕ). get_or (most_words nodes buses) i 0) split
    ∙ most_behind nodes k (replicate buses limits.most_gain)
    ∙ get_or-replicate buses k limits.most_gain 0 (omega arith))

pub largest_of_node : (nodes buses place j : ℕ) → place < 5 * nodes → place % 5 ≡ j → get_or most_node_words j 0 ≡ slice_index (most_words nodes buses) place
largest_of_node nodes buses place j below is =
    let k = place / 5 in
    let low : j < 5 = omega arith in
    let split : place ≡ 5 * k + j = omega arith in
    sym (ap (λ (i : ℕ). get_or (most_words nodes buses) i 0) split ∙ most_of_node nodes k j (replicate buses limits.most_gain) (omega arith) low)

pub largest_switch : (nodes buses place : ℕ) → place < 5 * nodes → (place % 5) % 4 ≡ 0 → 1 ≡ slice_index (most_words nodes buses) place
largest_switch nodes buses place below is = by_word (cases_eq (place % 5) 0)
  where
    by_word : (place % 5 ≡ 0) ⊎ (place % 5 ≡ 0 → ⊥) → 1 ≡ slice_index (most_words nodes buses) place
    by_word (inl first) = largest_of_node nodes buses place 0 below first
    by_word (inr other) = largest_of_node nodes buses place 4 below (omega (arith, is, other))

pub largest_time : (nodes buses place : ℕ) → place < 5 * nodes → ((place % 5) % 4 ≡ 0 → ⊥) → (place % 5 ≡ 3 → ⊥) → limits.most_frames ≡ slice_index (most_words nodes buses) place
largest_time nodes buses place below switch other = by_word (cases_eq (place % 5) 1)
  where
    by_word : (place % 5 ≡ 1) ⊎ (place % 5 ≡ 1 → ⊥) → limits.most_frames ≡ slice_index (most_words nodes buses) place
    by_word (inl first) = largest_of_node nodes buses place 1 below first
    by_word (inr else_) = largest_of_node nodes buses place 2 below (omega (arith, switch, other, else_))

-- ---- both sides of one list more

pub passes_more : (opened : List (Option EditorData)) (passes : List (Pass Feed)) (editor : Option EditorData) (pass : Pass Feed) → ArePasses opened passes → IfSome editor (IsPassFrom pass) → ArePasses (opened ++ editor ∷ []) (passes ++ pass ∷ [])
passes_more opened passes editor pass w own = record {
  one_each = (let one = w.one_each in omega (arith, length-append opened (editor ∷ []), length-append passes (pass ∷ [])));
  each_is = λ node d within. by_place node d within (cases_eq (length passes) node);
}
  where
    by_place : (node : ℕ) (d : Pass Feed) → node < length (passes ++ pass ∷ []) → (length passes ≡ node) ⊎ (length passes ≡ node → ⊥) → IfSome (get_or (opened ++ editor ∷ []) node None) (IsPassFrom (get_or (passes ++ pass ∷ []) node d))
    by_place node d within (inl same) =
        subst (λ (e : Option EditorData). IfSome e (IsPassFrom (get_or (passes ++ pass ∷ []) node d))) (sym (get_or_push opened editor None node (sym w.one_each ∙ same)))
        (subst (λ (p : Pass Feed). IfSome editor (IsPassFrom p)) (sym (get_or_push passes pass d node same)) own)
    by_place node d within (inr other) =
        let one = w.one_each in
        let low : node < length passes = omega (arith, length-append passes (pass ∷ [])) in
        subst (λ (e : Option EditorData). IfSome e (IsPassFrom (get_or (passes ++ pass ∷ []) node d))) (sym (get_or_append_left opened (editor ∷ []) None node (omega arith)))
        (subst (λ (p : Pass Feed). IfSome (get_or opened node None) (IsPassFrom p)) (sym (get_or_append_left passes (pass ∷ []) d node low)) (w.each_is node d low))

pub inputs_more : (p : PlanData) (n : ℕ) (editors : List (Option EditorData)) (editor : Option EditorData) → AreFirstInputs p n (lists_of editors) → IsInputOf p n (list_of editor) → IfSome (list_of editor) (λ (list : ListData). length list.history ≤ limits.most_buses) → AreFirstInputs p (n + 1) (lists_of (editors ++ editor ∷ []))
inputs_more p n editors editor w own few =
    subst (AreFirstInputs p (n + 1)) (sym (map-append list_of editors (editor ∷ []))) (first_more p n (lists_of editors) (list_of editor) w own few)

abbrev data_by_fields : ℕ → List (Entry Feed) → ListData
data_by_fields n h = record { numbers = n; history = h }

pub same_data : {n m : ℕ} {h k : List (Entry Feed)} → n ≡ m → h ≡ k → ◌≡◌ {A = ListData} (record { numbers = n; history = h }) (record { numbers = m; history = k })
same_data {n} {m} {h} {k} numbers history =
    ap (λ (i : ℕ). data_by_fields i h) numbers ∙ ap (data_by_fields m) history

pub own_input : (p : PlanData) (n : ℕ) (opened list : ListData) → is_sound p.nodes n ≡ false → IsListOf p.buses n opened → list ≡ opened → IsInputOf p n (Some list)
own_input p n opened list other is same = record {
  of_sound = λ sound. absurd (true≢false (sym sound ∙ other));
  of_other = λ t. (list, refl, λ kept. subst (IsListOf p.buses n) (sym same) is);
}

pub no_input : (p : PlanData) (n : ℕ) → is_sound p.nodes n ≡ true → IsInputOf p n None
no_input p n sound = record {
  of_sound = λ t. refl;
  of_other = λ other. absurd (true≢false (sym sound ∙ other));
}
