-- The steps of the editor, as steps of the table, keep its rule and tell what they have to.
use Rattle.std.proofs.Common.{◌≡◌, ◌≢◌, ◌⊎◌, ℕ, ◌+◌, ◌*◌, ◌/◌, ◌≤◌, ◌<◌, true, false, cond, ◌==◌, ◌||◌, List, [], ◌∷◌, ◌++◌, length, set, refl, sym, ap, ◌∙◌, subst, subst₂, ⊎_elim, arith, Option, Some, None, is_some, length-set}
use Rattle.std.specs.Prelude.{slice_index, slice_set}
use Rattle.std.proofs.lemmas.Bool.{eq-eqb, ne_eqb, or_left}
use Rattle.std.proofs.lemmas.List.{set-get_or}
use mathlib.Core.Option.{some, none, some-injective, some-ne-none}
use lib.ListN.{get_elem?}
use Rattle.atomic_table.specs.Table.{State, Me, step, stepped, homes_after, Allows, keeps, takes, gives, rest}
use Rattle.bus_list.specs.declared.view.Note.{Note}
use Rattle.bus_list.specs.declared.view.Note.TheVariants.{Steps, References, Feed, OwnLink, DummyLink, PredecessorLink, FlagStored, EditsStored}
use Rattle.bus_list.specs.declared.view.Phase.{Phase}
use Rattle.bus_list.specs.declared.view.Phase.TheVariants.{Idle, Linked, Filling, Filled, Inserted, FlagSet, FlagCleared, Unlinked, Quiescent, Unreferenced, Emptying, Emptied}
use Rattle.bus_list.specs.declared.view.EditorState.{EditorState}
use Rattle.bus_list.specs.declared.view.PassState.{PassState}
use Rattle.bus_list.specs.declared.view.View.{View}
use Rattle.bus_list.specs.Visits.{has, attached_feed}
use Rattle.bus_list.specs.Invariant.{Memory, ListInvariant, Path, updated, bit, last_of}
use Rattle.bus_list.specs.Transitions.{cut, at, filling, filled, inserted, flag_set, flag_cleared, unlinked, quiesced, unreferenced, emptying, emptied, phase_bus}
use Rattle.bus_list.specs.Rule.{CopiesLinks, memory, TableInvariant}
use Rattle.bus_list.specs.Steps.{Route, after_editor_step, after_link_store, top_slot, payload, StoredOwnLink, OpenedCell, FilledCell, StoredDummyLink, SetFlag, StoredEdits, ClearedFlag, StoredPredecessorLink, LoadedSteps, LoadedReferences, TookCell, EmptiedCell}
use Rattle.bus_list.proofs.Chains.{cases, has_not, distinct_middle, last_le, path_copy}
use Rattle.bus_list.proofs.StoreDummyLink.{stores_dummy_link}
use Rattle.bus_list.proofs.StorePredecessorLink.{stores_predecessor_link}
use Rattle.bus_list.proofs.StoreFlags.{sets_flag, clears_flag}
use Rattle.bus_list.proofs.EditorKinds as edit
use Rattle.bus_list.proofs.TableChanges.{memory_link, memory_flag, memory_edits, memory_cell, invariant_flag, edits_on, copied_else, copied_link}

pub third : (c : ℕ) → 3 * c / 3 ≡ c
third c = omega arith

pub third_flag : (c : ℕ) → (3 * c + 1) / 3 ≡ c
third_flag c = omega arith

pub cut_middle : (c : ℕ) (xs ys : List ℕ) → has c xs ≡ false → cut c (xs ++ c ∷ ys) ≡ xs ++ ys
cut_middle c [] ys h = rw (eq-eqb c c refl) refl
cut_middle c (x ∷ xs) ys h =
    let n = has_not c x xs h in
    rw (ne_eqb c x n.0) (ap (λ l. x ∷ l) (cut_middle c xs ys n.1))

module _ {F : Type 0} where
  phased : (N : ℕ) (t : Memory F) (w : EditorState F) (p : PassState F) (ph : Phase F) → w.phase ≡ ph → ListInvariant N t w p → ListInvariant N t (at ph w) p
  phased N t w p ph e c = subst (λ (u : EditorState F). ListInvariant N t u p) (λ i. record w { phase = e i }) c

  module _ (N id : ℕ) (me : Me (Option F) (View F)) (role : me.0.is_editor ≡ true) (s : State (Option F) (View F)) (k : TableInvariant N s) (here : get_elem? s.views id ≡ some me.0) where
    abbrev t : Memory F
    t = memory N s.words s.homes

    invariant : ListInvariant N t me.0.editing k.reading
    invariant = subst (λ q. ListInvariant N t q k.reading) (sym ((k.roles id me.0 here).as_editor role).2) k.invariant

    copied : CopiesLinks N s.words me.0.links
    copied = subst (CopiesLinks N s.words) (sym ((k.roles id me.0 here).as_editor role).1) k.copied

    loaded : (i : ℕ) (q : EditorState F) (x : Note) → ListInvariant N t q k.reading → TableInvariant N (stepped s i (slice_index s.words i) id me.1 (after_editor_step q x me.0) keeps)
    loaded i q x c = subst (λ ws. TableInvariant N record { words = ws; homes = s.homes; views = set s.views id (after_editor_step q x me.0) }) (sym (set-get_or s.words i 0))
        (edits_on N s k id me.0 here role s.words s.homes me.0.links q (me.0.notes ++ x ∷ []) k.words k.slots c copied)

    loaded_home : (i c : ℕ) (v : mathlib.Core.Option.Option (Option F)) (q : EditorState F) (x : Note) → c < N → ListInvariant N (record t { cell = updated t.cell c (some v) }) q k.reading
        → TableInvariant N record { words = set s.words i (slice_index s.words i); homes = set s.homes c v; views = set s.views id (after_editor_step q x me.0) }
    loaded_home i c v q x cl core' = subst (λ ws. TableInvariant N record { words = ws; homes = set s.homes c v; views = set s.views id (after_editor_step q x me.0) }) (sym (set-get_or s.words i 0))
        (edits_on N s k id me.0 here role s.words (set s.homes c v) me.0.links q (me.0.notes ++ x ∷ []) k.words (length-set s.homes c v ∙ k.slots)
        (subst (λ (u : Memory F). ListInvariant N u q k.reading) (sym (memory_cell N c v s.words s.homes (let z = k.slots in omega arith))) core') copied)

    stored_link : (c v : ℕ) (q : EditorState F) (x : Note) → c ≤ N → ListInvariant N (record t { link = updated t.link c v }) q k.reading → TableInvariant N (stepped s (3 * c) v id me.1 (after_link_store (slice_set me.0.links c v) q x me.0) keeps)
    stored_link c v q x cl core' = edits_on N s k id me.0 here role (set s.words (3 * c) v) s.homes (slice_set me.0.links c v) q (me.0.notes ++ x ∷ []) (length-set s.words (3 * c) v ∙ k.words) k.slots
        (subst (λ (u : Memory F). ListInvariant N u q k.reading) (sym (memory_link N c v s.words s.homes cl k.words)) core')
        (copied_link N s.words me.0.links c v cl k.words copied)

    stored_flag : (c v : ℕ) (q : EditorState F) (x : Note) → c < N → ListInvariant N (record t { flag = updated t.flag c v }) q k.reading → TableInvariant N (stepped s (3 * c + 1) v id me.1 (after_editor_step q x me.0) keeps)
    stored_flag c v q x cl core' = edits_on N s k id me.0 here role (set s.words (3 * c + 1) v) s.homes me.0.links q (me.0.notes ++ x ∷ []) (length-set s.words (3 * c + 1) v ∙ k.words) k.slots
        (subst (λ (u : Memory F). ListInvariant N u q k.reading) (sym (memory_flag N c v s.words s.homes cl k.words)) core')
        (copied_else N s.words me.0.links (3 * c + 1) v (λ b le e. absurd (omega arith)) copied)

    stored_edits : (v : ℕ) (q : EditorState F) (x : Note) → ListInvariant N (record t { edits = v }) q k.reading → TableInvariant N (stepped s (3 * N + 1) v id me.1 (after_editor_step q x me.0) keeps)
    stored_edits v q x core' = edits_on N s k id me.0 here role (set s.words (3 * N + 1) v) s.homes me.0.links q (me.0.notes ++ x ∷ []) (length-set s.words (3 * N + 1) v ∙ k.words) k.slots
        (subst (λ (u : Memory F). ListInvariant N u q k.reading) (sym (memory_edits N v s.words s.homes k.words)) (invariant_flag N (record t { edits = v }) q k.reading v core'))
        (copied_else N s.words me.0.links (3 * N + 1) v (λ b le e. absurd (omega arith)) copied)

  module _ (N id : ℕ) (me : Me (Option F) (View F)) (role : me.0.is_editor ≡ true) where
    abbrev w : EditorState F
    w = me.0.editing

    pub stores_own_link_kept : (c v : ℕ) → c < N → attached_feed w.history c ≡ None → w.phase ≡ Idle → v ≡ slice_index me.0.links N → Allows (TableInvariant N) N id me (3 * c) (λ _. v) (λ _. StoredOwnLink (step N (3 * c) v 0 none) me v)
    stores_own_link_kept c v cl off ph copy s k slots here fits =
        let t = memory N s.words s.homes in
        let r = edit.stores_own_link N t w k.reading c (cl, off) (phased N t w k.reading Idle ph (invariant N id me role s k here)) in
        let same : t.link N ≡ v = (copied N id me role s k here).same N (omega arith) ∙ sym copy in (
          after_link_store (slice_set me.0.links c v) (at (Linked c) w) (OwnLink c v) me.0,
          keeps,
          tt,
          stored_link N id me role s k here c v (at (Linked c) w) (OwnLink c v) (omega arith) (subst (λ n. ListInvariant N (record t { link = updated t.link c n }) (at (Linked c) w) k.reading) same r),
          (λ i. (after_link_store (slice_set me.0.links (sym (third c) i) v) (at (Linked (sym (third c) i)) w) (OwnLink (sym (third c) i) v) me.0, me.1)),
        )

    pub opens_cell_kept : (i c : ℕ) → w.phase ≡ Linked c → Allows (TableInvariant N) N id me i (λ n. n) (OpenedCell (step N i 0 0 none) me)
    opens_cell_kept i c ph s k slots here fits =
        let t = memory N s.words s.homes in
        let x = phased N t w k.reading (Linked c) ph (invariant N id me role s k here) in
        let r = edit.opens_cell N t w k.reading c x in
        let after = λ (q : Phase F). after_editor_step (at (filling q) w) (Feed (phase_bus N q)) me.0 in (
          after (Linked c),
          takes c None,
          r.0,
          loaded_home N id me role s k here i c none (at (Filling c) w) (Feed c) x.chain_invariant.phase_facts.0.0 r.1,
          λ j. (after (sym ph j), (phase_bus N (sym ph j), None) ∷ me.1),
        )

    pub fills_cell_kept : (i c : ℕ) (f : F) → w.phase ≡ Filling c → me.1 ≡ (c, Some f) ∷ rest me.1 → Allows (TableInvariant N) N id me i (λ n. n) (FilledCell (step N i 0 0 none) me)
    fills_cell_kept i c f ph has s k slots here fits =
        let t = memory N s.words s.homes in
        let x = phased N t w k.reading (Filling c) ph (invariant N id me role s k here) in
        let r = edit.fills_cell N t w k.reading c f x in
        let homes : homes_after s.homes me.1 gives ≡ set s.homes c (some (Some f)) = ap (λ l. homes_after s.homes l gives) has in
        let after = λ (l : List (ℕ × Option F)) (q : Phase F). after_editor_step (at (filled (top_slot l) q) w) (Feed (phase_bus N q)) me.0 in (
          after ((c, Some f) ∷ rest me.1) (Filling c),
          gives,
          tt,
          subst (λ hs. TableInvariant N record { words = set s.words i (slice_index s.words i); homes = hs; views = set s.views id (after ((c, Some f) ∷ rest me.1) (Filling c)) }) (sym homes)
              (loaded_home N id me role s k here i c (some (Some f)) (at (Filled c (Some f)) w) (Feed c) x.chain_invariant.phase_facts.0.0 r),
          λ j. (after (sym has j) (sym ph j), rest me.1),
        )

    pub stores_dummy_link_kept : (c : ℕ) (y : Option F) → w.phase ≡ Filled c y → Allows (TableInvariant N) N id me (3 * N) (λ _. c) (λ _. StoredDummyLink (step N (3 * N) c 0 none) me c)
    stores_dummy_link_kept c y ph s k slots here fits =
        let t = memory N s.words s.homes in
        let x = phased N t w k.reading (Filled c y) ph (invariant N id me role s k here) in
        let r = stores_dummy_link N t w k.reading c y x in
        let after = λ (q : Phase F). after_link_store (slice_set me.0.links N c) (inserted q w) (DummyLink c) me.0 in
        (after (Filled c y), keeps, tt, stored_link N id me role s k here N c (inserted (Filled c y) w) (DummyLink c) (omega arith) r, λ j. (after (sym ph j), me.1))

    pub sets_flag_kept : (c : ℕ) (f : F) → w.phase ≡ Inserted c (Some f) → Allows (TableInvariant N) N id me (3 * c + 1) (λ _. 1) (λ _. SetFlag (step N (3 * c + 1) 1 0 none) me 1)
    sets_flag_kept c f ph s k slots here fits =
        let t = memory N s.words s.homes in
        let x = phased N t w k.reading (Inserted c (Some f)) ph (invariant N id me role s k here) in
        let r = sets_flag N t w k.reading c f x in
        let after = λ (q : Phase F). after_editor_step (flag_set q w) (FlagStored (phase_bus N q)) me.0 in
        (after (Inserted c (Some f)), keeps, tt, stored_flag N id me role s k here c 1 (flag_set (Inserted c (Some f)) w) (FlagStored c) x.chain_invariant.phase_facts.0.0 r, λ j. (after (sym ph j), me.1))

    pub stores_edits_kept : (c v : ℕ) → (w.phase ≡ FlagSet c) ⊎ (w.phase ≡ Emptied c) → v ≡ length w.history → Allows (TableInvariant N) N id me (3 * N + 1) (λ _. v) (λ _. StoredEdits (step N (3 * N + 1) v 0 none) me v)
    stores_edits_kept c v ph is s k slots here fits =
        let t = memory N s.words s.homes in
        let x = invariant N id me role s k here in
        let r : ListInvariant N (record t { edits = v }) (at Idle w) k.reading = ⊎_elim
        (λ (e : w.phase ≡ FlagSet c). let y = phased N t w k.reading (FlagSet c) e x in
        subst (λ n. ListInvariant N (record t { edits = n }) (at Idle w) k.reading) (y.chain_invariant.count ∙ sym is) (edit.counts_on N t w k.reading c y))
        (λ (e : w.phase ≡ Emptied c). let y = phased N t w k.reading (Emptied c) e x in
        subst (λ n. ListInvariant N (record t { edits = n }) (at Idle w) k.reading) (y.chain_invariant.count ∙ sym is) (edit.counts_off N t w k.reading c y))
        ph in
        (after_editor_step (at Idle w) (EditsStored v) me.0, keeps, tt, stored_edits N id me role s k here v (at Idle w) (EditsStored v) r, refl)

    pub clears_flag_kept : (c : ℕ) → c < N → is_some (attached_feed w.history c) ≡ true → w.phase ≡ Idle → Allows (TableInvariant N) N id me (3 * c + 1) (λ _. 0) (λ _. ClearedFlag (step N (3 * c + 1) 0 0 none) me 0)
    clears_flag_kept c cl on ph s k slots here fits =
        let t = memory N s.words s.homes in
        let x = phased N t w k.reading Idle ph (invariant N id me role s k here) in
        let r = clears_flag N t w k.reading c cl on x in
        let cp = copied N id me role s k here in (
          after_editor_step (flag_cleared c w) (FlagStored c) me.0,
          keeps,
          tt,
          stored_flag N id me role s k here c 0 (flag_cleared c w) (FlagStored c) cl r,
          (
            (λ j. (after_editor_step (flag_cleared (sym (third_flag c) j) w) (FlagStored (sym (third_flag c) j)) me.0, me.1)),
            subst (Route N me.0.links w.chain) (sym (third_flag c)) (record {
              path = subst (λ a. Path N (λ b. slice_index me.0.links b) a w.chain) (cp.same N (omega arith)) (path_copy N t.link (λ b. slice_index me.0.links b) (t.link N) w.chain cp.same x.chain_invariant.inside x.chain_invariant.path);
              apart = x.chain_invariant.apart;
              inside = x.chain_invariant.inside;
              there = x.chain_invariant.members c cl ∙ or_left (is_some (attached_feed w.history c)) false on;
            }),
          ),
        )

    pub stores_predecessor_link_kept : (c q v : ℕ) (y : Option F) (xs ys : List ℕ) → w.phase ≡ FlagCleared c y → w.chain ≡ xs ++ c ∷ ys → last_of N xs ≡ q → v ≡ slice_index me.0.links c → Allows (TableInvariant N) N id me (3 * q) (λ _. v) (λ _. StoredPredecessorLink (step N (3 * q) v 0 none) me v)
    stores_predecessor_link_kept c q v y xs ys ph chain last copy s k slots here fits =
        let t = memory N s.words s.homes in
        let x = phased N t w k.reading (FlagCleared c y) ph (invariant N id me role s k here) in
        let z = subst (λ (l : List ℕ). ListInvariant N t (record w { phase = FlagCleared c y; chain = l }) k.reading) chain x in
        let r = stores_predecessor_link N t w k.reading c y xs ys z in
        let cl : c < N = x.chain_invariant.phase_facts.0.0 in
        let ql : q ≤ N = subst (λ n. n ≤ N) last (last_le N N xs (c ∷ ys) (omega arith) z.chain_invariant.inside) in
        let same : t.link c ≡ v = (copied N id me role s k here).same c (omega arith) ∙ sym copy in
        let gone : xs ++ ys ≡ cut c w.chain = sym (ap (cut c) chain ∙ cut_middle c xs ys (distinct_middle xs ys c z.chain_invariant.apart).0) in
        let r' : ListInvariant N (record t { link = updated t.link q v }) (unlinked (FlagCleared c y) w) k.reading = subst (λ (l : List ℕ). ListInvariant N (record t { link = updated t.link q v }) (record w { phase = Unlinked c y; chain = l }) k.reading) gone
        (subst₂ (λ (a b : ℕ). ListInvariant N (record t { link = updated t.link a b }) (record w { phase = Unlinked c y; chain = xs ++ ys }) k.reading) last same r) in
        let l = slice_set me.0.links q v in (
          after_link_store l (unlinked (FlagCleared c y) w) (PredecessorLink q v) me.0,
          keeps,
          tt,
          stored_link N id me role s k here q v (unlinked (FlagCleared c y) w) (PredecessorLink q v) ql r',
          λ j. (after_link_store (slice_set me.0.links (sym (third q) j) v) (unlinked (sym ph j) w) (PredecessorLink (sym (third q) j) v) me.0, me.1),
        )

    pub loads_steps_kept : (c : ℕ) (y : Option F) → w.phase ≡ Unlinked c y → Allows (TableInvariant N) N id me (3 * N + 2) (λ n. n) (LoadedSteps (step N (3 * N + 2) 0 0 none) me)
    loads_steps_kept c y ph s k slots here fits =
        let t = memory N s.words s.homes in
        let x = phased N t w k.reading (Unlinked c y) ph (invariant N id me role s k here) in
        let n = slice_index s.words (3 * N + 2) in
        let after = λ (q : Phase F). after_editor_step (at (quiesced n q) w) (Steps n) me.0 in
        let r : ListInvariant N t (at (cond (n == 0) (Quiescent c y) (Unlinked c y)) w) k.reading = cases n 0
        (λ (e : n ≡ 0). rw (eq-eqb n 0 e) (edit.finds_no_step N t w k.reading c y e x))
        (λ (e : n ≢ 0). rw (ne_eqb n 0 e) x) in (
          after (Unlinked c y),
          keeps,
          tt,
          loaded N id me role s k here (3 * N + 2) (at (quiesced n (Unlinked c y)) w) (Steps n) r,
          ((λ j. (after (sym ph j), me.1)), λ walks. x.steps ∙ ap (λ (q : PassState F). bit q.stepping) (sym ((k.roles id me.0 here).as_pass walks).1)),
        )

    pub loads_references_kept : (c : ℕ) (y : Option F) → w.phase ≡ Quiescent c y → Allows (TableInvariant N) N id me (3 * c + 2) (λ n. n) (LoadedReferences (step N (3 * c + 2) 0 0 none) me)
    loads_references_kept c y ph s k slots here fits =
        let t = memory N s.words s.homes in
        let x = phased N t w k.reading (Quiescent c y) ph (invariant N id me role s k here) in
        let n = slice_index s.words (3 * c + 2) in
        let after = λ (q : Phase F). after_editor_step (at (unreferenced n q) w) (References (phase_bus N q) n) me.0 in
        let r : ListInvariant N t (at (cond (n == 0) (Unreferenced c y) (Quiescent c y)) w) k.reading = cases n 0
        (λ (e : n ≡ 0). rw (eq-eqb n 0 e) (edit.finds_no_reference N t w k.reading c y e x))
        (λ (e : n ≢ 0). rw (ne_eqb n 0 e) x) in (
          after (Quiescent c y),
          keeps,
          tt,
          loaded N id me role s k here (3 * c + 2) (at (unreferenced n (Quiescent c y)) w) (References c n) r,
          (
            (λ j. (after (sym ph j), me.1)),
            λ walks. subst (λ (q : Phase F). n ≡ bit ((phase_bus N q == me.0.reading.held) || (phase_bus N q == me.0.reading.previous))) (sym ph)
                (x.references c x.chain_invariant.phase_facts.0.0 ∙ ap (λ (q : PassState F). bit ((c == q.held) || (c == q.previous))) (sym ((k.roles id me.0 here).as_pass walks).1)),
          ),
        )

    pub takes_cell_kept : (i c : ℕ) (y : Option F) → w.phase ≡ Unreferenced c y → Allows (TableInvariant N) N id me i (λ n. n) (TookCell (step N i 0 0 none) me)
    takes_cell_kept i c y ph s k slots here fits =
        let t = memory N s.words s.homes in
        let x = phased N t w k.reading (Unreferenced c y) ph (invariant N id me role s k here) in
        let r = edit.takes_cell N t w k.reading c y x in
        let after = λ (q : Phase F). after_editor_step (at (emptying q) w) (Feed (phase_bus N q)) me.0 in (
          after (Unreferenced c y),
          takes c y,
          r.0,
          loaded_home N id me role s k here i c none (at (Emptying c) w) (Feed c) x.chain_invariant.phase_facts.0.0 r.1,
          λ j. (after (sym ph j), (phase_bus N (sym ph j), payload (sym ph j)) ∷ me.1),
        )

    pub empties_cell_kept : (i c : ℕ) → w.phase ≡ Emptying c → me.1 ≡ (c, None) ∷ rest me.1 → Allows (TableInvariant N) N id me i (λ n. n) (EmptiedCell (step N i 0 0 none) me)
    empties_cell_kept i c ph has s k slots here fits =
        let t = memory N s.words s.homes in
        let x = phased N t w k.reading (Emptying c) ph (invariant N id me role s k here) in
        let r = edit.empties_cell N t w k.reading c x in
        let homes : homes_after s.homes me.1 gives ≡ set s.homes c (some None) = ap (λ l. homes_after s.homes l gives) has in
        let after = λ (q : Phase F). after_editor_step (at (emptied q) w) (Feed (phase_bus N q)) me.0 in (
          after (Emptying c),
          gives,
          tt,
          subst (λ hs. TableInvariant N record { words = set s.words i (slice_index s.words i); homes = hs; views = set s.views id (after (Emptying c)) }) (sym homes)
              (loaded_home N id me role s k here i c (some None) (at (Emptied c) w) (Feed c) x.chain_invariant.phase_facts.0.0 r),
          λ j. (after (sym ph j), rest me.1),
        )
