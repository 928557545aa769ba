-- The opening, the split of a view, the join of two, and what a load tells after it.
use Rattle.std.proofs.Common.{◌≡◌, ◌≢◌, ◌⊎◌, ℕ, zero, suc, ◌+◌, ◌*◌, ◌<◌, true, false, List, [], ◌∷◌, ◌++◌, map, replicate, length, get_or, set, refl, sym, ap, ◌∙◌, subst, inl, inr, ⊎_elim, arith, Option, None, length-set, take_all, get_or-set_same, get_or-set_other}
use Rattle.std.specs.Prelude.{slice_index}
use Rattle.std.proofs.lemmas.Bool.{ne_eqb}
use Rattle.std.proofs.lemmas.List.{set-get_or}
use mathlib.Core.Option.{some, none, some-injective, some-ne-none}
use lib.ListN.{get_elem?}
use Rattle.atomic_table.specs.Table.{Me, step, Allows, Splits, Joins, opening, keeps}
use Rattle.atomic_table.proofs.Lists.{at_set, set_else, set_again}
use Rattle.bus_list.specs.declared.history.Entry.{Entry}
use Rattle.bus_list.specs.declared.view.Phase.TheVariants.{Idle}
use Rattle.bus_list.specs.declared.view.EditorState.{EditorState}
use Rattle.bus_list.specs.declared.view.PassState.{PassState}
use Rattle.bus_list.specs.declared.view.View.{View}
use Rattle.bus_list.specs.Visits.{attached_feed}
use Rattle.bus_list.specs.Invariant.{ListInvariant, lag}
use Rattle.bus_list.specs.Rule.{first_links, first_words, first_view, new_editor_state, new_pass_state, spent_view, CopiesLinks, memory, HasRole, TableInvariant, editor_part, pass_part, restarted, joined}
use Rattle.bus_list.specs.Steps.{Learnt}
use Rattle.bus_list.proofs.Chains.{cases}
use Rattle.bus_list.proofs.Phases.{lost}

zeros : (k j : ℕ) → ◌≡◌ {A = ℕ} (get_or (replicate k 0) j 0) 0
zeros zero j = refl
zeros (suc k) zero = refl
zeros (suc k) (suc j) = zeros k j

length_zeros : {A : Type 0} (k : ℕ) (a : A) → length (replicate k a) ≡ k
length_zeros zero a = refl
length_zeros (suc k) a = ap suc (length_zeros k a)

but_one : (k i v j : ℕ) → j ≢ i → ◌≡◌ {A = ℕ} (get_or (set (replicate k 0) i v) j 0) 0
but_one k i v j n = get_or-set_other (replicate k 0) i j v 0 n ∙ zeros k j

the_one : (k i v : ℕ) → i < k → get_or (set (replicate k 0) i v) i 0 ≡ v
the_one k i v lt = get_or-set_same (replicate k 0) i v 0 (let z : length (replicate {A = ℕ} k 0) ≡ k = length_zeros k 0 in omega arith)

module _ {A : Type 0} where
  -- The end of a list that was made longer.
  at_end : (l : List A) (a b : A) (j : ℕ) → get_elem? (l ++ a ∷ []) j ≡ some b → (get_elem? l j ≡ some b) ⊎ ((j ≡ length l) × (a ≡ b))
  at_end [] a b zero e = inr (refl, some-injective a b e)
  at_end [] a b (suc j) e = absurd (some-ne-none b (sym e))
  at_end (x ∷ xs) a b zero e = inl e
  at_end (x ∷ xs) a b (suc j) e = ⊎_elim (λ (q : get_elem? xs j ≡ some b). inl q) (λ (q : (j ≡ length xs) × (a ≡ b)). inr (ap suc q.0, q.1)) (at_end xs a b j e)

  homes_there : (k : ℕ) (a : A) (b : ℕ) → b < k → get_elem? (map some (replicate k a)) b ≡ some (some a)
  homes_there zero a b lt = absurd (omega arith)
  homes_there (suc k) a zero lt = refl
  homes_there (suc k) a (suc b) lt = homes_there k a b (omega arith)

  length_map_some : (l : List A) → length (map (λ (x : A). some x) l) ≡ length l
  length_map_some [] = refl
  length_map_some (x ∷ xs) = ap suc (length_map_some xs)

module _ {F : Type 0} where
  pub opens : (N : ℕ) → TableInvariant N (opening (first_words N) (replicate {A = Option F} N None) (first_view N))
  opens N = record {
    words = length-set (replicate (3 * N + 3) 0) (3 * N) N ∙ length_zeros (3 * N + 3) 0;
    slots = length_map_some (replicate N None) ∙ length_zeros N None;
    editor = 0;
    pass = 0;
    links = first_links N;
    editing = new_editor_state;
    reading = new_pass_state N;
    invariant = record {
      chain_invariant = record {
        count = let z = but_one (3 * N + 3) (3 * N) N (3 * N + 1) (λ e. absurd (omega arith)) in omega arith;
        flags = λ b bl. but_one (3 * N + 3) (3 * N) N (3 * b + 1) (λ e. absurd (omega arith));
        path = the_one (3 * N + 3) (3 * N) N (omega arith);
        apart = tt;
        inside = tt;
        members = λ b bl. refl;
        named = λ b le m. ap (λ (h : List (Entry F)). attached_feed h b) (take_all m [] (omega arith));
        phase_facts = tt;
      };
      steps = but_one (3 * N + 3) (3 * N) N (3 * N + 2) (λ e. absurd (omega arith));
      references = λ b bl. but_one (3 * N + 3) (3 * N) N (3 * b + 2) (λ e. absurd (omega arith)) ∙ sym (rw (ne_eqb b N (λ e. absurd (omega arith))) refl);
      cells = λ b bl. homes_there N None b bl ∙ sym (rw (ne_eqb b N (λ e. absurd (omega arith))) refl);
      pass_invariant = record { aims = λ n. absurd (n refl); differ = λ n. absurd (n refl); carries = λ n. absurd (n refl); borrowed_feed = λ n. absurd (n refl); held_at = λ n. absurd (n refl); old_at = λ n. absurd (n refl); aim_at = λ n. absurd (n refl); aim_free = refl; held_free = refl; old_free = refl };
      open_visit = λ e. lost (sym e);
      no_visit = λ e. (refl, refl);
      past = omega arith;
      last_count = omega arith;
    };
    copied = record {
      size = length-set (replicate (N + 1) 0) N N ∙ length_zeros (N + 1) 0;
      same = λ b le. cases b N
          (λ (e : b ≡ N). subst (λ (x : ℕ). slice_index (first_words N) (3 * x) ≡ slice_index (first_links N) x) (sym e) (the_one (3 * N + 3) (3 * N) N (omega arith) ∙ sym (the_one (N + 1) N N (omega arith))))
          (λ (n : b ≢ N). but_one (3 * N + 3) (3 * N) N (3 * b) (λ e. n (omega arith)) ∙ sym (but_one (N + 1) N N b n));
    };
    roles = λ i v e. one i v e;
  }
    where
      one : (i : ℕ) (v : View F) → get_elem? (first_view N ∷ []) i ≡ some v → HasRole 0 0 (first_links N) new_editor_state (new_pass_state N) i v
      one zero v e = subst (HasRole 0 0 (first_links N) new_editor_state (new_pass_state N) 0) (some-injective (first_view N) v e) (record { as_editor = λ _. (refl, refl, refl); as_pass = λ _. (refl, refl) })
      one (suc i) v e = absurd (some-ne-none v (sym e))

  pub splits : (N id : ℕ) (v : View F) → v.is_editor ≡ true → v.reads ≡ true → v.editing.phase ≡ Idle → v.reading.opened ≡ false → Splits (TableInvariant N) id v (editor_part v) (pass_part v)
  splits N id v edits reads idle shut s k here =
      let mine = k.roles id v here in
      let ed = mine.as_editor edits in
      let pa = mine.as_pass reads in
      let n = length v.editing.history in
      let t = memory N s.words s.homes in
      let p = restarted n v.reading in
      let c : ListInvariant N t v.editing v.reading = subst (λ (x : EditorState F × PassState F). ListInvariant N t x.0 x.1) (λ i. (sym ed.2 i, sym pa.1 i)) k.invariant in
      let lag0 : t.edits ≡ n = subst (λ ph. t.edits + lag ph ≡ n → t.edits ≡ n) (sym idle) (λ e. omega arith) c.chain_invariant.count in
      record {
        words = k.words;
        slots = k.slots;
        editor = id;
        pass = length s.views;
        links = v.links;
        editing = v.editing;
        reading = p;
        invariant = record {
          chain_invariant = c.chain_invariant;
          steps = c.steps;
          references = c.references;
          cells = c.cells;
          pass_invariant = record { aims = c.pass_invariant.aims; differ = c.pass_invariant.differ; carries = c.pass_invariant.carries; borrowed_feed = c.pass_invariant.borrowed_feed; held_at = c.pass_invariant.held_at; old_at = c.pass_invariant.old_at; aim_at = c.pass_invariant.aim_at; aim_free = c.pass_invariant.aim_free; held_free = c.pass_invariant.held_free; old_free = c.pass_invariant.old_free };
          open_visit = λ e. lost (sym e ∙ shut);
          no_visit = c.no_visit;
          past = omega arith;
          last_count = omega arith;
        };
        copied = subst (CopiesLinks N s.words) (sym ed.1) k.copied;
        roles = λ j u e. ⊎_elim
            (λ (q : get_elem? (set s.views id (editor_part v)) j ≡ some u). ⊎_elim
            (λ (a : (j ≡ id) × (editor_part v ≡ u)). subst (λ (x : ℕ × View F). HasRole id (length s.views) v.links v.editing p x.0 x.1) (λ i. (sym a.0 i, a.1 i)) (record { as_editor = λ _. (refl, refl, refl); as_pass = λ b. lost (sym b) }))
            (λ (a : (j ≢ id) × (get_elem? s.views j ≡ some u)). let old = k.roles j u a.1 in record { as_editor = λ y. absurd (a.0 ((old.as_editor y).0 ∙ sym ed.0)); as_pass = λ y. absurd (a.0 ((old.as_pass y).0 ∙ sym pa.0)) })
            (at_set s.views id j (editor_part v) u q))
            (λ (q : (j ≡ length (set s.views id (editor_part v))) × (pass_part v ≡ u)). subst (λ (x : ℕ × View F). HasRole id (length s.views) v.links v.editing p x.0 x.1) (λ i. (sym (q.0 ∙ length-set s.views id (editor_part v)) i, q.1 i)) (record { as_editor = λ b. lost (sym b); as_pass = λ _. (refl, refl) }))
            (at_end (set s.views id (editor_part v)) (pass_part v) u j e);
      }

  pub joins : (N id other : ℕ) (v u : View F) → v.is_editor ≡ true → u.reads ≡ true → Joins (TableInvariant N) id v other u (joined v u) spent_view
  joins N id other v u edits reads s k here apart there =
      let mine = k.roles id v here in
      let ed = mine.as_editor edits in
      let u_at : get_elem? s.views other ≡ some u = sym (set_else s.views id other (joined v u) apart) ∙ there in
      let theirs = k.roles other u u_at in
      let pa = theirs.as_pass reads in
      let q = joined v u in
      record {
        words = k.words;
        slots = k.slots;
        editor = id;
        pass = id;
        links = k.links;
        editing = k.editing;
        reading = k.reading;
        invariant = k.invariant;
        copied = k.copied;
        roles = λ j x e. ⊎_elim
            (λ (a : (j ≡ other) × (spent_view ≡ x)). subst (HasRole id id k.links k.editing k.reading j) a.1 (record { as_editor = λ b. lost (sym b); as_pass = λ b. lost (sym b) }))
            (λ (a : (j ≢ other) × (get_elem? (set s.views id q) j ≡ some x)). ⊎_elim
            (λ (b : (j ≡ id) × (q ≡ x)). subst (λ (y : ℕ × View F). HasRole id id k.links k.editing k.reading y.0 y.1) (λ i. (sym b.0 i, b.1 i)) (record { as_editor = λ _. (refl, ed.1, ed.2); as_pass = λ _. (refl, pa.1) }))
            (λ (b : (j ≢ id) × (get_elem? s.views j ≡ some x)). let old = k.roles j x b.1 in record { as_editor = λ y. absurd (b.0 ((old.as_editor y).0 ∙ sym ed.0)); as_pass = λ y. absurd (a.0 ((old.as_pass y).0 ∙ sym pa.0)) })
            (at_set s.views id j q x a.1))
            (at_set (set s.views id q) other j spent_view x e);
      }

  pub learns : (N id i : ℕ) (me : Me (Option F) (View F)) → me.0.is_editor ≡ true → me.0.reads ≡ true → Allows (TableInvariant N) N id me i (λ n. n) (Learnt (step N i 0 0 none) me)
  learns N id i me edits reads s k slots here fits =
      let mine = k.roles id me.0 here in
      let ed = mine.as_editor edits in
      let pa = mine.as_pass reads in
      let c : ListInvariant N (memory N s.words s.homes) me.0.editing me.0.reading = subst (λ (x : EditorState F × PassState F). ListInvariant N (memory N s.words s.homes) x.0 x.1) (λ j. (sym ed.2 j, sym pa.1 j)) k.invariant in (
        me.0,
        keeps,
        tt,
        subst (λ (x : List ℕ × List (View F)). TableInvariant N record { words = x.0; homes = s.homes; views = x.1 }) (λ j. (sym (set-get_or s.words i 0) j, sym (set_again s.views id me.0 here) j)) k,
        (refl, c.past),
      )
