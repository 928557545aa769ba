-- The steps of the editor that change neither the history nor the chain keep the invariant.
use Rattle.std.proofs.Common.{◌≡◌, ◌≢◌, ℕ, ◌+◌, ◌≤◌, ◌<◌, true, false, cond, ◌||◌, ◌==◌, length, refl, sym, ap, ◌∙◌, subst, arith, Option, Some, None, is_some}
use Rattle.std.proofs.lemmas.Bool.{eq-eqb, ne_eqb, eqb-true, or_from, or_parts}
use mathlib.Core.Option.{some, none}
use Rattle.bus_list.specs.declared.view.Phase.{Phase}
use Rattle.bus_list.specs.declared.view.Phase.TheVariants.{Idle, Linked, Filling, Filled, FlagSet, Unlinked, Quiescent, Unreferenced, Emptying, Emptied}
use Rattle.bus_list.specs.declared.view.EditorState.{EditorState}
use Rattle.bus_list.specs.declared.view.PassState.{PassState}
use Rattle.bus_list.specs.Visits.{has, attached_feed}
use Rattle.bus_list.specs.Invariant.{Memory, ListInvariant, InChainOrRetired, IsDetached, PhaseFacts, Path, cell_of, stored_feed, lag, half_attached, retired, with_editor, never_aimed, never_held, position, bit, updated}
use Rattle.bus_list.specs.Transitions.{at}
use Rattle.bus_list.proofs.Chains.{same, cases, bool_cases, updated_else, updated_here, path_updated}
use Rattle.bus_list.proofs.Phases.{lost, detached_not}
use Rattle.bus_list.proofs.LoadLink.{position_held, position_aim}
use Rattle.bus_list.proofs.AcrossEdits.{not_grown, visit_same, pass_invariant_over, borrowed_at}

module _ {F : Type 0} where
  -- A step that changes the phase, and maybe the count, a link outside of the chain, and a cell.
  pub rephase : (N : ℕ) (t : Memory F) (w : EditorState F) (p : PassState F) (ph ph' : Phase F) (edits : ℕ) (link : ℕ → ℕ) (cell : ℕ → mathlib.Core.Option.Option (mathlib.Core.Option.Option (Option F))) → ListInvariant N t (at ph w) p
      → (edits + lag ph' ≡ length w.history)
      → t.edits ≤ edits
      → Path N link (link N) w.chain
      → ((b : ℕ) → half_attached ph' b ≡ half_attached ph b)
      → PhaseFacts N link (at ph' w) ph'
      → ((b : ℕ) → b < N → cell b ≡ some (cell_of (at ph' w) p b))
      → ((y : ℕ) → y ≢ N → InChainOrRetired N (at ph w) y → stored_feed ph' y (attached_feed w.history y) ≡ stored_feed ph y (attached_feed w.history y))
      → (InChainOrRetired N (at ph w) p.held → InChainOrRetired N (at ph' w) p.held) → (InChainOrRetired N (at ph w) p.previous → InChainOrRetired N (at ph' w) p.previous) → (InChainOrRetired N (at ph w) p.aim → InChainOrRetired N (at ph' w) p.aim)
      → (never_aimed ph' p.aim ≡ false) → (never_held ph' p.held ≡ false) → (never_held ph' p.previous ≡ false)
      → (retired ph (position N p) ≡ true → (retired ph' (position N p) ≡ true) × (link (position N p) ≡ t.link (position N p)))
      → ListInvariant N (record t { edits = edits; link = link; cell = cell }) (at ph' w) p
  rephase N t w p ph ph' edits link cell k count more path half_attached_same phase_facts cells feeds held old aim aim_free held_free old_free stays = record {
    chain_invariant = record {
      count = count;
      flags = k.chain_invariant.flags;
      path = path;
      apart = k.chain_invariant.apart;
      inside = k.chain_invariant.inside;
      members = λ b bl. k.chain_invariant.members b bl ∙ (λ i. is_some (attached_feed w.history b) || sym (half_attached_same b) i);
      named = k.chain_invariant.named;
      phase_facts = phase_facts;
    };
    steps = k.steps;
    references = k.references;
    cells = cells;
    pass_invariant = pass_invariant_over N (at ph w) (at ph' w) p k.pass_invariant feeds held old aim aim_free held_free old_free;
    open_visit = λ e. visit_same N t.link link (at ph w) (at ph' w) p (not_grown (at ph w) (at ph' w) refl) refl stays (λ n. feeds p.held n k.pass_invariant.held_at) (k.open_visit e);
    no_visit = k.no_visit;
    past = k.past;
    last_count = let s = k.last_count in omega arith;
  }

  -- A bus that is detached and not unlinked by the detach under way is not where the pass is.
  pub not_reached : (N : ℕ) (t : Memory F) (w : EditorState F) (p : PassState F) (ph : Phase F) (c y : ℕ) → ListInvariant N t (at ph w) p → IsDetached N w c → half_attached ph c ≡ false → retired ph c ≡ false → y ≢ N → InChainOrRetired N (at ph w) y → y ≢ c
  not_reached N t w p ph c y k off ex li n pl e =
      let a : (has c w.chain || retired ph c) ≡ true = subst (λ z. (has z w.chain || retired ph z) ≡ true) e (pl n).1 in
      let b : has c w.chain ≡ false = k.chain_invariant.members c off.0 ∙ or_from (is_some (attached_feed w.history c)) (half_attached ph c) (detached_not N w c c refl off) ex in
      lost (sym a ∙ or_from (has c w.chain) (retired ph c) b li)

  pub borrowed_else : (N : ℕ) (t : Memory F) (w : EditorState F) (p : PassState F) (ph : Phase F) (c : ℕ) → ListInvariant N t (at ph w) p → IsDetached N w c → half_attached ph c ≡ false → retired ph c ≡ false → (c == p.borrowed) ≡ false
  borrowed_else N t w p ph c k off ex li = ne_eqb c p.borrowed (λ e. cases p.borrowed N
      (λ (q : p.borrowed ≡ N). let a = off.0 in absurd (omega arith))
      (λ (q : p.borrowed ≢ N). not_reached N t w p ph c p.borrowed k off ex li q (borrowed_at N (at ph w) p k.pass_invariant q) (sym e)))

  -- The editor stores the bus's own link.
  pub stores_own_link : (N : ℕ) (t : Memory F) (w : EditorState F) (p : PassState F) (c : ℕ) → IsDetached N w c → ListInvariant N t (at Idle w) p → ListInvariant N (record t { link = updated t.link c (t.link N) }) (at (Linked c) w) p
  stores_own_link N t w p c off k =
      let cN : N ≢ c = λ e. let a = off.0 in absurd (omega arith) in
      let borrowed : has c w.chain ≡ false = k.chain_invariant.members c off.0 ∙ or_from (is_some (attached_feed w.history c)) false (detached_not N w c c refl off) refl in
      let start = updated_else t.link c (t.link N) N cN in
      rephase N t w p Idle (Linked c) t.edits (updated t.link c (t.link N)) t.cell k
      k.chain_invariant.count (omega arith)
      (subst (λ a. Path N (updated t.link c (t.link N)) a w.chain) (sym start) (path_updated N t.link (t.link N) w.chain c (t.link N) borrowed k.chain_invariant.path))
      (λ b. refl)
      (off, updated_here t.link c (t.link N) c refl ∙ sym start)
      k.cells (λ y n pl. refl) (λ a. a) (λ a. a) (λ a. a) refl refl refl (λ l. lost (sym l))

  -- The cell of a bus comes to the editor.
  cell_out : (N : ℕ) (t : Memory F) (w : EditorState F) (p : PassState F) (ph ph' : Phase F) (c : ℕ) → ListInvariant N t (at ph w) p → ((b : ℕ) → with_editor ph b ≡ false) → ((b : ℕ) → with_editor ph' b ≡ (b == c)) → ((b : ℕ) → b ≢ c → stored_feed ph' b (attached_feed w.history b) ≡ stored_feed ph b (attached_feed w.history b))
      → (b : ℕ) → b < N → updated t.cell c (some none) b ≡ some (cell_of (at ph' w) p b)
  cell_out N t w p ph ph' c k home gone feeds b bl = cases b c
      (λ (e : b ≡ c). updated_here t.cell c (some none) b e ∙ ap (λ (x : mathlib.Core.Option.Option (Option F)). some x)
      (sym (bool_cases (b == p.borrowed) (λ q. rw q refl) (λ q. rw q (rw (gone b ∙ eq-eqb b c e) refl)))))
      (λ (n : b ≢ c). updated_else t.cell c (some none) b n ∙ (k.cells b bl ∙ (λ i. some (cond (b == p.borrowed) none (cond ((home b ∙ sym (gone b ∙ ne_eqb b c n)) i) none (some (sym (feeds b n) i)))))))

  -- It goes back.
  cell_home : (N : ℕ) (t : Memory F) (w : EditorState F) (p : PassState F) (ph ph' : Phase F) (c : ℕ) (x : Option F) → ListInvariant N t (at ph w) p → (c == p.borrowed) ≡ false → ((b : ℕ) → with_editor ph b ≡ (b == c)) → ((b : ℕ) → with_editor ph' b ≡ false) → ((b : ℕ) → b ≢ c → stored_feed ph' b (attached_feed w.history b) ≡ stored_feed ph b (attached_feed w.history b)) → stored_feed ph' c (attached_feed w.history c) ≡ x
      → (b : ℕ) → b < N → updated t.cell c (some (some x)) b ≡ some (cell_of (at ph' w) p b)
  cell_home N t w p ph ph' c x k borrowed gone home feeds is b bl = cases b c
      (λ (e : b ≡ c). updated_here t.cell c (some (some x)) b e ∙ subst (λ z. some (some x) ≡ some (cond (z == p.borrowed) none (cond (with_editor ph' z) none (some (stored_feed ph' z (attached_feed w.history z)))))) (sym e)
      (rw borrowed (rw (home c) (ap (λ (y : Option F). some (some y)) (sym is)))))
      (λ (n : b ≢ c). updated_else t.cell c (some (some x)) b n ∙ (k.cells b bl ∙ (λ i. some (cond (b == p.borrowed) none (cond ((gone b ∙ (ne_eqb b c n ∙ sym (home b))) i) none (some (sym (feeds b n) i)))))))

  at_home : (N : ℕ) (t : Memory F) (w : EditorState F) (p : PassState F) (ph : Phase F) (c : ℕ) → ListInvariant N t (at ph w) p → c < N → (c == p.borrowed) ≡ false → with_editor ph c ≡ false → t.cell c ≡ some (some (stored_feed ph c (attached_feed w.history c)))
  at_home N t w p ph c k lt borrowed home = k.cells c lt ∙ ap (λ (x : mathlib.Core.Option.Option (Option F)). some x) (rw borrowed (rw home refl))

  -- The feed goes in: the cell comes to the editor, and goes back.
  pub opens_cell : (N : ℕ) (t : Memory F) (w : EditorState F) (p : PassState F) (c : ℕ) → ListInvariant N t (at (Linked c) w) p → (t.cell c ≡ some (some None)) × ListInvariant N (record t { cell = updated t.cell c (some none) }) (at (Filling c) w) p
  opens_cell N t w p c k =
      let d = k.chain_invariant.phase_facts in (
        at_home N t w p (Linked c) c k d.0.0 (borrowed_else N t w p (Linked c) c k d.0 refl refl) refl ∙ ap (λ (o : Option F). some (some o)) d.0.1,
        rephase N t w p (Linked c) (Filling c) t.edits t.link (updated t.cell c (some none)) k k.chain_invariant.count (omega arith) k.chain_invariant.path (λ b. refl) d
            (cell_out N t w p (Linked c) (Filling c) c k (λ b. refl) (λ b. refl) (λ b n. refl))
            (λ y n pl. refl) (λ a. a) (λ a. a) (λ a. a) refl refl refl (λ l. lost (sym l)),
      )

  pub fills_cell : (N : ℕ) (t : Memory F) (w : EditorState F) (p : PassState F) (c : ℕ) (f : F) → ListInvariant N t (at (Filling c) w) p → ListInvariant N (record t { cell = updated t.cell c (some (some (Some f))) }) (at (Filled c (Some f)) w) p
  fills_cell N t w p c f k =
      let d = k.chain_invariant.phase_facts in
      rephase N t w p (Filling c) (Filled c (Some f)) t.edits t.link (updated t.cell c (some (some (Some f)))) k k.chain_invariant.count (omega arith) k.chain_invariant.path (λ b. refl) (d.0, d.1, refl)
      (cell_home N t w p (Filling c) (Filled c (Some f)) c (Some f) k (borrowed_else N t w p (Filling c) c k d.0 refl refl) (λ b. refl) (λ b. refl) (λ b n. rw (ne_eqb b c n) refl) (rw (same c) refl))
      (λ y n pl. rw (ne_eqb y c (not_reached N t w p (Filling c) c y k d.0 refl refl n pl)) refl) (λ a. a) (λ a. a) (λ a. a) refl refl refl (λ l. lost (sym l))

  -- The editor stores the count of edits, at the end of an attach and of a detach.
  pub counts_on : (N : ℕ) (t : Memory F) (w : EditorState F) (p : PassState F) (c : ℕ) → ListInvariant N t (at (FlagSet c) w) p → ListInvariant N (record t { edits = t.edits + 1 }) (at Idle w) p
  counts_on N t w p c k =
      rephase N t w p (FlagSet c) Idle (t.edits + 1) t.link t.cell k (let n = k.chain_invariant.count in omega arith) (omega arith) k.chain_invariant.path (λ b. refl) tt k.cells
      (λ y n pl. refl) (λ a. a) (λ a. a) (λ a. a) refl refl refl (λ l. lost (sym l))

  pub counts_off : (N : ℕ) (t : Memory F) (w : EditorState F) (p : PassState F) (c : ℕ) → ListInvariant N t (at (Emptied c) w) p → ListInvariant N (record t { edits = t.edits + 1 }) (at Idle w) p
  counts_off N t w p c k =
      rephase N t w p (Emptied c) Idle (t.edits + 1) t.link t.cell k (let n = k.chain_invariant.count in omega arith) (omega arith) k.chain_invariant.path (λ b. refl) tt k.cells
      (λ y n pl. refl) (λ a. a) (λ a. a) (λ a. a) refl refl refl (λ l. lost (sym l))

  -- The editor loads the step counter and finds 0.
  pub finds_no_step : (N : ℕ) (t : Memory F) (w : EditorState F) (p : PassState F) (c : ℕ) (x : Option F) → t.steps ≡ 0 → ListInvariant N t (at (Unlinked c x) w) p → ListInvariant N t (at (Quiescent c x) w) p
  finds_no_step N t w p c x zero k =
      let d = k.chain_invariant.phase_facts in
      let idle : p.stepping ≡ false = bool_cases p.stepping (λ (e : p.stepping ≡ true). let q : t.steps ≡ 1 = k.steps ∙ ap bit e in absurd (omega arith)) (λ e. e) in
      let aim : p.aim ≡ N = cases p.aim N (λ e. e) (λ n. lost (sym (k.pass_invariant.aims n).0 ∙ idle)) in
      rephase N t w p (Unlinked c x) (Quiescent c x) t.edits t.link t.cell k k.chain_invariant.count (omega arith) k.chain_invariant.path (λ b. refl) d k.cells
      (λ y n pl. refl) (λ a. a) (λ a. a) (λ a. a) (ne_eqb p.aim c (λ e. let a = d.0.0 in absurd (omega arith))) refl refl (λ l. (l, refl))

  -- The editor loads the reference count and finds 0.
  pub finds_no_reference : (N : ℕ) (t : Memory F) (w : EditorState F) (p : PassState F) (c : ℕ) (x : Option F) → t.references c ≡ 0 → ListInvariant N t (at (Quiescent c x) w) p → ListInvariant N t (at (Unreferenced c x) w) p
  finds_no_reference N t w p c x zero k =
      let d = k.chain_invariant.phase_facts in
      let none : ((c == p.held) || (c == p.previous)) ≡ false = bool_cases ((c == p.held) || (c == p.previous)) (λ (e : ((c == p.held) || (c == p.previous)) ≡ true). let q : t.references c ≡ 1 = k.references c d.0.0 ∙ ap bit e in absurd (omega arith)) (λ e. e) in
      let parts = or_parts (c == p.held) (c == p.previous) none in
      let held : p.held ≢ c = λ e. lost (sym (eq-eqb c p.held (sym e)) ∙ parts.0) in
      let old : p.previous ≢ c = λ e. lost (sym (eq-eqb c p.previous (sym e)) ∙ parts.1) in
      let aim : p.aim ≢ c = λ e. lost (sym (eq-eqb p.aim c e) ∙ k.pass_invariant.aim_free) in
      rephase N t w p (Quiescent c x) (Unreferenced c x) t.edits t.link t.cell k k.chain_invariant.count (omega arith) k.chain_invariant.path (λ b. refl) d k.cells
      (λ y n pl. refl) (leaves p.held held) (leaves p.previous old) (leaves p.aim aim) k.pass_invariant.aim_free (ne_eqb p.held c held) (ne_eqb p.previous c old)
      (λ l. absurd (position_not held aim (eqb-true (position N p) c l)))
    where
      leaves : (y : ℕ) → y ≢ c → InChainOrRetired N (at (Quiescent c x) w) y → InChainOrRetired N (at (Unreferenced c x) w) y
      leaves y n pl m = let a = pl m in (a.0, (λ i. has y w.chain || sym (ne_eqb y c n) i) ∙ a.1)

      position_not : p.held ≢ c → p.aim ≢ c → position N p ≢ c
      position_not held aim e = cases p.aim N
          (λ (q : p.aim ≡ N). held (sym (position_held N p q) ∙ e))
          (λ (q : p.aim ≢ N). aim (sym (position_aim N p q) ∙ e))

  -- The feed comes out: the cell comes to the editor, and goes back.
  pub takes_cell : (N : ℕ) (t : Memory F) (w : EditorState F) (p : PassState F) (c : ℕ) (x : Option F) → ListInvariant N t (at (Unreferenced c x) w) p → (t.cell c ≡ some (some x)) × ListInvariant N (record t { cell = updated t.cell c (some none) }) (at (Emptying c) w) p
  takes_cell N t w p c x k =
      let d = k.chain_invariant.phase_facts in (
        at_home N t w p (Unreferenced c x) c k d.0.0 (borrowed_else N t w p (Unreferenced c x) c k d.0 refl refl) refl ∙ ap (λ (o : Option F). some (some o)) (rw (same c) refl),
        rephase N t w p (Unreferenced c x) (Emptying c) t.edits t.link (updated t.cell c (some none)) k k.chain_invariant.count (omega arith) k.chain_invariant.path (λ b. refl) (d.0, d.1)
            (cell_out N t w p (Unreferenced c x) (Emptying c) c k (λ b. refl) (λ b. refl) (λ b n. rw (ne_eqb b c n) refl))
            (λ y n pl. rw (ne_eqb y c (not_reached N t w p (Unreferenced c x) c y k d.0 refl refl n pl)) refl) (λ a. a) (λ a. a) (λ a. a) k.pass_invariant.aim_free k.pass_invariant.held_free k.pass_invariant.old_free (λ l. lost (sym l)),
      )

  pub empties_cell : (N : ℕ) (t : Memory F) (w : EditorState F) (p : PassState F) (c : ℕ) → ListInvariant N t (at (Emptying c) w) p → ListInvariant N (record t { cell = updated t.cell c (some (some None)) }) (at (Emptied c) w) p
  empties_cell N t w p c k =
      let d = k.chain_invariant.phase_facts in
      rephase N t w p (Emptying c) (Emptied c) t.edits t.link (updated t.cell c (some (some None))) k k.chain_invariant.count (omega arith) k.chain_invariant.path (λ b. refl) d
      (cell_home N t w p (Emptying c) (Emptied c) c None k (borrowed_else N t w p (Emptying c) c k d.0 refl refl) (λ b. refl) (λ b. refl) (λ b n. refl) d.0.1)
      (λ y n pl. refl) (λ a. a) (λ a. a) (λ a. a) k.pass_invariant.aim_free k.pass_invariant.held_free k.pass_invariant.old_free (λ l. lost (sym l))
