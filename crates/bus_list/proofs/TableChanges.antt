-- Stores to words, and changes of views, from the invariant of the list to the rule of the table.
use Rattle.std.proofs.Common.{◌≡◌, ◌≢◌, ℕ, ◌+◌, ◌*◌, ◌≤◌, ◌<◌, true, cond, ◌==◌, List, length, get_or, set, refl, sym, ap, ◌∙◌, subst, ⊎_elim, arith, Option, length-set, get_or-set_same, get_or-set_other}
use Rattle.std.specs.Prelude.{slice_index}
use Rattle.std.proofs.lemmas.Bool.{eq-eqb, ne_eqb}
use mathlib.Core.Option.{some, none, some-injective, some-ne-none}
use lib.ListN.{get_elem?}
use Rattle.atomic_table.specs.Table.{State}
use Rattle.atomic_table.proofs.Lists.{at_set, set_here, set_else}
use Rattle.bus_list.specs.declared.view.EditorState.{EditorState}
use Rattle.bus_list.specs.declared.view.PassState.{PassState}
use Rattle.bus_list.specs.declared.view.View.{View}
use Rattle.bus_list.specs.declared.view.Note.{Note}
use Rattle.bus_list.specs.Invariant.{Memory, ListInvariant, updated}
use Rattle.bus_list.specs.Rule.{CopiesLinks, memory, HasRole, TableInvariant}
use Rattle.bus_list.proofs.Chains.{cases, updated_else}

-- A list after a write.
pub index_updated : (l : List ℕ) (i v j : ℕ) → i < length l → get_or (set l i v) j 0 ≡ cond (j == i) v (get_or l j 0)
index_updated l i v j lt = cases j i
    (λ (e : j ≡ i). rw (eq-eqb j i e) (ap (λ k. get_or (set l i v) k 0) e ∙ get_or-set_same l i v 0 lt))
    (λ (n : j ≢ i). rw (ne_eqb j i n) (get_or-set_other l i j v 0 n))

module _ {F : Type 0} where
  pub home_updated : (l : List F) (i : ℕ) (v : F) (j : ℕ) → i < length l → get_elem? (set l i v) j ≡ updated (λ b. get_elem? l b) i (some v) j
  home_updated l i v j lt = cases j i
      (λ (e : j ≡ i). rw (eq-eqb j i e) (ap (λ k. get_elem? (set l i v) k) e ∙ set_here l i v lt))
      (λ (n : j ≢ i). rw (ne_eqb j i n) (set_else l i j v n))

abbrev pub Homes : Type 0 → Type 0
Homes F = List (mathlib.Core.Option.Option (Option F))

far : (l : List ℕ) (i v j : ℕ) → j ≢ i → get_or (set l i v) j 0 ≡ get_or l j 0
far l i v j n = get_or-set_other l i j v 0 n

near : (l : List ℕ) (i v j : ℕ) → j ≡ i → i < length l → get_or (set l i v) j 0 ≡ v
near l i v j e lt = ap (λ k. get_or (set l i v) k 0) e ∙ get_or-set_same l i v 0 lt

-- A store to a word other than a link leaves the copy of the links.
pub copied_else : (N : ℕ) (ws links : List ℕ) (i v : ℕ) → ((b : ℕ) → b ≤ N → 3 * b ≢ i) → CopiesLinks N ws links → CopiesLinks N (set ws i v) links
copied_else N ws links i v n k = record { size = k.size; same = λ b le. far ws i v (3 * b) (n b le) ∙ k.same b le }

pub copied_link : (N : ℕ) (ws links : List ℕ) (c v : ℕ) → c ≤ N → length ws ≡ 3 * N + 3 → CopiesLinks N ws links → CopiesLinks N (set ws (3 * c) v) (set links c v)
copied_link N ws links c v cl size k = record {
  size = length-set links c v ∙ k.size;
  same = λ b le. cases b c
      (λ (e : b ≡ c). near ws (3 * c) v (3 * b) (omega arith) (omega arith) ∙ sym (near links c v b e (let z = k.size in omega arith)))
      (λ (n : b ≢ c). far ws (3 * c) v (3 * b) (λ e. n (omega arith)) ∙ (k.same b le ∙ sym (far links c v b n)));
}

module _ {F : Type 0} where
  -- A store to a word of each kind, and to a cell, as a change of the memory.
  pub memory_link : (N c v : ℕ) (ws : List ℕ) (hs : Homes F) → c ≤ N → length ws ≡ 3 * N + 3 → memory N (set ws (3 * c) v) hs ≡ record (memory N ws hs) { link = updated (memory N ws hs).link c v }
  memory_link N c v ws hs le size = λ i. record {
    edits = far ws (3 * c) v (3 * N + 1) (λ e. absurd (omega arith)) i;
    steps = far ws (3 * c) v (3 * N + 2) (λ e. absurd (omega arith)) i;
    link = λ b. link b i;
    flag = λ b. far ws (3 * c) v (3 * b + 1) (λ e. absurd (omega arith)) i;
    references = λ b. far ws (3 * c) v (3 * b + 2) (λ e. absurd (omega arith)) i;
    cell = λ b. get_elem? hs b;
  }
    where
      link : (b : ℕ) → get_or (set ws (3 * c) v) (3 * b) 0 ≡ updated (memory N ws hs).link c v b
      link b = cases b c
          (λ (e : b ≡ c). rw (eq-eqb b c e) (near ws (3 * c) v (3 * b) (omega arith) (omega arith)))
          (λ (n : b ≢ c). rw (ne_eqb b c n) (far ws (3 * c) v (3 * b) (λ e. n (omega arith))))

  pub memory_flag : (N c v : ℕ) (ws : List ℕ) (hs : Homes F) → c < N → length ws ≡ 3 * N + 3 → memory N (set ws (3 * c + 1) v) hs ≡ record (memory N ws hs) { flag = updated (memory N ws hs).flag c v }
  memory_flag N c v ws hs le size = λ i. record {
    edits = far ws (3 * c + 1) v (3 * N + 1) (λ e. absurd (omega arith)) i;
    steps = far ws (3 * c + 1) v (3 * N + 2) (λ e. absurd (omega arith)) i;
    link = λ b. far ws (3 * c + 1) v (3 * b) (λ e. absurd (omega arith)) i;
    flag = λ b. flag b i;
    references = λ b. far ws (3 * c + 1) v (3 * b + 2) (λ e. absurd (omega arith)) i;
    cell = λ b. get_elem? hs b;
  }
    where
      flag : (b : ℕ) → get_or (set ws (3 * c + 1) v) (3 * b + 1) 0 ≡ updated (memory N ws hs).flag c v b
      flag b = cases b c
          (λ (e : b ≡ c). rw (eq-eqb b c e) (near ws (3 * c + 1) v (3 * b + 1) (omega arith) (omega arith)))
          (λ (n : b ≢ c). rw (ne_eqb b c n) (far ws (3 * c + 1) v (3 * b + 1) (λ e. n (omega arith))))

  pub memory_references : (N c v : ℕ) (ws : List ℕ) (hs : Homes F) → c < N → length ws ≡ 3 * N + 3 → memory N (set ws (3 * c + 2) v) hs ≡ record (memory N ws hs) { references = updated (memory N ws hs).references c v }
  memory_references N c v ws hs le size = λ i. record {
    edits = far ws (3 * c + 2) v (3 * N + 1) (λ e. absurd (omega arith)) i;
    steps = far ws (3 * c + 2) v (3 * N + 2) (λ e. absurd (omega arith)) i;
    link = λ b. far ws (3 * c + 2) v (3 * b) (λ e. absurd (omega arith)) i;
    flag = λ b. far ws (3 * c + 2) v (3 * b + 1) (λ e. absurd (omega arith)) i;
    references = λ b. references b i;
    cell = λ b. get_elem? hs b;
  }
    where
      references : (b : ℕ) → get_or (set ws (3 * c + 2) v) (3 * b + 2) 0 ≡ updated (memory N ws hs).references c v b
      references b = cases b c
          (λ (e : b ≡ c). rw (eq-eqb b c e) (near ws (3 * c + 2) v (3 * b + 2) (omega arith) (omega arith)))
          (λ (n : b ≢ c). rw (ne_eqb b c n) (far ws (3 * c + 2) v (3 * b + 2) (λ e. n (omega arith))))

  -- The two counters lie where the dummy's flag and reference count would be, so `flag` and `references` change where no fact speaks of them.
  pub memory_edits : (N v : ℕ) (ws : List ℕ) (hs : Homes F) → length ws ≡ 3 * N + 3 → memory N (set ws (3 * N + 1) v) hs ≡ record (memory N ws hs) { edits = v; flag = updated (memory N ws hs).flag N v }
  memory_edits N v ws hs size = λ i. record {
    edits = near ws (3 * N + 1) v (3 * N + 1) refl (omega arith) i;
    steps = far ws (3 * N + 1) v (3 * N + 2) (λ e. absurd (omega arith)) i;
    link = λ b. far ws (3 * N + 1) v (3 * b) (λ e. absurd (omega arith)) i;
    flag = λ b. flag b i;
    references = λ b. far ws (3 * N + 1) v (3 * b + 2) (λ e. absurd (omega arith)) i;
    cell = λ b. get_elem? hs b;
  }
    where
      flag : (b : ℕ) → get_or (set ws (3 * N + 1) v) (3 * b + 1) 0 ≡ updated (memory N ws hs).flag N v b
      flag b = cases b N
          (λ (e : b ≡ N). rw (eq-eqb b N e) (near ws (3 * N + 1) v (3 * b + 1) (omega arith) (omega arith)))
          (λ (n : b ≢ N). rw (ne_eqb b N n) (far ws (3 * N + 1) v (3 * b + 1) (λ e. n (omega arith))))

  pub memory_steps : (N v : ℕ) (ws : List ℕ) (hs : Homes F) → length ws ≡ 3 * N + 3 → memory N (set ws (3 * N + 2) v) hs ≡ record (memory N ws hs) { steps = v; references = updated (memory N ws hs).references N v }
  memory_steps N v ws hs size = λ i. record {
    edits = far ws (3 * N + 2) v (3 * N + 1) (λ e. absurd (omega arith)) i;
    steps = near ws (3 * N + 2) v (3 * N + 2) refl (omega arith) i;
    link = λ b. far ws (3 * N + 2) v (3 * b) (λ e. absurd (omega arith)) i;
    flag = λ b. far ws (3 * N + 2) v (3 * b + 1) (λ e. absurd (omega arith)) i;
    references = λ b. references b i;
    cell = λ b. get_elem? hs b;
  }
    where
      references : (b : ℕ) → get_or (set ws (3 * N + 2) v) (3 * b + 2) 0 ≡ updated (memory N ws hs).references N v b
      references b = cases b N
          (λ (e : b ≡ N). rw (eq-eqb b N e) (near ws (3 * N + 2) v (3 * b + 2) (omega arith) (omega arith)))
          (λ (n : b ≢ N). rw (ne_eqb b N n) (far ws (3 * N + 2) v (3 * b + 2) (λ e. n (omega arith))))

  pub memory_cell : (N c : ℕ) (v : mathlib.Core.Option.Option (Option F)) (ws : List ℕ) (hs : Homes F) → c < length hs → memory N ws (set hs c v) ≡ record (memory N ws hs) { cell = updated (memory N ws hs).cell c (some v) }
  memory_cell N c v ws hs lt = λ i. record {
    edits = slice_index ws (3 * N + 1);
    steps = slice_index ws (3 * N + 2);
    link = λ b. slice_index ws (3 * b);
    flag = λ b. slice_index ws (3 * b + 1);
    references = λ b. slice_index ws (3 * b + 2);
    cell = λ b. home_updated hs c v b lt i;
  }

  -- No fact speaks of a flag or a reference count of the dummy.
  pub invariant_flag : (N : ℕ) (t : Memory F) (w : EditorState F) (p : PassState F) (v : ℕ) → ListInvariant N t w p → ListInvariant N (record t { flag = updated t.flag N v }) w p
  invariant_flag N t w p v k = record {
    chain_invariant = record {
      count = k.chain_invariant.count;
      flags = λ b bl. updated_else t.flag N v b (λ e. absurd (omega arith)) ∙ k.chain_invariant.flags b bl;
      path = k.chain_invariant.path;
      apart = k.chain_invariant.apart;
      inside = k.chain_invariant.inside;
      members = k.chain_invariant.members;
      named = k.chain_invariant.named;
      phase_facts = k.chain_invariant.phase_facts;
    };
    steps = k.steps;
    references = k.references;
    cells = k.cells;
    pass_invariant = k.pass_invariant;
    open_visit = k.open_visit;
    no_visit = k.no_visit;
    past = k.past;
    last_count = k.last_count;
  }

  pub invariant_references : (N : ℕ) (t : Memory F) (w : EditorState F) (p : PassState F) (v : ℕ) → ListInvariant N t w p → ListInvariant N (record t { references = updated t.references N v }) w p
  invariant_references N t w p v k = record {
    chain_invariant = k.chain_invariant;
    steps = k.steps;
    references = λ b bl. updated_else t.references N v b (λ e. absurd (omega arith)) ∙ k.references b bl;
    cells = k.cells;
    pass_invariant = k.pass_invariant;
    open_visit = k.open_visit;
    no_visit = k.no_visit;
    past = k.past;
    last_count = k.last_count;
  }

  -- The editor's part of a view changes.
  pub edits_on : (N : ℕ) (s : State (Option F) (View F)) (k : TableInvariant N s) (id : ℕ) (v : View F) → get_elem? s.views id ≡ some v → v.is_editor ≡ true
      → (ws : List ℕ) (hs : Homes F) (links : List ℕ) (w : EditorState F) (notes : List Note)
      → length ws ≡ 3 * N + 3 → length hs ≡ N → ListInvariant N (memory N ws hs) w k.reading → CopiesLinks N ws links
      → TableInvariant N record { words = ws; homes = hs; views = set s.views id (record v { links = links; editing = w; notes = notes }) }
  edits_on N s k id v here role ws hs links w notes size slots invariant copied =
      let mine = k.roles id v here in
      let me = (mine.as_editor role).0 in
      record {
        words = size;
        slots = slots;
        editor = k.editor;
        pass = k.pass;
        links = links;
        editing = w;
        reading = k.reading;
        invariant = invariant;
        copied = copied;
        roles = λ j u e. ⊎_elim
            (λ (a : (j ≡ id) × ((record v { links = links; editing = w; notes = notes }) ≡ u)). subst (λ (x : ℕ × View F). HasRole k.editor k.pass links w k.reading x.0 x.1) (λ i. (sym a.0 i, a.1 i)) (record { as_editor = λ _. (me, refl, refl); as_pass = mine.as_pass }))
            (λ (a : (j ≢ id) × (get_elem? s.views j ≡ some u)). let old = k.roles j u a.1 in record { as_editor = λ y. absurd (a.0 ((old.as_editor y).0 ∙ sym me)); as_pass = old.as_pass })
            (at_set s.views id j (record v { links = links; editing = w; notes = notes }) u e);
      }

  -- The pass's part of a view changes.
  pub walks_on : (N : ℕ) (s : State (Option F) (View F)) (k : TableInvariant N s) (id : ℕ) (v : View F) → get_elem? s.views id ≡ some v → v.reads ≡ true
      → (ws : List ℕ) (hs : Homes F) (p : PassState F) (notes : List Note)
      → length ws ≡ 3 * N + 3 → length hs ≡ N → ListInvariant N (memory N ws hs) k.editing p → CopiesLinks N ws k.links
      → TableInvariant N record { words = ws; homes = hs; views = set s.views id (record v { reading = p; notes = notes }) }
  walks_on N s k id v here role ws hs p notes size slots invariant copied =
      let mine = k.roles id v here in
      let me = (mine.as_pass role).0 in
      record {
        words = size;
        slots = slots;
        editor = k.editor;
        pass = k.pass;
        links = k.links;
        editing = k.editing;
        reading = p;
        invariant = invariant;
        copied = copied;
        roles = λ j u e. ⊎_elim
            (λ (a : (j ≡ id) × ((record v { reading = p; notes = notes }) ≡ u)). subst (λ (x : ℕ × View F). HasRole k.editor k.pass k.links k.editing p x.0 x.1) (λ i. (sym a.0 i, a.1 i)) (record { as_editor = mine.as_editor; as_pass = λ _. (me, refl) }))
            (λ (a : (j ≢ id) × (get_elem? s.views j ≡ some u)). let old = k.roles j u a.1 in record { as_editor = old.as_editor; as_pass = λ y. absurd (a.0 ((old.as_pass y).0 ∙ sym me)) })
            (at_set s.views id j (record v { reading = p; notes = notes }) u e);
      }
