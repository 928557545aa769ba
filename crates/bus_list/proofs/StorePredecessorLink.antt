-- The editor stores the link of the predecessor.
use Rattle.std.proofs.Common.{◌≡◌, ◌≢◌, ℕ, ◌<◌, true, false, ◌||◌, ◌==◌, List, [], ◌∷◌, ◌++◌, refl, sym, ap, ◌∙◌, inl, inr, ⊎_elim, arith, Option, is_some, append_assoc}
use Rattle.std.proofs.lemmas.Bool.{eq-eqb, ne_eqb, or_cases, or_left, or_right, or_from, false_from_ne_true}
use Rattle.bus_list.specs.declared.view.Phase.TheVariants.{FlagCleared, Unlinked}
use Rattle.bus_list.specs.declared.view.EditorState.{EditorState}
use Rattle.bus_list.specs.declared.view.PassState.{PassState}
use Rattle.bus_list.specs.Visits.{has, attached_feed}
use Rattle.bus_list.specs.Invariant.{Memory, ListInvariant, VisitInvariant, TailFrom, InChainOrRetired, AttachedSinceBegin, position, first_of, last_of, updated}
use Rattle.bus_list.proofs.Chains.{cases, bool_cases, has_append, has_cut, has_more, not_less, last_not, distinct_middle, distinct_cut, each_cut, append_split, last_of_append, path_first, path_rest, path_unlink, each_has, updated_else}
use Rattle.bus_list.proofs.Phases.{lost, detached_not, ever_now}
use Rattle.bus_list.proofs.AcrossEdits.{not_grown, visit_over, pass_invariant_over}

module _ {F : Type 0} where
  abbrev pub flag_cleared : ℕ → Option F → List ℕ → EditorState F → EditorState F
  flag_cleared c x l w = record w { phase = FlagCleared c x; chain = l }

  abbrev pub unlinked : ℕ → Option F → List ℕ → EditorState F → EditorState F
  unlinked c x l w = record w { phase = Unlinked c x; chain = l }

  module _ (N : ℕ) (t : Memory F) (w : EditorState F) (p : PassState F) (c : ℕ) (x : Option F) (xs ys : List ℕ) (k : ListInvariant N t (flag_cleared c x (xs ++ c ∷ ys) w) p) where
    abbrev was : EditorState F
    was = flag_cleared c x (xs ++ c ∷ ys) w

    abbrev is : EditorState F
    is = unlinked c x (xs ++ ys) w

    abbrev link : ℕ → ℕ
    link = updated t.link (last_of N xs) (t.link c)

    parts : (has c xs ≡ false) × (has c ys ≡ false)
    parts = distinct_middle xs ys c k.chain_invariant.apart

    not_end : c ≢ N
    not_end e = let a = k.chain_invariant.phase_facts.0.0 in absurd (omega arith)

    not_there : has N (xs ++ c ∷ ys) ≡ false
    not_there = false_from_ne_true (has N (xs ++ c ∷ ys)) (λ h. let a : N < N = each_has (λ b. b < N) (xs ++ c ∷ ys) N k.chain_invariant.inside h in omega arith)

    leads : link c ≡ first_of N ys
    leads = updated_else t.link (last_of N xs) (t.link c) c (λ e. last_not N c xs (λ q. not_end (sym q)) parts.0 (sym e))
        ∙ path_first N t.link (t.link c) ys (path_rest N t.link (t.link N) xs ys c k.chain_invariant.path)

    gone : has c (xs ++ ys) ≡ false
    gone = has_append c xs ys ∙ or_from (has c xs) (has c ys) parts.0 parts.1

    places : (y : ℕ) → InChainOrRetired N was y → InChainOrRetired N is y
    places y at n = let a = at n in (
      a.0,
      cases y c
          (λ (e : y ≡ c). or_right (has y (xs ++ ys)) (y == c) (eq-eqb y c e))
          (λ (e : y ≢ c). ⊎_elim
          (λ (h : has y (xs ++ c ∷ ys) ≡ true). or_left (has y (xs ++ ys)) (y == c) (has_cut y xs ys c e ∙ h))
          (λ (h : false ≡ true). lost (sym h))
          (or_cases (has y (xs ++ c ∷ ys)) false a.1)),
    )

    -- The pass stands on the bus, or beyond it.
    beyond : (o : VisitInvariant N t.link was p) → p.ended ≡ false → (pre u : List ℕ) → last_of N pre ≡ position N p → pre ≡ xs ++ c ∷ u → ys ≡ u ++ o.tail → VisitInvariant N link is p
    beyond o e pre u at pre_is ys_is =
        visit_over N t.link link was is p o o.tail (not_grown was is refl)
        (λ _. place u (sym (last_of_append N xs (c ∷ u)) ∙ (ap (last_of N) (sym pre_is) ∙ at)) ys_is)
        (λ e'. (o.done e').0) o.fresh (λ n. (o.aim_new n).1) (λ b bl ever h. h) (λ n. refl)
      where
        place : (u : List ℕ) → last_of c u ≡ position N p → ys ≡ u ++ o.tail → TailFrom N link is (position N p) o.tail
        place [] at ys_is = record {
          pre = xs;
          chain = ap (λ l. xs ++ l) ys_is;
          at = inr (eq-eqb (position N p) c (sym at), ap link (sym at) ∙ (leads ∙ ap (first_of N) ys_is));
        }
        place (y ∷ u) at ys_is = record {
          pre = xs ++ y ∷ u;
          chain = ap (λ l. xs ++ l) ys_is ∙ rw append_assoc;
          at = inl (last_of_append N xs (y ∷ u) ∙ at);
        }

    -- The pass stands before the bus.
    before : (o : VisitInvariant N t.link was p) → p.ended ≡ false → (pre u : List ℕ) → last_of N pre ≡ position N p → o.tail ≡ u ++ c ∷ ys → xs ≡ pre ++ u → VisitInvariant N link is p
    before o e pre u at tail_is xs_is =
        visit_over N t.link link was is p o (u ++ ys) (not_grown was is refl)
        (λ _. record { pre = pre; chain = ap (λ l. l ++ ys) xs_is ∙ rw append_assoc refl; at = inl at })
        (λ e'. lost (sym e' ∙ e))
        (λ b h. o.fresh b (ap (has b) tail_is ∙ has_more b c u ys h))
        (λ n. not_less p.aim c u ys (sym (ap (has p.aim) tail_is) ∙ (o.aim_new n).1))
        (λ b bl ever h. has_cut b u ys c (not_it b ever) ∙ (sym (ap (has b) tail_is) ∙ h))
        (λ n. refl)
      where
        not_it : (b : ℕ) → AttachedSinceBegin is p b → b ≢ c
        not_it b ever q = lost (sym (ever_now was p b (let s = k.last_count in let n = k.chain_invariant.count in omega arith) ever) ∙ detached_not N w c b q k.chain_invariant.phase_facts.0)

    opens : (o : VisitInvariant N t.link was p) → VisitInvariant N link is p
    opens o = bool_cases p.ended
        (λ (e : p.ended ≡ true). visit_over N t.link link was is p o o.tail (not_grown was is refl)
        (λ e'. lost (sym e ∙ e')) (λ e'. (o.done e').0) o.fresh (λ n. (o.aim_new n).1) (λ b bl ever h. h) (λ n. refl))
        (λ (e : p.ended ≡ false). let f = o.place e in ⊎_elim
        (λ (at : last_of N f.pre ≡ position N p). ⊎_elim
        (λ (r : (u : List ℕ) × (f.pre ≡ xs ++ c ∷ u) × (ys ≡ u ++ o.tail)). beyond o e f.pre r.0 at r.1 r.2)
        (λ (r : (u : List ℕ) × (o.tail ≡ u ++ c ∷ ys) × (xs ≡ f.pre ++ u)). before o e f.pre r.0 at r.1 r.2)
        (append_split xs ys f.pre o.tail c f.chain))
        (λ (q : (false ≡ true) × (t.link (position N p) ≡ first_of N o.tail)). lost (sym q.0))
        f.at)

    pub stores_predecessor_link : ListInvariant N (record t { link = link }) is p
    stores_predecessor_link = record {
      chain_invariant = record {
        count = k.chain_invariant.count;
        flags = k.chain_invariant.flags;
        path = path_unlink N t.link xs ys c not_there k.chain_invariant.apart k.chain_invariant.path;
        apart = distinct_cut xs ys c k.chain_invariant.apart;
        inside = each_cut (λ b. b < N) xs ys c k.chain_invariant.inside;
        members = λ b bl. cases b c
            (λ (e : b ≡ c). ap (λ y. has y (xs ++ ys)) e ∙ (gone ∙ sym (or_from (is_some (attached_feed w.history b)) false (detached_not N w c b e k.chain_invariant.phase_facts.0) refl)))
            (λ (n : b ≢ c). has_cut b xs ys c n ∙ (k.chain_invariant.members b bl ∙ (λ i. is_some (attached_feed w.history b) || ne_eqb b c n i)));
        named = k.chain_invariant.named;
        phase_facts = (k.chain_invariant.phase_facts.0, (xs, ys, refl, leads), k.chain_invariant.phase_facts.1);
      };
      steps = k.steps;
      references = k.references;
      cells = k.cells;
      pass_invariant = pass_invariant_over N was is p k.pass_invariant (λ y n at. refl) (places p.held) (places p.previous) (places p.aim) refl refl refl;
      open_visit = λ e. opens (k.open_visit e);
      no_visit = k.no_visit;
      past = k.past;
      last_count = k.last_count;
    }
