-- The editor stores the dummy's link.
use Rattle.std.proofs.Common.{◌≡◌, ◌≢◌, ◌⊎◌, ℕ, ◌<◌, Bool, true, false, ◌||◌, List, [], ◌∷◌, ◌++◌, refl, sym, ap, ◌∙◌, inl, inr, arith, Option, is_some}
use Rattle.std.proofs.lemmas.Bool.{eq-eqb, ne_eqb, or_right, false_from_ne_true}
use Rattle.bus_list.specs.declared.view.Phase.TheVariants.{Filled, Inserted}
use Rattle.bus_list.specs.declared.view.EditorState.{EditorState}
use Rattle.bus_list.specs.declared.view.PassState.{PassState}
use Rattle.bus_list.specs.Visits.{has, attached_feed}
use Rattle.bus_list.specs.Invariant.{Memory, ListInvariant, VisitInvariant, InChainOrRetired, position, first_of, last_of, updated}
use Rattle.bus_list.proofs.Chains.{cases, bool_cases, has_cons, path_front, each_has}
use Rattle.bus_list.proofs.Phases.{lost, detached_not}
use Rattle.bus_list.proofs.LoadLink.{position_held, position_aim}
use Rattle.bus_list.proofs.AcrossEdits.{not_grown, visit_over, pass_invariant_over}

module _ {F : Type 0} where
  abbrev pub filled : ℕ → Option F → EditorState F → EditorState F
  filled c x w = record w { phase = Filled c x }

  abbrev pub inserted : ℕ → Option F → EditorState F → EditorState F
  inserted c x w = record w { phase = Inserted c x; chain = c ∷ w.chain }

  module _ (N : ℕ) (t : Memory F) (w : EditorState F) (p : PassState F) (c : ℕ) (x : Option F) (k : ListInvariant N t (filled c x w) p) where
    borrowed : has c w.chain ≡ false
    borrowed = k.chain_invariant.members c k.chain_invariant.phase_facts.0.0 ∙ (λ i. detached_not N w c c refl k.chain_invariant.phase_facts.0 i || false)

    -- The pass is not at the new bus.
    elsewhere : (y : ℕ) → y ≢ N → InChainOrRetired N (filled c x w) y → y ≢ c
    elsewhere y n at e = lost (sym (or_right_false (has y w.chain) (at n).1) ∙ (ap (λ z. has z w.chain) e ∙ borrowed))
      where
        or_right_false : (a : Bool) → (a || false) ≡ true → a ≡ true
        or_right_false true h = refl
        or_right_false false h = h

    not_there : has N w.chain ≡ false
    not_there = false_from_ne_true (has N w.chain) (λ h. let a : N < N = each_has (λ b. b < N) w.chain N k.chain_invariant.inside h in omega arith)

    places : (y : ℕ) → InChainOrRetired N (filled c x w) y → InChainOrRetired N (inserted c x w) y
    places y at n = let a = at n in (a.0, (λ i. has_cons y c w.chain (elsewhere y n at) i || false) ∙ a.1)

    opens : (o : VisitInvariant N t.link (filled c x w) p) → VisitInvariant N (updated t.link N c) (inserted c x w) p
    opens o = bool_cases p.ended
        (λ (e : p.ended ≡ true). visit_over N t.link (updated t.link N c) (filled c x w) (inserted c x w) p o o.tail (not_grown (filled c x w) (inserted c x w) refl)
        (λ e'. lost (sym e ∙ e')) (λ e'. (o.done e').0) o.fresh (λ n. (o.aim_new n).1) (λ b bl ever h. h) (λ n. refl))
        (λ (e : p.ended ≡ false). going o e (o.place e).pre (o.place e).chain (o.place e).at)
      where
        front_tail : (o : VisitInvariant N t.link (filled c x w) p) → p.ended ≡ false → (pre : List ℕ) → w.chain ≡ pre ++ o.tail → N ≡ position N p → pre ≡ [] → VisitInvariant N (updated t.link N c) (inserted c x w) p
        front_tail o e pre chain at empty =
            let aim : p.aim ≡ N = cases p.aim N (λ q. q) (λ q. absurd (q (sym (at ∙ position_aim N p q)))) in
            let held : p.held ≡ N = sym (at ∙ position_held N p aim) in
            let none_walked = o.begun e held in
            visit_over N t.link (updated t.link N c) (filled c x w) (inserted c x w) p o (c ∷ o.tail) (not_grown (filled c x w) (inserted c x w) refl)
            (λ _. record { pre = []; chain = ap (λ l. c ∷ l) (chain ∙ ap (λ l. l ++ o.tail) empty); at = inl at })
            (λ e'. lost (sym e' ∙ e))
            (λ b h. ap (has b) none_walked)
            (λ n. absurd (n aim))
            (λ b bl ever h. cases b c (λ q. rw (eq-eqb b c q) refl) (λ q. has_cons b c o.tail q ∙ h))
            (λ n. refl)

        going : (o : VisitInvariant N t.link (filled c x w) p) → p.ended ≡ false → (pre : List ℕ) → w.chain ≡ pre ++ o.tail → ((last_of N pre ≡ position N p) ⊎ ((false ≡ true) × (t.link (position N p) ≡ first_of N o.tail))) → VisitInvariant N (updated t.link N c) (inserted c x w) p
        going o e [] chain (inl at) = front_tail o e [] chain at refl
        going o e (y ∷ pre) chain (inl at) =
            visit_over N t.link (updated t.link N c) (filled c x w) (inserted c x w) p o o.tail (not_grown (filled c x w) (inserted c x w) refl)
            (λ _. record { pre = c ∷ y ∷ pre; chain = ap (λ l. c ∷ l) chain; at = inl at })
            (λ e'. (o.done e').0) o.fresh (λ n. (o.aim_new n).1) (λ b bl ever h. h) (λ n. refl)
        going o e pre chain (inr q) = lost (sym q.0)

    pub stores_dummy_link : ListInvariant N (record t { link = updated t.link N c }) (inserted c x w) p
    stores_dummy_link =
        let d = k.chain_invariant.phase_facts in
        let off = d.0 in
        let cN : c ≢ N = λ e. let a = off.0 in absurd (omega arith) in
        record {
          chain_invariant = record {
            count = k.chain_invariant.count;
            flags = k.chain_invariant.flags;
            path = path_front N t.link w.chain c cN (has_cons N c w.chain (λ e. cN (sym e)) ∙ not_there) d.1 k.chain_invariant.path;
            apart = (borrowed, k.chain_invariant.apart);
            inside = (off.0, k.chain_invariant.inside);
            members = λ b bl. cases b c
                (λ (e : b ≡ c). rw (eq-eqb b c e) (sym (or_right (is_some (attached_feed w.history b)) true refl)))
                (λ (n : b ≢ c). rw (ne_eqb b c n) (k.chain_invariant.members b bl));
            named = k.chain_invariant.named;
            phase_facts = (off, d.2);
          };
          steps = k.steps;
          references = k.references;
          cells = k.cells;
          pass_invariant = pass_invariant_over N (filled c x w) (inserted c x w) p k.pass_invariant (λ y n at. refl) (places p.held) (places p.previous) (places p.aim) refl refl refl;
          open_visit = λ e. opens (k.open_visit e);
          no_visit = k.no_visit;
          past = k.past;
          last_count = k.last_count;
        }
