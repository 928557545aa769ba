-- The pass loads the link of the bus that it stands on.
use Rattle.std.proofs.Common.{◌≡◌, ◌≢◌, ℕ, ◌≤◌, ◌<◌, true, false, ◌||◌, ◌==◌, List, [], ◌∷◌, ◌++◌, refl, sym, ap, ◌∙◌, subst, inl, inr, ⊎_elim, arith, append_assoc}
use Rattle.std.proofs.lemmas.Bool.{eq-eqb, ne_eqb, or_left, or_right}
use Rattle.std.proofs.Math.Bool.{or_comm}
use Rattle.bus_list.specs.declared.view.FlagState.TheVariants.{NotLoaded, Settled}
use Rattle.bus_list.specs.declared.view.EditorState.{EditorState}
use Rattle.bus_list.specs.declared.view.PassState.{PassState}
use Rattle.bus_list.specs.Visits.{has, Distinct, buses_of}
use Rattle.bus_list.specs.Invariant.{Memory, ListInvariant, VisitInvariant, TailFrom, Path, retired, position, first_of, bit}
use Rattle.bus_list.specs.Transitions.{aimed, at_end, link_loaded}
use Rattle.bus_list.proofs.Chains.{cases, bool_cases, has_append, has_head, has_cons, distinct_middle, path_at, last_of_append, each_has}
use Rattle.bus_list.proofs.Phases.{lost, not_settled, never_aimed_end, never_held_of, chain_free}

module _ {F : Type 0} where
  -- What the pass stands on leads to what the tail begins with.
  pub leads_on : (N : ℕ) (link : ℕ → ℕ) (w : EditorState F) (x : ℕ) (tail : List ℕ) → Path N link (link N) w.chain → TailFrom N link w x tail → link x ≡ first_of N tail
  leads_on N link w x tail path f = ⊎_elim
      (λ e. ap link (sym e) ∙ path_at N link N f.pre tail (subst (λ c. Path N link (link N) c) f.chain path))
      (λ l. l.1)
      f.at

  pub position_held : (N : ℕ) (p : PassState F) → p.aim ≡ N → position N p ≡ p.held
  position_held N p e = rw (eq-eqb p.aim N e) refl

  pub position_aim : (N : ℕ) (p : PassState F) → p.aim ≢ N → position N p ≡ p.aim
  position_aim N p n = rw (ne_eqb p.aim N n) refl

  module _ (N : ℕ) (t : Memory F) (w : EditorState F) (p : PassState F) (k : ListInvariant N t w p) (steps : p.stepping ≡ true) (opened : p.opened ≡ true) (ended : p.ended ≡ false) (aim : p.aim ≡ N) (old : p.previous ≡ N) (flag_state : p.flag_state ≡ Settled) where
    finds_bus : (n : ℕ) (tail : List ℕ) (o : VisitInvariant N t.link w p) → o.tail ≡ n ∷ tail → ListInvariant N t w (aimed n p)
    finds_bus n tail o is =
        let f = subst (λ x. TailFrom N t.link w x (n ∷ tail)) (position_held N p aim) (subst (λ l. TailFrom N t.link w (position N p) l) is (o.place ended)) in
        let there : has n w.chain ≡ true = ap (has n) f.chain ∙ (has_append n f.pre (n ∷ tail) ∙ or_right (has n f.pre) (has n (n ∷ tail)) (has_head n tail)) in
        let lt : n < N = each_has (λ b. b < N) w.chain n k.chain_invariant.inside there in
        let apart = distinct_middle f.pre tail n (subst Distinct f.chain k.chain_invariant.apart) in
        let nN : n ≢ N = λ e. absurd (omega arith) in
        let was_new : has n p.walked ≡ false = o.fresh n (ap (has n) is ∙ has_head n tail) in
        record {
          chain_invariant = k.chain_invariant;
          steps = k.steps;
          references = k.references;
          cells = k.cells;
          pass_invariant = record {
            aims = λ _. (steps, flag_state);
            differ = k.pass_invariant.differ;
            carries = k.pass_invariant.carries;
            borrowed_feed = k.pass_invariant.borrowed_feed;
            held_at = k.pass_invariant.held_at;
            old_at = k.pass_invariant.old_at;
            aim_at = λ _. (lt, or_left (has n w.chain) (retired w.phase n) there);
            aim_free = chain_free N t w p k n lt there;
            held_free = k.pass_invariant.held_free;
            old_free = k.pass_invariant.old_free;
          };
          open_visit = λ _. record {
            tail = tail;
            place = λ _. record {
              pre = f.pre ++ n ∷ [];
              chain = f.chain ∙ rw append_assoc;
              at = inl (last_of_append N f.pre (n ∷ []) ∙ sym (position_aim N (aimed n p) nN));
            };
            done = λ e. lost (sym e ∙ ended);
            fresh = λ b h. o.fresh b (ap (has b) is ∙ bool_cases (b == n) (λ e. rw e refl) (λ e. rw e h));
            aim_new = λ _. (was_new, apart.1);
            begun = o.begun;
            held_walked = o.held_walked;
            old_walked = o.old_walked;
            reach = λ b bl ever. ⊎_elim
                (λ (e : b ≡ p.aim). let e' = e ∙ aim in absurd (omega arith))
                (λ (r : (has b p.walked || has b o.tail) ≡ true). cases b n
                (λ (e : b ≡ n). inl e)
                (λ (e : b ≢ n). inr ((λ i. has b p.walked || sym (ap (has b) is ∙ has_cons b n tail e) i) ∙ r)))
                (o.reach b bl ever);
            gave = o.gave;
            given_walked = o.given_walked;
            given_apart = o.given_apart;
            given_once = o.given_once;
            held_not_given = o.held_not_given;
            seen_last = o.seen_last;
          };
          no_visit = λ e. lost (sym opened ∙ e);
          past = k.past;
          last_count = k.last_count;
        }

    settled : {P : Type 0} → p.flag_state ≡ NotLoaded → P
    settled e = not_settled p.flag_state e flag_state

    finds_end : (o : VisitInvariant N t.link w p) → o.tail ≡ [] → ListInvariant N t w (at_end N p)
    finds_end o is = record {
      chain_invariant = k.chain_invariant;
      steps = k.steps;
      references = λ b bl. k.references b bl ∙ (ap (λ (x : ℕ). bit ((b == p.held) || (b == x))) old ∙ ap bit (or_comm (b == p.held) (b == N)));
      cells = k.cells;
      pass_invariant = record {
        aims = k.pass_invariant.aims;
        differ = λ n. absurd (n refl);
        carries = λ n. ⊎_elim
            (λ (a : (p.borrowed ≡ p.held) × (p.flag_state ≡ Settled)). inr a.0)
            (λ (a : p.borrowed ≡ p.previous). absurd (n (a ∙ old)))
            (k.pass_invariant.carries n);
        borrowed_feed = k.pass_invariant.borrowed_feed;
        held_at = λ n. absurd (n refl);
        old_at = k.pass_invariant.held_at;
        aim_at = k.pass_invariant.aim_at;
        aim_free = k.pass_invariant.aim_free;
        held_free = never_held_of w.phase N (never_aimed_end N t.link w w.phase k.chain_invariant.phase_facts);
        old_free = k.pass_invariant.held_free;
      };
      open_visit = λ _. record {
        tail = [];
        place = λ e. lost e;
        done = λ _. (refl, refl, aim);
        fresh = λ b h. lost (sym h);
        aim_new = λ n. absurd (n aim);
        begun = λ e. lost e;
        held_walked = λ n. absurd (n refl);
        old_walked = o.held_walked;
        reach = λ b bl ever. ⊎_elim
            (λ (e : b ≡ p.aim). inl e)
            (λ (r : (has b p.walked || has b o.tail) ≡ true). inr ((λ i. has b p.walked || sym (ap (has b) is) i) ∙ r))
            (o.reach b bl ever);
        gave = λ b bl ever h. ⊎_elim
            (λ (g : has b (buses_of p.given) ≡ true). inl g)
            (λ (g : (b ≡ p.held) × (p.flag_state ≡ NotLoaded)). settled g.1)
            (o.gave b bl ever h);
        given_walked = o.given_walked;
        given_apart = o.given_apart;
        given_once = o.given_once;
        held_not_given = λ n. absurd (n refl);
        seen_last = λ n. absurd (n refl);
      };
      no_visit = λ e. lost (sym opened ∙ e);
      past = k.past;
      last_count = k.last_count;
    }

    in_chain : (o : VisitInvariant N t.link w p) (x : ℕ) (l : List ℕ) → o.tail ≡ x ∷ l → x < N
    in_chain o x l is =
        let f = o.place ended in
        let there : has x w.chain ≡ true = ap (has x) (f.chain ∙ ap (λ r. f.pre ++ r) is) ∙ (has_append x f.pre (x ∷ l) ∙ or_right (has x f.pre) (has x (x ∷ l)) (has_head x l)) in
        each_has (λ b. b < N) w.chain x k.chain_invariant.inside there

    loads_by : (o : VisitInvariant N t.link w p) (l : List ℕ) → o.tail ≡ l → t.link p.held ≡ first_of N l → ListInvariant N t w (link_loaded N (t.link p.held) p) × (t.link p.held ≤ N)
    loads_by o [] is e = (rw (eq-eqb (t.link p.held) N e) (finds_end o is), omega arith)
    loads_by o (x ∷ l) is e =
        let c = finds_bus x l o is in
        let at = in_chain o x l is in
        let n : x ≢ N = λ q. absurd (omega arith) in
        (subst (λ n. ListInvariant N t w (link_loaded N n p)) (sym e) (rw (ne_eqb x N n) c), omega arith)

    pub loads_link : ListInvariant N t w (link_loaded N (t.link p.held) p) × (t.link p.held ≤ N)
    loads_link =
        let o = k.open_visit opened in
        loads_by o o.tail refl (leads_on N t.link w p.held o.tail k.chain_invariant.path (subst (λ x. TailFrom N t.link w x o.tail) (position_held N p aim) (o.place ended)))
