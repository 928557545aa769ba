-- The steps of the pass from one bus to the next keep the invariant, and so does the begin of a visit. The load of a link has a file of its own.
use Rattle.std.proofs.Common.{◌≡◌, ◌≢◌, ℕ, ◌≤◌, ◌<◌, Bool, true, false, cond, ◌||◌, ◌==◌, [], ◌∷◌, ◌++◌, length, refl, sym, ap, ◌∙◌, subst, inl, inr, ⊎_elim, arith, Option, None, is_some}
use Rattle.std.proofs.lemmas.Bool.{eq-eqb, ne_eqb, or_left, or_right, or_from, or_cases, false_from_ne_true}
use Rattle.std.proofs.Math.Bool.{or_comm}
use mathlib.Core.Option.{some, none}
use Rattle.bus_list.specs.declared.view.FlagState.TheVariants.{NotLoaded, Settled}
use Rattle.bus_list.specs.declared.view.EditorState.{EditorState}
use Rattle.bus_list.specs.declared.view.PassState.{PassState}
use Rattle.bus_list.specs.Visits.{has, attached_feed, buses_of}
use Rattle.bus_list.specs.Invariant.{Memory, ListInvariant, VisitInvariant, TailFrom, feed_of, with_editor, bit, updated}
use Rattle.bus_list.specs.Transitions.{begun, step_entered, step_left, reference_added, feed_returned, reference_dropped}
use Rattle.bus_list.proofs.Visits.{lawful_later}
use Rattle.bus_list.proofs.Chains.{same, cases, bool_cases, updated_else, updated_here, has_append, has_snoc, has_end, has_snoc_cases, has_cons}
use Rattle.bus_list.proofs.Phases.{lost, not_settled, never_aimed_end, never_held_of, ever_now, not_with_editor}
use Rattle.bus_list.proofs.LoadLink.{position_held, position_aim}
use Rattle.bus_list.proofs.AcrossEdits.{borrowed_at}

module _ {F : Type 0} where
  -- An open visit over a step that changes the step counter or the cell that the pass has.
  visit_kept : (N : ℕ) (link : ℕ → ℕ) (w : EditorState F) (p : PassState F) (b : Bool) (borrowed : ℕ) (borrowed_feed : Option F) → VisitInvariant N link w p → VisitInvariant N link w (record p { stepping = b; borrowed = borrowed; borrowed_feed = borrowed_feed })
  visit_kept N link w p b borrowed borrowed_feed o = record {
    tail = o.tail;
    place = o.place;
    done = o.done;
    fresh = o.fresh;
    aim_new = o.aim_new;
    begun = o.begun;
    held_walked = o.held_walked;
    old_walked = o.old_walked;
    reach = o.reach;
    gave = o.gave;
    given_walked = o.given_walked;
    given_apart = o.given_apart;
    given_once = o.given_once;
    held_not_given = o.held_not_given;
    seen_last = o.seen_last;
  }

  -- The pass loads the count of edits, and a visit begins.

  pub begins_visit : (N : ℕ) (t : Memory F) (w : EditorState F) (p : PassState F) → ListInvariant N t w p → p.opened ≡ false → p.previous ≡ N → ListInvariant N t w (begun t.edits p)
  begins_visit N t w p k opened old =
      let shut = k.no_visit opened in
      let made : t.edits ≤ length w.history = let n = k.chain_invariant.count in omega arith in
      record {
        chain_invariant = k.chain_invariant;
        steps = k.steps;
        references = k.references;
        cells = k.cells;
        pass_invariant = record {
          aims = λ n. absurd (n shut.1);
          differ = k.pass_invariant.differ;
          carries = λ n. ⊎_elim (λ (a : (p.borrowed ≡ p.held) × (p.flag_state ≡ Settled)). inl (a.0, refl)) (λ (a : p.borrowed ≡ p.previous). inr a) (k.pass_invariant.carries n);
          borrowed_feed = k.pass_invariant.borrowed_feed;
          held_at = k.pass_invariant.held_at;
          old_at = k.pass_invariant.old_at;
          aim_at = k.pass_invariant.aim_at;
          aim_free = k.pass_invariant.aim_free;
          held_free = k.pass_invariant.held_free;
          old_free = k.pass_invariant.old_free;
        };
        open_visit = λ _. record {
          tail = w.chain;
          place = λ _. record { pre = []; chain = refl; at = inl (sym (position_held N (begun t.edits p) shut.1 ∙ shut.0)) };
          done = λ e. lost (sym e);
          fresh = λ b h. refl;
          aim_new = λ n. absurd (n shut.1);
          begun = λ _ _. refl;
          held_walked = λ n. absurd (n shut.0);
          old_walked = λ n. absurd (n old);
          reach = λ b bl ever. inr (k.chain_invariant.members b bl ∙ or_left (is_some (attached_feed w.history b)) _ (ever_now w (begun t.edits p) b made ever));
          gave = λ b bl ever h. lost (sym h);
          given_walked = λ b h. lost (sym h);
          given_apart = tt;
          given_once = tt;
          held_not_given = λ n. absurd (n shut.0);
          seen_last = λ n. absurd (n shut.0);
        };
        no_visit = λ e. lost e;
        past = lawful_later w.history p.start p.visits p.last_count t.edits k.last_count k.past;
        last_count = omega arith;
      }

  -- The pass adds to the step counter.

  pub enters_step : (N : ℕ) (t : Memory F) (w : EditorState F) (p : PassState F) → ListInvariant N t w p → p.stepping ≡ false → (t.steps ≡ 0) × ListInvariant N (record t { steps = 1 }) w (step_entered p)
  enters_step N t w p k off = (
    k.steps ∙ ap bit off,
    record {
      chain_invariant = k.chain_invariant;
      steps = refl;
      references = k.references;
      cells = k.cells;
      pass_invariant = record { aims = λ n. (refl, (k.pass_invariant.aims n).1); differ = k.pass_invariant.differ; carries = k.pass_invariant.carries; borrowed_feed = k.pass_invariant.borrowed_feed; held_at = k.pass_invariant.held_at; old_at = k.pass_invariant.old_at; aim_at = k.pass_invariant.aim_at; aim_free = k.pass_invariant.aim_free; held_free = k.pass_invariant.held_free; old_free = k.pass_invariant.old_free };
      open_visit = λ e. visit_kept N t.link w p true p.borrowed p.borrowed_feed (k.open_visit e);
      no_visit = k.no_visit;
      past = k.past;
      last_count = k.last_count;
    },
  )

  -- The pass subtracts from the step counter.

  pub leaves_step : (N : ℕ) (t : Memory F) (w : EditorState F) (p : PassState F) → ListInvariant N t w p → p.stepping ≡ true → p.aim ≡ N → (t.steps ≡ 1) × ListInvariant N (record t { steps = 0 }) w (step_left p)
  leaves_step N t w p k on aim = (
    k.steps ∙ ap bit on,
    record {
      chain_invariant = k.chain_invariant;
      steps = refl;
      references = k.references;
      cells = k.cells;
      pass_invariant = record { aims = λ n. absurd (n aim); differ = k.pass_invariant.differ; carries = k.pass_invariant.carries; borrowed_feed = k.pass_invariant.borrowed_feed; held_at = k.pass_invariant.held_at; old_at = k.pass_invariant.old_at; aim_at = k.pass_invariant.aim_at; aim_free = k.pass_invariant.aim_free; held_free = k.pass_invariant.held_free; old_free = k.pass_invariant.old_free };
      open_visit = λ e. visit_kept N t.link w p false p.borrowed p.borrowed_feed (k.open_visit e);
      no_visit = k.no_visit;
      past = k.past;
      last_count = k.last_count;
    },
  )

  pub held_open : (N : ℕ) (t : Memory F) (w : EditorState F) (p : PassState F) → ListInvariant N t w p → p.held ≢ N → p.opened ≡ true
  held_open N t w p k n = bool_cases p.opened (λ e. e) (λ e. absurd (n (k.no_visit e).0))

  pub aim_open : (N : ℕ) (t : Memory F) (w : EditorState F) (p : PassState F) → ListInvariant N t w p → p.aim ≢ N → p.opened ≡ true
  aim_open N t w p k n = bool_cases p.opened (λ e. e) (λ e. absurd (n (k.no_visit e).1))

  -- The pass adds to the reference count of the bus that it aims at.

  pub adds_reference : (N : ℕ) (t : Memory F) (w : EditorState F) (p : PassState F) → ListInvariant N t w p → p.aim ≢ N → p.previous ≡ N → (p.aim < N) × (t.references p.aim ≡ 0) × ListInvariant N (record t { references = updated t.references p.aim 1 }) w (reference_added N p)
  adds_reference N t w p k aim old =
      let o = k.open_visit (aim_open N t w p k aim) in
      let new = o.aim_new aim in
      let lt = (k.pass_invariant.aim_at aim).0 in
      let settled = (k.pass_invariant.aims aim).1 in
      let apart : p.aim ≢ p.held = λ e. lost (sym (subst (λ x. has x p.walked ≡ true) (sym e) (o.held_walked (λ q. aim (e ∙ q)))) ∙ new.0) in
      let not_old : p.aim ≢ p.previous = λ e. aim (e ∙ old) in (
        lt,
        k.references p.aim lt ∙ ap bit (or_from (p.aim == p.held) (p.aim == p.previous) (ne_eqb p.aim p.held apart) (ne_eqb p.aim p.previous not_old)),
        record {
          chain_invariant = k.chain_invariant;
          steps = k.steps;
          references = λ b bl. cases b p.aim
              (λ (e : b ≡ p.aim). updated_here t.references p.aim 1 b e ∙ sym (ap bit (or_left (b == p.aim) (b == p.held) (eq-eqb b p.aim e))))
              (λ (n : b ≢ p.aim). updated_else t.references p.aim 1 b n ∙ (k.references b bl ∙ (ap (λ (x : ℕ). bit ((b == p.held) || (b == x))) old
              ∙ (ap bit (or_comm (b == p.held) (b == N)) ∙ (λ i. bit ((ne_eqb b N (λ (e : b ≡ N). absurd (omega arith)) ∙ sym (ne_eqb b p.aim n)) i || (b == p.held)))))));
          cells = k.cells;
          pass_invariant = record {
            aims = λ n. absurd (n refl);
            differ = λ n. apart;
            carries = λ n. ⊎_elim
                (λ (a : (p.borrowed ≡ p.held) × (p.flag_state ≡ Settled)). inr a.0)
                (λ (a : p.borrowed ≡ p.previous). absurd (n (a ∙ old)))
                (k.pass_invariant.carries n);
            borrowed_feed = k.pass_invariant.borrowed_feed;
            held_at = k.pass_invariant.aim_at;
            old_at = k.pass_invariant.held_at;
            aim_at = λ n. absurd (n refl);
            aim_free = never_aimed_end N t.link w w.phase k.chain_invariant.phase_facts;
            held_free = never_held_of w.phase p.aim k.pass_invariant.aim_free;
            old_free = k.pass_invariant.held_free;
          };
          open_visit = λ e. record {
            tail = o.tail;
            place = λ e'. subst (λ x. TailFrom N t.link w x o.tail) (position_aim N p aim ∙ sym (position_held N (reference_added N p) refl)) (o.place e');
            done = λ e'. absurd (aim (o.done e').2);
            fresh = λ b h. has_append b p.walked (p.aim ∷ []) ∙ or_from (has b p.walked) (has b (p.aim ∷ [])) (o.fresh b h)
                (has_cons b p.aim [] (λ (q : b ≡ p.aim). lost (sym h ∙ (ap (λ x. has x o.tail) q ∙ new.1))));
            aim_new = λ n. absurd (n refl);
            begun = λ e' q. absurd (aim q);
            held_walked = λ n. has_end p.aim p.aim p.walked refl;
            old_walked = λ n. has_snoc p.held p.aim p.walked (o.held_walked n);
            reach = λ b bl ever. inr (⊎_elim
                (λ (q : b ≡ p.aim). or_left (has b (p.walked ++ p.aim ∷ [])) (has b o.tail) (has_end b p.aim p.walked q))
                (λ (r : (has b p.walked || has b o.tail) ≡ true). ⊎_elim
                (λ (q : has b p.walked ≡ true). or_left (has b (p.walked ++ p.aim ∷ [])) (has b o.tail) (has_snoc b p.aim p.walked q))
                (λ (q : has b o.tail ≡ true). or_right (has b (p.walked ++ p.aim ∷ [])) (has b o.tail) q)
                (or_cases (has b p.walked) (has b o.tail) r))
                (o.reach b bl ever));
            gave = λ b bl ever h. has_snoc_cases b p.aim p.walked h
                (λ (q : has b p.walked ≡ true). ⊎_elim
                (λ (g : has b (buses_of p.given) ≡ true). inl g)
                (λ (g : (b ≡ p.held) × (p.flag_state ≡ NotLoaded)). not_settled p.flag_state g.1 settled)
                (o.gave b bl ever q))
                (λ (q : b ≡ p.aim). inr (q, refl));
            given_walked = λ b h. has_snoc b p.aim p.walked (o.given_walked b h);
            given_apart = o.given_apart;
            given_once = o.given_once;
            held_not_given = λ n u. false_from_ne_true (has p.aim (buses_of p.given)) (λ q. lost (sym (o.given_walked p.aim q) ∙ new.0));
            seen_last = λ n s. absurd (cc);
          };
          no_visit = λ e. lost (sym (aim_open N t w p k aim) ∙ e);
          past = k.past;
          last_count = k.last_count;
        },
      )

  -- The pass puts the feed back.

  pub returns_feed : (N : ℕ) (t : Memory F) (w : EditorState F) (p : PassState F) → ListInvariant N t w p → p.borrowed ≢ N → ListInvariant N (record t { cell = updated t.cell p.borrowed (some (some p.borrowed_feed)) }) w (feed_returned N p)
  returns_feed N t w p k borrowed =
      let at = borrowed_at N w p k.pass_invariant borrowed in
      record {
        chain_invariant = k.chain_invariant;
        steps = k.steps;
        references = k.references;
        cells = λ b bl. let bN : b ≢ N = λ (q : b ≡ N). absurd (omega arith) in cases b p.borrowed
            (λ (e : b ≡ p.borrowed). updated_here t.cell p.borrowed (some (some p.borrowed_feed)) b e
            ∙ (ap (λ (o : Option F). some (some o)) (k.pass_invariant.borrowed_feed borrowed)
            ∙ subst (λ x. some (some (feed_of w p.borrowed)) ≡ some (cond (x == N) none (cond (with_editor w.phase x) none (some (feed_of w x))))) (sym e)
            (rw (ne_eqb p.borrowed N borrowed) (rw (not_with_editor N t w p k p.borrowed borrowed at) refl))))
            (λ (n : b ≢ p.borrowed). updated_else t.cell p.borrowed (some (some p.borrowed_feed)) b n ∙ (k.cells b bl ∙ (λ i. some (cond ((ne_eqb b p.borrowed n ∙ sym (ne_eqb b N bN)) i) none (cond (with_editor w.phase b) none (some (feed_of w b)))))));
        pass_invariant = record { aims = k.pass_invariant.aims; differ = k.pass_invariant.differ; carries = λ n. absurd (n refl); borrowed_feed = λ n. absurd (n refl); held_at = k.pass_invariant.held_at; old_at = k.pass_invariant.old_at; aim_at = k.pass_invariant.aim_at; aim_free = k.pass_invariant.aim_free; held_free = k.pass_invariant.held_free; old_free = k.pass_invariant.old_free };
        open_visit = λ e. visit_kept N t.link w p p.stepping N None (k.open_visit e);
        no_visit = k.no_visit;
        past = k.past;
        last_count = k.last_count;
      }

  -- The pass subtracts from the reference count of the bus that it held before.

  pub subtracts_reference : (N : ℕ) (t : Memory F) (w : EditorState F) (p : PassState F) → ListInvariant N t w p → p.previous ≢ N → p.borrowed ≢ p.previous → (p.previous < N) × (t.references p.previous ≡ 1) × ListInvariant N (record t { references = updated t.references p.previous 0 }) w (reference_dropped N p)
  subtracts_reference N t w p k old borrowed =
      let lt = (k.pass_invariant.old_at old).0 in (
        lt,
        k.references p.previous lt ∙ ap bit (or_right (p.previous == p.held) (p.previous == p.previous) (same p.previous)),
        record {
          chain_invariant = k.chain_invariant;
          steps = k.steps;
          references = λ b bl. let bN : b ≢ N = λ (q : b ≡ N). absurd (omega arith) in cases b p.previous
              (λ (e : b ≡ p.previous). updated_here t.references p.previous 0 b e ∙ sym (ap bit (or_from (b == p.held) (b == N) (ne_eqb b p.held (λ (q : b ≡ p.held). k.pass_invariant.differ (λ (z : p.held ≡ N). bN (q ∙ z)) (sym q ∙ e))) (ne_eqb b N bN))))
              (λ (n : b ≢ p.previous). updated_else t.references p.previous 0 b n ∙ (k.references b bl ∙ (λ i. bit ((b == p.held) || (ne_eqb b p.previous n ∙ sym (ne_eqb b N bN)) i))));
          cells = k.cells;
          pass_invariant = record {
            aims = k.pass_invariant.aims;
            differ = λ n. n;
            carries = λ n. ⊎_elim (λ (a : (p.borrowed ≡ p.held) × (p.flag_state ≡ Settled)). inl a) (λ (a : p.borrowed ≡ p.previous). absurd (borrowed a)) (k.pass_invariant.carries n);
            borrowed_feed = k.pass_invariant.borrowed_feed;
            held_at = k.pass_invariant.held_at;
            old_at = λ n. absurd (n refl);
            aim_at = k.pass_invariant.aim_at;
            aim_free = k.pass_invariant.aim_free;
            held_free = k.pass_invariant.held_free;
            old_free = never_held_of w.phase N (never_aimed_end N t.link w w.phase k.chain_invariant.phase_facts);
          };
          open_visit = λ e. let o = k.open_visit e in record {
            tail = o.tail;
            place = o.place;
            done = o.done;
            fresh = o.fresh;
            aim_new = o.aim_new;
            begun = o.begun;
            held_walked = o.held_walked;
            old_walked = λ n. absurd (n refl);
            reach = o.reach;
            gave = o.gave;
            given_walked = o.given_walked;
            given_apart = o.given_apart;
            given_once = o.given_once;
            held_not_given = o.held_not_given;
            seen_last = o.seen_last;
          };
          no_visit = k.no_visit;
          past = k.past;
          last_count = k.last_count;
        },
      )
