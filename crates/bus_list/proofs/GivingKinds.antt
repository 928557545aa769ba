-- The pass loads the flag of a bus, takes its feed, and ends the visit: these steps keep the invariant.
use Rattle.std.proofs.Common.{◌≡◌, ◌≢◌, ℕ, ◌+◌, ◌≤◌, ◌<◌, true, false, cond, ◌||◌, ◌==◌, List, [], ◌∷◌, ◌++◌, length, refl, sym, ap, ◌∙◌, subst, inl, inr, ⊎_elim, arith, Option, Some, None, is_some}
use Rattle.std.proofs.lemmas.Bool.{eq-eqb, ne_eqb, or_cases, cases_lt}
use Rattle.std.proofs.Math.Bool.{or_comm}
use mathlib.Core.Option.{some, none}
use Rattle.bus_list.specs.declared.view.Phase.{Phase}
use Rattle.bus_list.specs.declared.view.Phase.TheVariants.{Idle, Linked, Filling, Filled, Inserted, FlagSet, FlagCleared, Unlinked, Quiescent, Unreferenced, Emptying, Emptied}
use Rattle.bus_list.specs.declared.view.FlagState.TheVariants.{NotLoaded, FoundSet, Settled}
use Rattle.bus_list.specs.declared.view.EditorState.{EditorState}
use Rattle.bus_list.specs.declared.view.PassState.{PassState}
use Rattle.bus_list.specs.Visits.{has, Distinct, Each, attached_feed, attached_feed_after, buses_of, Stood, Always}
use Rattle.bus_list.specs.Invariant.{Memory, ListInvariant, VisitInvariant, feed_of, lag, with_editor, AttachedSinceBegin, FedSinceBegin, bit, updated}
use Rattle.bus_list.specs.Transitions.{flag_loaded, feed_taken, visit_of, visit_closed}
use Rattle.bus_list.proofs.Visits.{on_all, lawful_snoc}
use Rattle.bus_list.proofs.Chains.{cases, updated_else, updated_here, has_snoc, has_end, has_snoc_cases, distinct_snoc}
use Rattle.bus_list.proofs.Phases.{lost, not_settled, not_seen, never_aimed_end, never_held_of, ever_now, stored_feed_on, not_with_editor, seen_made}
use Rattle.bus_list.proofs.PassKinds.{held_open}

module _ {F : Type 0} where
  lag_small : (ph : Phase F) → lag ph ≤ 1
  lag_small Idle = omega arith
  lag_small (Linked c) = omega arith
  lag_small (Filling c) = omega arith
  lag_small (Filled c x) = omega arith
  lag_small (Inserted c x) = omega arith
  lag_small (FlagSet c) = omega arith
  lag_small (FlagCleared c x) = omega arith
  lag_small (Unlinked c x) = omega arith
  lag_small (Quiescent c x) = omega arith
  lag_small (Unreferenced c x) = omega arith
  lag_small (Emptying c) = omega arith
  lag_small (Emptied c) = omega arith

  buses_snoc : (ps : List (ℕ × F)) (q : ℕ × F) → buses_of (ps ++ q ∷ []) ≡ buses_of ps ++ q.0 ∷ []
  buses_snoc [] q = refl
  buses_snoc (x ∷ ps) q = ap (λ l. x.0 ∷ l) (buses_snoc ps q)

  each_snoc : (P : ℕ × F → Type 0) (ps : List (ℕ × F)) (q : ℕ × F) → Each P ps → P q → Each P (ps ++ q ∷ [])
  each_snoc P [] q e h = (h, tt)
  each_snoc P (x ∷ ps) q e h = (e.0, each_snoc P ps q e.1 h)

  -- The pass loads the flag of the bus that it holds.
  pub loads_flag : (N : ℕ) (t : Memory F) (w : EditorState F) (p : PassState F) → ListInvariant N t w p → p.held ≢ N → p.flag_state ≡ NotLoaded
      → (t.flag p.held ≡ bit (is_some (attached_feed w.history p.held))) × (has p.held (buses_of p.given) ≡ false) × ListInvariant N t w (flag_loaded (attached_feed w.history p.held) p)
  loads_flag N t w p k held flag_state = (k.chain_invariant.flags p.held (k.pass_invariant.held_at held).0, o.held_not_given held flag_state, by_feed (attached_feed w.history p.held) refl)
    where
      o : VisitInvariant N t.link w p
      o = k.open_visit (held_open N t w p k held)

      on_old : p.borrowed ≢ N → p.borrowed ≡ p.previous
      on_old n = ⊎_elim (λ (a : (p.borrowed ≡ p.held) × (p.flag_state ≡ Settled)). not_settled p.flag_state flag_state a.1) (λ (a : p.borrowed ≡ p.previous). a) (k.pass_invariant.carries n)

      by_feed : (x : Option F) → attached_feed w.history p.held ≡ x → ListInvariant N t w (flag_loaded x p)
      by_feed (Some f) e =
          let made = seen_made N t w p k in
          let snoc = buses_snoc p.given (p.held, f) in
          record {
            chain_invariant = k.chain_invariant;
            steps = k.steps;
            references = k.references;
            cells = k.cells;
            pass_invariant = record { aims = λ n. not_settled p.flag_state flag_state (k.pass_invariant.aims n).1; differ = k.pass_invariant.differ; carries = λ n. inr (on_old n); borrowed_feed = k.pass_invariant.borrowed_feed; held_at = k.pass_invariant.held_at; old_at = k.pass_invariant.old_at; aim_at = k.pass_invariant.aim_at; aim_free = k.pass_invariant.aim_free; held_free = k.pass_invariant.held_free; old_free = k.pass_invariant.old_free };
            open_visit = λ _. record {
              tail = o.tail;
              place = o.place;
              done = o.done;
              fresh = o.fresh;
              aim_new = o.aim_new;
              begun = o.begun;
              held_walked = o.held_walked;
              old_walked = o.old_walked;
              reach = o.reach;
              gave = λ b bl ever h. inl (ap (has b) snoc ∙ ⊎_elim
                  (λ (g : has b (buses_of p.given) ≡ true). has_snoc b p.held (buses_of p.given) g)
                  (λ (g : (b ≡ p.held) × (p.flag_state ≡ NotLoaded)). has_end b p.held (buses_of p.given) g.0)
                  (o.gave b bl ever h));
              given_walked = λ b h. has_snoc_cases b p.held (buses_of p.given) (sym (ap (has b) snoc) ∙ h)
                  (λ (g : has b (buses_of p.given) ≡ true). o.given_walked b g)
                  (λ (g : b ≡ p.held). ap (λ x. has x p.walked) g ∙ o.held_walked held);
              given_apart = subst Distinct (sym snoc) (distinct_snoc (buses_of p.given) p.held (o.held_not_given held flag_state) o.given_apart);
              given_once = each_snoc (FedSinceBegin w p) p.given (p.held, f) o.given_once (length w.history, made, (omega arith), on_all w.history (length w.history) p.held refl ∙ e);
              held_not_given = λ n u. absurd (cc);
              seen_last = λ n s. (f, p.given, refl, stored_feed_on N t.link w w.phase p.held f k.chain_invariant.phase_facts e);
            };
            no_visit = k.no_visit;
            past = k.past;
            last_count = k.last_count;
          }
      by_feed None e = record {
        chain_invariant = k.chain_invariant;
        steps = k.steps;
        references = k.references;
        cells = k.cells;
        pass_invariant = record { aims = λ n. ((k.pass_invariant.aims n).0, refl); differ = k.pass_invariant.differ; carries = λ n. inr (on_old n); borrowed_feed = k.pass_invariant.borrowed_feed; held_at = k.pass_invariant.held_at; old_at = k.pass_invariant.old_at; aim_at = k.pass_invariant.aim_at; aim_free = k.pass_invariant.aim_free; held_free = k.pass_invariant.held_free; old_free = k.pass_invariant.old_free };
        open_visit = λ _. record {
          tail = o.tail;
          place = o.place;
          done = o.done;
          fresh = o.fresh;
          aim_new = o.aim_new;
          begun = o.begun;
          held_walked = o.held_walked;
          old_walked = o.old_walked;
          reach = o.reach;
          gave = λ b bl ever h. ⊎_elim
              (λ (g : has b (buses_of p.given) ≡ true). inl g)
              (λ (g : (b ≡ p.held) × (p.flag_state ≡ NotLoaded)). lost (sym (ever_now w p b (seen_made N t w p k) ever) ∙ (ap (λ x. is_some (attached_feed w.history x)) g.0 ∙ ap (λ (x : Option F). is_some x) e)))
              (o.gave b bl ever h);
          given_walked = o.given_walked;
          given_apart = o.given_apart;
          given_once = o.given_once;
          held_not_given = λ n u. absurd (cc);
          seen_last = λ n s. absurd (cc);
        };
        no_visit = k.no_visit;
        past = k.past;
        last_count = k.last_count;
      }

  -- The pass takes the feed.
  pub takes_feed : (N : ℕ) (t : Memory F) (w : EditorState F) (p : PassState F) → ListInvariant N t w p → p.held ≢ N → p.flag_state ≡ FoundSet → p.borrowed ≡ N
      → (f : F) × ((ps : List (ℕ × F)) × (p.given ≡ ps ++ (p.held, f) ∷ [])) × (t.cell p.held ≡ some (some (Some f))) × ListInvariant N (record t { cell = updated t.cell p.held (some none) }) w (feed_taken f p)
  takes_feed N t w p k held flag_state borrowed =
      let lt = (k.pass_invariant.held_at held).0 in
      let o = k.open_visit (held_open N t w p k held) in
      let s = o.seen_last held flag_state in
      let bare : (p.held == p.borrowed) ≡ false = ne_eqb p.held p.borrowed (λ e. held (e ∙ borrowed)) in (
        s.0,
        (s.1, s.2),
        k.cells p.held lt ∙ ap (λ (x : mathlib.Core.Option.Option (Option F)). some x) (rw bare (rw (not_with_editor N t w p k p.held held k.pass_invariant.held_at) (ap (λ (y : Option F). some y) s.3))),
        record {
          chain_invariant = k.chain_invariant;
          steps = k.steps;
          references = k.references;
          cells = λ b bl. cases b p.held
              (λ (e : b ≡ p.held). updated_here t.cell p.held (some none) b e ∙ rw (eq-eqb b p.held e) refl)
              (λ (n : b ≢ p.held). updated_else t.cell p.held (some none) b n ∙ (k.cells b bl ∙ (λ i. some (cond ((ne_eqb b p.borrowed (λ (q : b ≡ p.borrowed). let z = q ∙ borrowed in absurd (omega arith)) ∙ sym (ne_eqb b p.held n)) i) none (cond (with_editor w.phase b) none (some (feed_of w b)))))));
          pass_invariant = record { aims = λ n. ((k.pass_invariant.aims n).0, refl); differ = k.pass_invariant.differ; carries = λ n. inl (refl, refl); borrowed_feed = λ n. sym s.3; held_at = k.pass_invariant.held_at; old_at = k.pass_invariant.old_at; aim_at = k.pass_invariant.aim_at; aim_free = k.pass_invariant.aim_free; held_free = k.pass_invariant.held_free; old_free = k.pass_invariant.old_free };
          open_visit = λ _. record {
            tail = o.tail;
            place = o.place;
            done = o.done;
            fresh = o.fresh;
            aim_new = o.aim_new;
            begun = o.begun;
            held_walked = o.held_walked;
            old_walked = o.old_walked;
            reach = o.reach;
            gave = λ b bl ever h. ⊎_elim
                (λ (g : has b (buses_of p.given) ≡ true). inl g)
                (λ (g : (b ≡ p.held) × (p.flag_state ≡ NotLoaded)). not_seen p.flag_state g.1 flag_state)
                (o.gave b bl ever h);
            given_walked = o.given_walked;
            given_apart = o.given_apart;
            given_once = o.given_once;
            held_not_given = λ n u. absurd (cc);
            seen_last = λ n q. absurd (cc);
          };
          no_visit = k.no_visit;
          past = k.past;
          last_count = k.last_count;
        },
      )

  -- The pass loads the count of edits, and the visit ends.

  stood_all : (w : EditorState F) (p : PassState F) (n : ℕ) (ps : List (ℕ × F)) → length w.history ≤ n + 1 → Each (FedSinceBegin w p) ps → Each (Stood w.history p.last_count n) ps
  stood_all w p n [] le a = tt
  stood_all w p n (x ∷ ps) le a = ((a.0.0, record { low = a.0.1; high = (let q = a.0.2 in omega arith); made = a.0.2 }, a.0.3), stood_all w p n ps le a.1)

  pub ends_visit : (N : ℕ) (t : Memory F) (w : EditorState F) (p : PassState F) → ListInvariant N t w p → p.opened ≡ true → p.aim ≡ N → p.previous ≡ N → p.flag_state ≡ Settled → ListInvariant N t w (visit_closed N t.edits p)
  ends_visit N t w p k opened aim old flag_state =
      let o = k.open_visit opened in
      let made : t.edits ≤ length w.history = let n = k.chain_invariant.count in omega arith in
      let near : length w.history ≤ t.edits + 1 = let n = k.chain_invariant.count in let s = lag_small w.phase in omega arith in
      record {
        chain_invariant = k.chain_invariant;
        steps = k.steps;
        references = λ b bl. k.references b bl ∙ (ap (λ (x : ℕ). bit ((b == p.held) || (b == x))) old ∙ ap bit (or_comm (b == p.held) (b == N)));
        cells = k.cells;
        pass_invariant = record {
          aims = k.pass_invariant.aims;
          differ = λ n. absurd (n refl);
          carries = λ n. ⊎_elim
              (λ (a : (p.borrowed ≡ p.held) × (p.flag_state ≡ Settled)). inr a.0)
              (λ (a : p.borrowed ≡ p.previous). absurd (n (a ∙ old)))
              (k.pass_invariant.carries n);
          borrowed_feed = k.pass_invariant.borrowed_feed;
          held_at = λ n. absurd (n refl);
          old_at = k.pass_invariant.held_at;
          aim_at = k.pass_invariant.aim_at;
          aim_free = k.pass_invariant.aim_free;
          held_free = never_held_of w.phase N (never_aimed_end N t.link w w.phase k.chain_invariant.phase_facts);
          old_free = k.pass_invariant.held_free;
        };
        open_visit = λ e. lost (sym e);
        no_visit = λ _. (refl, aim);
        past = lawful_snoc w.history p.start p.visits p.last_count (visit_of t.edits p) k.past (omega arith) (record {
          order = k.last_count;
          within = made;
          apart = o.given_apart;
          stood = stood_all w p t.edits p.given near o.given_once;
          whole = λ e b all. whole o made near e b all;
        });
        last_count = omega arith;
      }
    where
      whole : (o : VisitInvariant N t.link w p) → t.edits ≤ length w.history → length w.history ≤ t.edits + 1 → p.ended ≡ true → (b : ℕ) → Always w.history p.last_count t.edits b → has b (buses_of p.given) ≡ true
      whole o made near e b all =
          let d = o.done e in
          let s = k.last_count in
          let known : is_some (attached_feed_after w.history p.last_count b) ≡ true = all p.last_count (record { low = omega arith; high = omega arith; made = omega arith }) in
          let bl : b < N = ⊎_elim (λ (q : b < N). q) (λ (q : N ≤ b). lost (sym known ∙ ap (λ (x : Option F). is_some x) (k.chain_invariant.named b q p.last_count))) (cases_lt b N) in
          let ever : AttachedSinceBegin w p b = λ m low le. all m (record { low = low; high = omega arith; made = le }) in
          let walked : has b p.walked ≡ true = ⊎_elim
          (λ (q : b ≡ p.aim). let z = q ∙ aim in absurd (omega arith))
          (λ (r : (has b p.walked || has b o.tail) ≡ true). ⊎_elim
          (λ (q : has b p.walked ≡ true). q)
          (λ (q : has b o.tail ≡ true). lost (sym (sym (ap (has b) d.0) ∙ q)))
          (or_cases (has b p.walked) (has b o.tail) r))
          (o.reach b bl ever) in
          ⊎_elim
          (λ (g : has b (buses_of p.given) ≡ true). g)
          (λ (g : (b ≡ p.held) × (p.flag_state ≡ NotLoaded)). let z = g.0 ∙ d.1 in absurd (omega arith))
          (o.gave b bl ever walked)
