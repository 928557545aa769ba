-- The editor sets and clears a flag, and the history grows.
use Rattle.std.proofs.Common.{◌≡◌, ◌≢◌, ℕ, ◌<◌, true, false, cond, ◌||◌, ◌==◌, [], ◌∷◌, ◌++◌, refl, sym, ap, ◌∙◌, arith, Option, Some, is_some, length-append}
use Rattle.std.proofs.lemmas.Bool.{eq-eqb, ne_eqb, or_left, or_right}
use mathlib.Core.Option.{some, none}
use Rattle.bus_list.specs.declared.history.Entry.TheVariants.{On, Off}
use Rattle.bus_list.specs.declared.view.Phase.TheVariants.{Idle, Inserted, FlagSet, FlagCleared}
use Rattle.bus_list.specs.declared.view.EditorState.{EditorState}
use Rattle.bus_list.specs.declared.view.PassState.{PassState}
use Rattle.bus_list.specs.Visits.{attached_feed}
use Rattle.bus_list.specs.Invariant.{Memory, ListInvariant, feed_of, bit, updated}
use Rattle.bus_list.proofs.Visits.{feed_more, feed_else, feed_attached, feed_detached, named_more, all_lawful_more}
use Rattle.bus_list.proofs.Chains.{cases, updated_else, updated_here}
use Rattle.bus_list.proofs.Phases.{lost}
use Rattle.bus_list.proofs.AcrossEdits.{grown, visit_same, pass_invariant_over}

module _ {F : Type 0} where
  abbrev pub before_set : ℕ → F → EditorState F → EditorState F
  before_set c f w = record w { phase = Inserted c (Some f) }

  abbrev pub flag_set : ℕ → F → EditorState F → EditorState F
  flag_set c f w = record w { phase = FlagSet c; history = w.history ++ On c f ∷ [] }

  pub sets_flag : (N : ℕ) (t : Memory F) (w : EditorState F) (p : PassState F) (c : ℕ) (f : F) → ListInvariant N t (before_set c f w) p → ListInvariant N (record t { flag = updated t.flag c 1 }) (flag_set c f w) p
  sets_flag N t w p c f k =
      let off = k.chain_invariant.phase_facts.0 in
      let w1 = before_set c f w in
      let w2 = flag_set c f w in
      let g = grown w1 w2 (On c f) refl in
      let feeds = λ (y : ℕ). feed_more w.history (On c f) y in
      record {
        chain_invariant = record {
          count = let n = k.chain_invariant.count in omega (arith, length-append w.history (On c f ∷ []));
          flags = λ b bl. cases b c
              (λ (e : b ≡ c). updated_here t.flag c 1 b e ∙ sym (ap (λ (o : Option F). bit (is_some o)) (feed_attached w.history c f b e)))
              (λ (n : b ≢ c). updated_else t.flag c 1 b n ∙ (k.chain_invariant.flags b bl ∙ sym (ap (λ (o : Option F). bit (is_some o)) (feed_else w.history (On c f) b n))));
          path = k.chain_invariant.path;
          apart = k.chain_invariant.apart;
          inside = k.chain_invariant.inside;
          members = λ b bl. k.chain_invariant.members b bl ∙ cases b c
              (λ (e : b ≡ c). or_right (is_some (attached_feed w.history b)) (b == c) (eq-eqb b c e) ∙ sym (or_left (is_some (attached_feed w2.history b)) false (ap (λ (o : Option F). is_some o) (feed_attached w.history c f b e))))
              (λ (n : b ≢ c). (λ i. is_some (attached_feed w.history b) || ne_eqb b c n i) ∙ (λ i. is_some (sym (feed_else w.history (On c f) b n) i) || false));
          named = named_more N w.history (On c f) off.0 k.chain_invariant.named;
          phase_facts = tt;
        };
        steps = k.steps;
        references = k.references;
        cells = λ b bl. k.cells b bl ∙ ap (λ (o : Option F). some (cond (b == p.borrowed) none (some o))) (sym (feeds b));
        pass_invariant = pass_invariant_over N w1 w2 p k.pass_invariant (λ y n at. feeds y) (λ a. a) (λ a. a) (λ a. a) refl refl refl;
        open_visit = λ e. visit_same N t.link t.link w1 w2 p g refl (λ l. lost (sym l)) (λ n. feeds p.held) (k.open_visit e);
        no_visit = k.no_visit;
        past = all_lawful_more w.history (On c f ∷ []) p.start p.visits p.last_count k.past;
        last_count = k.last_count;
      }

  abbrev pub idle : EditorState F → EditorState F
  idle w = record w { phase = Idle }

  abbrev pub flagged_off : ℕ → EditorState F → EditorState F
  flagged_off c w = record w { phase = FlagCleared c (attached_feed w.history c); history = w.history ++ Off c ∷ [] }

  pub clears_flag : (N : ℕ) (t : Memory F) (w : EditorState F) (p : PassState F) (c : ℕ) → c < N → is_some (attached_feed w.history c) ≡ true → ListInvariant N t (idle w) p → ListInvariant N (record t { flag = updated t.flag c 0 }) (flagged_off c w) p
  clears_flag N t w p c lt was k =
      let w1 = idle w in
      let w2 = flagged_off c w in
      let g = grown w1 w2 (Off c) refl in
      let feeds : (y : ℕ) → feed_of w2 y ≡ feed_of w1 y = λ y. cases y c
      (λ (e : y ≡ c). rw (eq-eqb y c e) (ap (λ z. attached_feed w.history z) (sym e)))
      (λ (n : y ≢ c). rw (ne_eqb y c n) (feed_else w.history (Off c) y n)) in
      record {
        chain_invariant = record {
          count = let n = k.chain_invariant.count in omega (arith, length-append w.history (Off c ∷ []));
          flags = λ b bl. cases b c
              (λ (e : b ≡ c). updated_here t.flag c 0 b e ∙ sym (ap (λ (o : Option F). bit (is_some o)) (feed_detached w.history c b e)))
              (λ (n : b ≢ c). updated_else t.flag c 0 b n ∙ (k.chain_invariant.flags b bl ∙ sym (ap (λ (o : Option F). bit (is_some o)) (feed_else w.history (Off c) b n))));
          path = k.chain_invariant.path;
          apart = k.chain_invariant.apart;
          inside = k.chain_invariant.inside;
          members = λ b bl. k.chain_invariant.members b bl ∙ cases b c
              (λ (e : b ≡ c). or_left (is_some (attached_feed w.history b)) false (ap (λ z. is_some (attached_feed w.history z)) e ∙ was) ∙ sym (or_right (is_some (attached_feed w2.history b)) (b == c) (eq-eqb b c e)))
              (λ (n : b ≢ c). (λ i. is_some (sym (feed_else w.history (Off c) b n) i) || sym (ne_eqb b c n) i));
          named = named_more N w.history (Off c) lt k.chain_invariant.named;
          phase_facts = ((lt, feed_detached w.history c c refl), (w.history, refl, refl));
        };
        steps = k.steps;
        references = k.references;
        cells = λ b bl. k.cells b bl ∙ ap (λ (o : Option F). some (cond (b == p.borrowed) none (some o))) (sym (feeds b));
        pass_invariant = pass_invariant_over N w1 w2 p k.pass_invariant (λ y n at. feeds y) (λ a. a) (λ a. a) (λ a. a) refl refl refl;
        open_visit = λ e. visit_same N t.link t.link w1 w2 p g refl (λ l. lost (sym l)) (λ n. feeds p.held) (k.open_visit e);
        no_visit = k.no_visit;
        past = all_lawful_more w.history (Off c ∷ []) p.start p.visits p.last_count k.past;
        last_count = k.last_count;
      }
