-- What the pass knows stays so over a step of the editor.
use Rattle.std.proofs.Common.{◌≡◌, ◌≢◌, ℕ, ◌≤◌, ◌<◌, true, false, ◌||◌, List, [], ◌∷◌, ◌++◌, length, sym, ap, ◌∙◌, subst, inl, inr, ⊎_elim, arith, Option, is_some, length-append}
use Rattle.std.proofs.lemmas.Bool.{or_cases, or_left, or_right}
use Rattle.bus_list.specs.declared.history.Entry.{Entry}
use Rattle.bus_list.specs.declared.view.FlagState.TheVariants.{Settled}
use Rattle.bus_list.specs.declared.view.EditorState.{EditorState}
use Rattle.bus_list.specs.declared.view.PassState.{PassState}
use Rattle.bus_list.specs.Visits.{has, Each, attached_feed_after}
use Rattle.bus_list.specs.Invariant.{PassInvariant, VisitInvariant, TailFrom, InChainOrRetired, retired, never_aimed, never_held, feed_of, AttachedSinceBegin, FedSinceBegin, position, first_of, last_of}
use Rattle.bus_list.proofs.Visits.{on_before}

module _ {F : Type 0} where
  -- The history is as it was, or longer.
  pub record Grown (w w' : EditorState F) : Type 0 where
    pub longer : length w.history ≤ length w'.history
    pub same : (m b : ℕ) → m ≤ length w.history → attached_feed_after w'.history m b ≡ attached_feed_after w.history m b

  pub not_grown : (w w' : EditorState F) → w'.history ≡ w.history → Grown w w'
  not_grown w w' e = record { longer = let q = ap (λ (h : List (Entry F)). length h) e in omega arith; same = λ m b le. ap (λ (h : List (Entry F)). attached_feed_after h m b) e }

  pub grown : (w w' : EditorState F) (e : Entry F) → w'.history ≡ w.history ++ e ∷ [] → Grown w w'
  grown w w' e is = record {
    longer = let q = ap (λ (h : List (Entry F)). length h) is in omega (arith, length-append w.history (e ∷ []));
    same = λ m b le. ap (λ (h : List (Entry F)). attached_feed_after h m b) is ∙ on_before w.history (e ∷ []) m b le;
  }

  pub ever_less : (w w' : EditorState F) (p : PassState F) (b : ℕ) → Grown w w' → AttachedSinceBegin w' p b → AttachedSinceBegin w p b
  ever_less w w' p b g ever m low le = let l = g.longer in subst (λ (o : Option F). is_some o ≡ true) (g.same m b le) (ever m low (omega arith))

  pub once_more : (w w' : EditorState F) (p : PassState F) (x : ℕ × F) → Grown w w' → FedSinceBegin w p x → FedSinceBegin w' p x
  once_more w w' p x g (m, low, le, e) = let l = g.longer in (m, low, omega arith, g.same m x.0 le ∙ e)

  pub all_once_more : (w w' : EditorState F) (p : PassState F) (xs : List (ℕ × F)) → Grown w w' → Each (FedSinceBegin w p) xs → Each (FedSinceBegin w' p) xs
  all_once_more w w' p [] g a = tt
  all_once_more w w' p (x ∷ xs) g a = (once_more w w' p x g a.0, all_once_more w w' p xs g a.1)

  pub visit_over : (N : ℕ) (link link' : ℕ → ℕ) (w w' : EditorState F) (p : PassState F) (o : VisitInvariant N link w p) (tail : List ℕ) → Grown w w'
      → (p.ended ≡ false → TailFrom N link' w' (position N p) tail)
      → (p.ended ≡ true → tail ≡ [])
      → ((b : ℕ) → has b tail ≡ true → has b p.walked ≡ false)
      → (p.aim ≢ N → has p.aim tail ≡ false)
      → ((b : ℕ) → b < N → AttachedSinceBegin w' p b → has b o.tail ≡ true → has b tail ≡ true)
      → (p.held ≢ N → feed_of w' p.held ≡ feed_of w p.held)
      → VisitInvariant N link' w' p
  visit_over N link link' w w' p o tail g place done fresh aim_new reach feeds = record {
    tail = tail;
    place = place;
    done = λ e. let d = o.done e in (done e, d.1, d.2);
    fresh = fresh;
    aim_new = λ n. ((o.aim_new n).0, aim_new n);
    begun = o.begun;
    held_walked = o.held_walked;
    old_walked = o.old_walked;
    reach = λ b bl ever. ⊎_elim
        (λ (e : b ≡ p.aim). inl e)
        (λ (r : (has b p.walked || has b o.tail) ≡ true). inr (⊎_elim
        (λ (a : has b p.walked ≡ true). or_left (has b p.walked) (has b tail) a)
        (λ (a : has b o.tail ≡ true). or_right (has b p.walked) (has b tail) (reach b bl ever a))
        (or_cases (has b p.walked) (has b o.tail) r)))
        (o.reach b bl (ever_less w w' p b g ever));
    gave = λ b bl ever h. o.gave b bl (ever_less w w' p b g ever) h;
    given_walked = o.given_walked;
    given_apart = o.given_apart;
    given_once = all_once_more w w' p p.given g o.given_once;
    held_not_given = o.held_not_given;
    seen_last = λ n s. let a = o.seen_last n s in (a.0, a.1, a.2, feeds n ∙ a.3);
  }

  -- A bus whose cell the pass has is one that it holds.
  pub borrowed_at : (N : ℕ) (w : EditorState F) (p : PassState F) → PassInvariant N w p → p.borrowed ≢ N → InChainOrRetired N w p.borrowed
  borrowed_at N w p k n = ⊎_elim
      (λ (a : (p.borrowed ≡ p.held) × (p.flag_state ≡ Settled)). subst (InChainOrRetired N w) (sym a.0) k.held_at)
      (λ (a : p.borrowed ≡ p.previous). subst (InChainOrRetired N w) (sym a) k.old_at)
      (k.carries n)

  pub pass_invariant_over : (N : ℕ) (w w' : EditorState F) (p : PassState F) → PassInvariant N w p
      → ((x : ℕ) → x ≢ N → InChainOrRetired N w x → feed_of w' x ≡ feed_of w x)
      → (InChainOrRetired N w p.held → InChainOrRetired N w' p.held) → (InChainOrRetired N w p.previous → InChainOrRetired N w' p.previous) → (InChainOrRetired N w p.aim → InChainOrRetired N w' p.aim)
      → (never_aimed w'.phase p.aim ≡ false) → (never_held w'.phase p.held ≡ false) → (never_held w'.phase p.previous ≡ false)
      → PassInvariant N w' p
  pass_invariant_over N w w' p k feeds held_at old_at aim_at aim held old = record {
    aims = k.aims;
    differ = k.differ;
    carries = k.carries;
    borrowed_feed = λ n. k.borrowed_feed n ∙ sym (feeds p.borrowed n (borrowed_at N w p k n));
    held_at = held_at k.held_at;
    old_at = old_at k.old_at;
    aim_at = aim_at k.aim_at;
    aim_free = aim;
    held_free = held;
    old_free = old;
  }

  -- An open visit over a step that leaves the chain, and the link of an unlinked bus.
  pub visit_same : (N : ℕ) (link link' : ℕ → ℕ) (w w' : EditorState F) (p : PassState F) → Grown w w' → w'.chain ≡ w.chain
      → (retired w.phase (position N p) ≡ true → (retired w'.phase (position N p) ≡ true) × (link' (position N p) ≡ link (position N p)))
      → (p.held ≢ N → feed_of w' p.held ≡ feed_of w p.held)
      → VisitInvariant N link w p → VisitInvariant N link' w' p
  visit_same N link link' w w' p g chain stays feeds o =
      visit_over N link link' w w' p o o.tail g
      (λ e. let f = o.place e in record {
        pre = f.pre;
        chain = chain ∙ f.chain;
        at = ⊎_elim
            (λ (a : last_of N f.pre ≡ position N p). inl a)
            (λ (a : (retired w.phase (position N p) ≡ true) × (link (position N p) ≡ first_of N o.tail)). let s = stays a.0 in inr (s.0, s.1 ∙ a.1))
            f.at;
      })
      (λ e. (o.done e).0) o.fresh (λ n. (o.aim_new n).1) (λ b bl ever h. h) feeds
