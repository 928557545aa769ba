-- A visit under which no edit came holds exactly what is attached.
use Rattle.std.proofs.Common.{◌≡◌, ℕ, true, ◌==◌, List, [], ◌∷◌, length, Option, Some, is_some, sym, ap, ◌∙◌, subst, arith, true≢false}
use Rattle.std.proofs.lemmas.Bool.{eqb-true}
use Rattle.bus_list.specs.declared.history.Entry.{Entry}
use Rattle.bus_list.specs.declared.visit.Visit.{Visit}
use Rattle.bus_list.specs.Visits.{has, Each, attached_feed, buses_of, Stood, Lawful}
use Rattle.bus_list.proofs.Visits.{on_all}
use Rattle.bus_list.proofs.Chains.{bool_cases}

module _ {F : Type 0} where
  given_on : (h : List (Entry F)) (until : ℕ) (ps : List (ℕ × F)) (b : ℕ) → Each (Stood h (length h) until) ps → has b (buses_of ps) ≡ true → is_some (attached_feed h b) ≡ true
  given_on h until [] b e there = absurd (true≢false (sym there))
  given_on h until (p ∷ ps) b e there = bool_cases (b == p.0)
      (λ q. let s = e.0 in let w = s.1 in
      let m : s.0 ≡ length h = (let a = w.low in let c = w.made in omega arith) in
      ap (λ k. is_some (attached_feed h k)) (eqb-true b p.0 q) ∙ ap (λ (o : Option F). is_some o) (sym (on_all h s.0 p.0 m) ∙ s.2))
      (λ q. given_on h until ps b e.1 (rw q at there))

  -- Each pair is a bus that is attached, with its feed.
  pub exact_feeds : (h : List (Entry F)) (v : Visit F) → Lawful h v → v.from ≡ length h → Each (λ p. attached_feed h p.0 ≡ Some p.1) v.pairs
  exact_feeds h v l at = from v.pairs (subst (λ n. Each (Stood h n v.until) v.pairs) at l.stood)
    where
      from : (ps : List (ℕ × F)) → Each (Stood h (length h) v.until) ps → Each (λ p. attached_feed h p.0 ≡ Some p.1) ps
      from [] e = tt
      from (p ∷ ps) e =
          let s = e.0 in let w = s.1 in
          let m : s.0 ≡ length h = (let a = w.low in let c = w.made in omega arith) in
          (sym (on_all h s.0 p.0 m) ∙ s.2, from ps e.1)

  -- A whole visit holds the buses that are attached, and no others.
  pub exact_buses : (h : List (Entry F)) (v : Visit F) → Lawful h v → v.from ≡ length h → v.whole ≡ true → (b : ℕ) → has b (buses_of v.pairs) ≡ is_some (attached_feed h b)
  exact_buses h v l at whole b = bool_cases (is_some (attached_feed h b))
      (λ e. l.whole whole b (λ m w. let a = w.low in let c = w.made in ap (λ (o : Option F). is_some o) (on_all h m b (omega arith)) ∙ e) ∙ sym e)
      (λ e. bool_cases (has b (buses_of v.pairs))
      (λ q. absurd (true≢false (sym (given_on h v.until v.pairs b (subst (λ n. Each (Stood h n v.until) v.pairs) at l.stood) q) ∙ e)))
      (λ q. q ∙ sym e))
