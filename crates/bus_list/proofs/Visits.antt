-- The history grows, and what was lawful stays lawful.
use Rattle.std.proofs.Common.{◌≡◌, ℕ, suc, ◌≤◌, true, List, [], ◌∷◌, ◌++◌, length, Option, Some, None, is_some, refl, sym, ap, ◌∙◌, subst, arith, length-append, take_all, ◌≢◌, ◌<◌, ⊎_elim}
use Rattle.std.proofs.lemmas.Bool.{eq-eqb, ne_eqb, cases_lt}
use Rattle.std.proofs.lemmas.List.{take-append-le}
use Rattle.bus_list.specs.declared.history.Entry.{Entry}
use Rattle.bus_list.specs.declared.history.Entry.TheVariants.{On, Off}
use Rattle.bus_list.specs.declared.visit.Visit.{Visit}
use Rattle.bus_list.specs.Visits.{Each, feed_changed, replayed, attached_feed, attached_feed_after, Within, Stood, Always, Lawful, LawfulFrom}

module _ {F : Type 0} where
  pub replayed-append : (xs ys : List (Entry F)) (b : ℕ) (x : Option F) → replayed (xs ++ ys) b x ≡ replayed ys b (replayed xs b x)
  replayed-append [] ys b x = refl
  replayed-append (e ∷ es) ys b x = replayed-append es ys b (feed_changed e b x)

  -- What was attached at a moment is so in the longer history.
  pub on_before : (h t : List (Entry F)) (m b : ℕ) → m ≤ length h → attached_feed_after (h ++ t) m b ≡ attached_feed_after h m b
  on_before h t m b le = ap (λ (k : List (Entry F)). attached_feed k b) (take-append-le m h t le)

  pub on_all : (h : List (Entry F)) (m b : ℕ) → m ≡ length h → attached_feed_after h m b ≡ attached_feed h b
  on_all h m b e = ap (λ (k : List (Entry F)). attached_feed k b) (take_all m h (omega arith))

  pub feed_more : (h : List (Entry F)) (e : Entry F) (b : ℕ) → attached_feed (h ++ e ∷ []) b ≡ feed_changed e b (attached_feed h b)
  feed_more h e b = replayed-append h (e ∷ []) b None

  pub within_more : (h t : List (Entry F)) (from until m : ℕ) → Within h from until m → Within (h ++ t) from until m
  within_more h t from until m w = record { low = w.low; high = w.high; made = let a = w.made in omega (arith, length-append h t) }

  pub stood_more : (h t : List (Entry F)) (from until : ℕ) (p : ℕ × F) → Stood h from until p → Stood (h ++ t) from until p
  stood_more h t from until p (m, w, e) = (m, within_more h t from until m w, on_before h t m p.0 w.made ∙ e)

  pub all_stood_more : (h t : List (Entry F)) (from until : ℕ) (ps : List (ℕ × F)) → Each (Stood h from until) ps → Each (Stood (h ++ t) from until) ps
  all_stood_more h t from until [] a = tt
  all_stood_more h t from until (p ∷ ps) a = (stood_more h t from until p a.0, all_stood_more h t from until ps a.1)

  pub always_less : (h t : List (Entry F)) (from until b : ℕ) → Always (h ++ t) from until b → Always h from until b
  always_less h t from until b all m w = subst (λ (x : Option F). is_some x ≡ true) (on_before h t m b w.made) (all m (within_more h t from until m w))

  -- A lawful visit stays lawful as the history grows
  pub lawful_more : (h t : List (Entry F)) (v : Visit F) → Lawful h v → Lawful (h ++ t) v
  lawful_more h t v l = record {
    order = l.order;
    within = let a = l.within in omega (arith, length-append h t);
    apart = l.apart;
    stood = all_stood_more h t v.from v.until v.pairs l.stood;
    whole = λ w b all. l.whole w b (always_less h t v.from v.until b all);
  }

  pub all_lawful_more : (h t : List (Entry F)) (low : ℕ) (vs : List (Visit F)) (high : ℕ) → LawfulFrom h low vs high → LawfulFrom (h ++ t) low vs high
  all_lawful_more h t low [] high l = l
  all_lawful_more h t low (v ∷ vs) high l = (l.0, lawful_more h t v l.1, all_lawful_more h t v.until vs high l.2)

  -- The last visit ends no later than a later moment.
  pub lawful_later : (h : List (Entry F)) (low : ℕ) (vs : List (Visit F)) (high later : ℕ) → high ≤ later → LawfulFrom h low vs high → LawfulFrom h low vs later
  lawful_later h low [] high later le l = omega arith
  lawful_later h low (v ∷ vs) high later le l = (l.0, l.1, lawful_later h v.until vs high later le l.2)

  -- One more visit.
  pub lawful_snoc : (h : List (Entry F)) (low : ℕ) (vs : List (Visit F)) (high : ℕ) (v : Visit F) → LawfulFrom h low vs high → high ≤ v.from → Lawful h v → LawfulFrom h low (vs ++ v ∷ []) v.until
  lawful_snoc h low [] high v l le new = (omega arith, new, lt_refl v.until)
    where
      lt_refl : (n : ℕ) → n ≤ n
      lt_refl n = omega arith
  lawful_snoc h low (u ∷ us) high v l le new = (l.0, l.1, lawful_snoc h u.until us high v l.2 le new)

  -- The bus of an entry.
  abbrev pub bus_of : Entry F → ℕ
  bus_of (On c f) = c
  bus_of (Off c) = c

  pub moved_else : (e : Entry F) (b : ℕ) (x : Option F) → b ≢ bus_of e → feed_changed e b x ≡ x
  moved_else (On c f) b x n = rw (ne_eqb b c n) refl
  moved_else (Off c) b x n = rw (ne_eqb b c n) refl

  -- Only buses below N are named.
  pub named_more : (N : ℕ) (h : List (Entry F)) (e : Entry F) → bus_of e < N → ((b : ℕ) → N ≤ b → (m : ℕ) → attached_feed_after h m b ≡ None) → (b : ℕ) → N ≤ b → (m : ℕ) → attached_feed_after (h ++ e ∷ []) m b ≡ None
  named_more N h e lt named b le m = ⊎_elim
      (λ (q : m < suc (length h)). on_before h (e ∷ []) m b (omega arith) ∙ named b le m)
      (λ (q : suc (length h) ≤ m). ap (λ (k : List (Entry F)). attached_feed k b) (take_all m (h ++ e ∷ []) (omega (arith, length-append h (e ∷ []))))
      ∙ (feed_more h e b ∙ (moved_else e b (attached_feed h b) (λ (i : b ≡ bus_of e). absurd (omega arith)) ∙ (sym (on_all h (length h) b refl) ∙ named b le (length h)))))
      (cases_lt m (suc (length h)))

  pub feed_else : (h : List (Entry F)) (e : Entry F) (b : ℕ) → b ≢ bus_of e → attached_feed (h ++ e ∷ []) b ≡ attached_feed h b
  feed_else h e b n = feed_more h e b ∙ moved_else e b (attached_feed h b) n

  pub feed_attached : (h : List (Entry F)) (c : ℕ) (f : F) (b : ℕ) → b ≡ c → attached_feed (h ++ On c f ∷ []) b ≡ Some f
  feed_attached h c f b e = feed_more h (On c f) b ∙ rw (eq-eqb b c e) refl

  pub feed_detached : (h : List (Entry F)) (c b : ℕ) → b ≡ c → attached_feed (h ++ Off c ∷ []) b ≡ None
  feed_detached h c b e = feed_more h (Off c) b ∙ rw (eq-eqb b c e) refl
