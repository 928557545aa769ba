-- Each step of a visit leaves one bus fewer to be walked.
use Rattle.std.proofs.Common.{Option, Some, None, Bool, not, is_some, ◌≡◌, ◌≢◌, ℕ, zero, suc, ◌+◌, ◌≤◌, ◌<◌, true, false, cond, ◌==◌, List, [], ◌∷◌, ◌++◌, sym, ap, ◌∙◌, arith}
use Rattle.std.proofs.lemmas.Bool.{ne_eqb}
use Rattle.bus_list.specs.declared.view.PassState.{PassState}
use Rattle.bus_list.specs.Visits.{has, buses_of}
use Rattle.bus_list.specs.PassStates.{unwalked, reached, feed_read, SteppedOn}
use Rattle.bus_list.proofs.Chains.{cases, has_append, has_cons, has_end, bool_cases}

has_snoc_else : (b c : ℕ) (xs : List ℕ) → b ≢ c → has b (xs ++ c ∷ []) ≡ has b xs
has_snoc_else b c xs n = has_append b xs (c ∷ []) ∙ bool_cases (has b xs) (λ e. rw e refl_true) (λ e. rw e (has_cons b c [] n))
  where
    refl_true : true ≡ true
    refl_true = λ i. true

unwalked_same : (n b : ℕ) (xs : List ℕ) → n ≤ b → unwalked n (xs ++ b ∷ []) ≡ unwalked n xs
unwalked_same zero b xs le = λ i. 0
unwalked_same (suc n) b xs le =
    let e = has_snoc_else n b xs (λ q. absurd (omega arith)) in
    let r = unwalked_same n b xs (omega arith) in
    λ i. cond (e i) 0 1 + r i

pub unwalked_less : (n b : ℕ) (xs : List ℕ) → b < n → has b xs ≡ false → unwalked n (xs ++ b ∷ []) + 1 ≡ unwalked n xs
unwalked_less zero b xs lt h = absurd (omega arith)
unwalked_less (suc n) b xs lt h = cases b n
    (λ (e : b ≡ n).
    let r = unwalked_same n b xs (omega arith) in
    let attached_feed : has n (xs ++ b ∷ []) ≡ true = has_end n b xs (sym e) in
    let old : has n xs ≡ false = ap (λ x. has x xs) (sym e) ∙ h in
    rw attached_feed (rw old (omega arith)))
    (λ (ne : b ≢ n).
    let r = unwalked_less n b xs (omega arith) h in
    let e = has_snoc_else n b xs (λ q. ne (sym q)) in
    rw e (omega arith))

module _ {F : Type 0} where
  pub reached_walked : (N n : ℕ) (p : PassState F) → n ≢ N → (reached N n p).walked ≡ p.walked ++ n ∷ []
  reached_walked N n p ne = rw (ne_eqb n N ne) (λ i. p.walked ++ n ∷ [])

  pub reached_given : (N n : ℕ) (p : PassState F) → (reached N n p).given ≡ p.given
  reached_given N n p = bool_cases (n == N) (λ e. rw e (λ i. p.given)) (λ e. rw e (λ i. p.given))

  pub stepped_on : (N n : ℕ) (ended : Bool) (x : Option F) (p q : PassState F) → n ≤ N → n ≢ N → has n p.walked ≡ false → ended ≡ false → q.walked ≡ p.walked ++ n ∷ [] → q.given ≡ p.given → has n (buses_of q.given) ≡ false
      → SteppedOn N (not (is_some x)) n ended x p (feed_read n x q)
  stepped_on N n ended None p q le ne new e walked given fresh = (e, given, ap (λ l. unwalked N l + 1) walked ∙ unwalked_less N n p.walked (omega arith) new)
  stepped_on N n ended (Some f) p q le ne new e walked given fresh = (omega arith, ap (λ l. has n (buses_of l)) (sym given) ∙ fresh, ap (λ l. l ++ (n, f) ∷ []) given, e)
