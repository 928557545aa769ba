-- What follows from the invariant, phase by phase.
use Rattle.std.proofs.Common.{◌≡◌, ◌≢◌, ℕ, ◌≤◌, ◌<◌, true, false, cond, ◌||◌, ◌==◌, length, refl, sym, ap, ◌∙◌, subst, arith, true≢false, Option, Some, None, is_some}
use Rattle.std.proofs.lemmas.Bool.{ne_eqb}
use Rattle.bus_list.specs.declared.view.Phase.{Phase}
use Rattle.bus_list.specs.declared.view.Phase.TheVariants.{Idle, Linked, Filling, Filled, Inserted, FlagSet, FlagCleared, Unlinked, Quiescent, Unreferenced, Emptying, Emptied}
use Rattle.bus_list.specs.declared.view.FlagState.{FlagState}
use Rattle.bus_list.specs.declared.view.FlagState.TheVariants.{NotLoaded, FoundSet, Settled}
use Rattle.bus_list.specs.declared.view.EditorState.{EditorState}
use Rattle.bus_list.specs.declared.view.PassState.{PassState}
use Rattle.bus_list.specs.Visits.{has, attached_feed}
use Rattle.bus_list.specs.Invariant.{Memory, ListInvariant, PhaseFacts, IsDetached, InChainOrRetired, half_attached, retired, with_editor, never_aimed, never_held, stored_feed, AttachedSinceBegin}
use Rattle.bus_list.proofs.Visits.{on_all}
use Rattle.bus_list.proofs.Chains.{cases}

pub lost : {P : Type 0} → true ≡ false → P
lost e = absurd (true≢false e)

-- Two states of a flag are not one.
pub not_settled : {P : Type 0} (c : FlagState) → c ≡ NotLoaded → c ≡ Settled → P
not_settled c e q = absurd (cc)

pub not_seen : {P : Type 0} (c : FlagState) → c ≡ NotLoaded → c ≡ FoundSet → P
not_seen c e q = absurd (cc)

module _ {F : Type 0} where
  -- A bus that is detached has no feed in the history.
  pub detached_not : (N : ℕ) (w : EditorState F) (c b : ℕ) → b ≡ c → IsDetached N w c → is_some (attached_feed w.history b) ≡ false
  detached_not N w c b e off =
      let q : attached_feed w.history b ≡ None = ap (λ x. attached_feed w.history x) e ∙ off.1 in
      ap (λ (o : Option F). is_some o) q

  out_of : (N : ℕ) (w : EditorState F) (c b : ℕ) → b ≡ c → IsDetached N w c → (is_some (attached_feed w.history b) || false) ≡ true → ⊥
  out_of N w c b e off h = true≢false (sym (rw (detached_not N w c b e off) at h))

  -- The pass may aim at a bus of the chain.
  pub never_aimed_not : (N : ℕ) (link : ℕ → ℕ) (w : EditorState F) (ph : Phase F) (b : ℕ) → PhaseFacts N link w ph → (is_some (attached_feed w.history b) || half_attached ph b) ≡ true → never_aimed ph b ≡ false
  never_aimed_not N link w (Quiescent c x) b d h = cases b c (λ e. absurd (out_of N w c b e d.0 h)) (λ n. ne_eqb b c n)
  never_aimed_not N link w (Unreferenced c x) b d h = cases b c (λ e. absurd (out_of N w c b e d.0 h)) (λ n. ne_eqb b c n)
  never_aimed_not N link w (Emptying c) b d h = cases b c (λ e. absurd (out_of N w c b e d.0 h)) (λ n. ne_eqb b c n)
  never_aimed_not N link w (Emptied c) b d h = cases b c (λ e. absurd (out_of N w c b e d.0 h)) (λ n. ne_eqb b c n)
  never_aimed_not N link w Idle b d h = refl
  never_aimed_not N link w (Linked c) b d h = refl
  never_aimed_not N link w (Filling c) b d h = refl
  never_aimed_not N link w (Filled c x) b d h = refl
  never_aimed_not N link w (Inserted c x) b d h = refl
  never_aimed_not N link w (FlagSet c) b d h = refl
  never_aimed_not N link w (FlagCleared c x) b d h = refl
  never_aimed_not N link w (Unlinked c x) b d h = refl

  pub never_held_of : (ph : Phase F) (b : ℕ) → never_aimed ph b ≡ false → never_held ph b ≡ false
  never_held_of (Unreferenced c x) b h = h
  never_held_of (Emptying c) b h = h
  never_held_of (Emptied c) b h = h
  never_held_of (Quiescent c x) b h = refl
  never_held_of Idle b h = refl
  never_held_of (Linked c) b h = refl
  never_held_of (Filling c) b h = refl
  never_held_of (Filled c x) b h = refl
  never_held_of (Inserted c x) b h = refl
  never_held_of (FlagSet c) b h = refl
  never_held_of (FlagCleared c x) b h = refl
  never_held_of (Unlinked c x) b h = refl

  -- The dummy is no bus that was unlinked.
  pub never_aimed_end : (N : ℕ) (link : ℕ → ℕ) (w : EditorState F) (ph : Phase F) → PhaseFacts N link w ph → never_aimed ph N ≡ false
  never_aimed_end N link w (Quiescent c x) d = ne_eqb N c (λ e. let a = d.0.0 in absurd (omega arith))
  never_aimed_end N link w (Unreferenced c x) d = ne_eqb N c (λ e. let a = d.0.0 in absurd (omega arith))
  never_aimed_end N link w (Emptying c) d = ne_eqb N c (λ e. let a = d.0.0 in absurd (omega arith))
  never_aimed_end N link w (Emptied c) d = ne_eqb N c (λ e. let a = d.0.0 in absurd (omega arith))
  never_aimed_end N link w Idle d = refl
  never_aimed_end N link w (Linked c) d = refl
  never_aimed_end N link w (Filling c) d = refl
  never_aimed_end N link w (Filled c x) d = refl
  never_aimed_end N link w (Inserted c x) d = refl
  never_aimed_end N link w (FlagSet c) d = refl
  never_aimed_end N link w (FlagCleared c x) d = refl
  never_aimed_end N link w (Unlinked c x) d = refl

  -- The editor does not have the cell of a bus where the pass may be.
  pub with_editor_not : (N : ℕ) (link : ℕ → ℕ) (w : EditorState F) (ph : Phase F) (b : ℕ) → PhaseFacts N link w ph → ((is_some (attached_feed w.history b) || half_attached ph b) || retired ph b) ≡ true → with_editor ph b ≡ false
  with_editor_not N link w (Filling c) b d h = cases b c (λ e. absurd (true≢false (sym (rw (detached_not N w c b e d.0) at h)))) (λ n. ne_eqb b c n)
  with_editor_not N link w (Emptying c) b d h = cases b c (λ e. absurd (true≢false (sym (rw (detached_not N w c b e d.0) at h)))) (λ n. ne_eqb b c n)
  with_editor_not N link w (Unreferenced c x) b d h = refl
  with_editor_not N link w (Emptied c) b d h = refl
  with_editor_not N link w (Quiescent c x) b d h = refl
  with_editor_not N link w Idle b d h = refl
  with_editor_not N link w (Linked c) b d h = refl
  with_editor_not N link w (Filled c x) b d h = refl
  with_editor_not N link w (Inserted c x) b d h = refl
  with_editor_not N link w (FlagSet c) b d h = refl
  with_editor_not N link w (FlagCleared c x) b d h = refl
  with_editor_not N link w (Unlinked c x) b d h = refl

  -- The feed of an attached bus is the one of the history.
  none_some : {P : Type 0} (f : F) → None ≡ Some f → P
  none_some f e = absurd (cc)

  stored_feed_else : (N : ℕ) (w : EditorState F) (c b : ℕ) (x : Option F) (f : F) → IsDetached N w c → attached_feed w.history b ≡ Some f → cond (b == c) x (attached_feed w.history b) ≡ Some f
  stored_feed_else N w c b x f off e = cases b c (λ q. none_some f (sym off.1 ∙ (ap (λ k. attached_feed w.history k) (sym q) ∙ e))) (λ n. rw (ne_eqb b c n) e)

  pub stored_feed_on : (N : ℕ) (link : ℕ → ℕ) (w : EditorState F) (ph : Phase F) (b : ℕ) (f : F) → PhaseFacts N link w ph → attached_feed w.history b ≡ Some f → stored_feed ph b (attached_feed w.history b) ≡ Some f
  stored_feed_on N link w (Filled c x) b f d e = stored_feed_else N w c b x f d.0 e
  stored_feed_on N link w (Inserted c x) b f d e = stored_feed_else N w c b x f d.0 e
  stored_feed_on N link w (FlagCleared c x) b f d e = stored_feed_else N w c b x f d.0 e
  stored_feed_on N link w (Unlinked c x) b f d e = stored_feed_else N w c b x f d.0 e
  stored_feed_on N link w (Quiescent c x) b f d e = stored_feed_else N w c b x f d.0 e
  stored_feed_on N link w (Unreferenced c x) b f d e = stored_feed_else N w c b x f d.0 e
  stored_feed_on N link w Idle b f d e = e
  stored_feed_on N link w (Linked c) b f d e = e
  stored_feed_on N link w (Filling c) b f d e = e
  stored_feed_on N link w (FlagSet c) b f d e = e
  stored_feed_on N link w (Emptying c) b f d e = e
  stored_feed_on N link w (Emptied c) b f d e = e

  -- What was attached ever since the visit began is attached now.
  pub ever_now : (w : EditorState F) (p : PassState F) (b : ℕ) → p.last_count ≤ length w.history → AttachedSinceBegin w p b → is_some (attached_feed w.history b) ≡ true
  ever_now w p b le ever = subst (λ (o : Option F). is_some o ≡ true) (on_all w.history (length w.history) b refl) (ever (length w.history) le (omega arith))

  pub some_of : (o : Option F) → is_some o ≡ true → (f : F) × (o ≡ Some f)
  some_of None e = lost (sym e)
  some_of (Some f) e = (f, refl)

  -- The same for a list whose invariant holds.
  pub chain_free : (N : ℕ) (t : Memory F) (w : EditorState F) (p : PassState F) (k : ListInvariant N t w p) (b : ℕ) → b < N → has b w.chain ≡ true → never_aimed w.phase b ≡ false
  chain_free N t w p k b lt h = never_aimed_not N t.link w w.phase b k.chain_invariant.phase_facts (sym (k.chain_invariant.members b lt) ∙ h)

  pub not_with_editor : (N : ℕ) (t : Memory F) (w : EditorState F) (p : PassState F) (k : ListInvariant N t w p) (b : ℕ) → b ≢ N → InChainOrRetired N w b → with_editor w.phase b ≡ false
  not_with_editor N t w p k b n at = let a = at n in with_editor_not N t.link w w.phase b k.chain_invariant.phase_facts ((λ i. sym (k.chain_invariant.members b a.0) i || retired w.phase b) ∙ a.1)

  pub seen_made : (N : ℕ) (t : Memory F) (w : EditorState F) (p : PassState F) → ListInvariant N t w p → p.last_count ≤ length w.history
  seen_made N t w p k = let a = k.last_count in let c = k.chain_invariant.count in omega arith
