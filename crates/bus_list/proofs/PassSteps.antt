-- The steps of the pass, as steps of the table, keep its rule and tell what they have to.
use Rattle.std.proofs.Common.{◌≡◌, ◌≢◌, ℕ, ◌+◌, ◌-◌, ◌*◌, ◌%◌, ◌^◌, ◌≤◌, ◌<◌, true, false, List, [], ◌∷◌, ◌++◌, set, refl, sym, ap, ◌∙◌, subst, arith, Option, Some, length-set}
use Rattle.std.specs.Prelude.{slice_index}
use Rattle.std.proofs.lemmas.List.{set-get_or}
use mathlib.Core.Option.{some, none, some-injective, some-ne-none}
use lib.ListN.{get_elem?}
use Rattle.atomic_table.specs.Table.{State, Me, step, stepped, homes_after, Allows, keeps, takes, gives, rest}
use Rattle.bus_list.specs.declared.view.Note.{Note}
use Rattle.bus_list.specs.declared.view.Note.TheVariants.{Edits, Steps, Link, Flag, References, Feed}
use Rattle.bus_list.specs.declared.view.FlagState.TheVariants.{NotLoaded, FoundSet, Settled}
use Rattle.bus_list.specs.declared.view.PassState.{PassState}
use Rattle.bus_list.specs.declared.view.View.{View}
use Rattle.bus_list.specs.declared.visit.Visit.{Visit}
use Rattle.bus_list.specs.declared.history.Entry.{Entry}
use Rattle.bus_list.specs.Visits.{attached_feed, LawfulFrom}
use Rattle.bus_list.specs.Invariant.{Memory, ListInvariant, updated}
use Rattle.bus_list.specs.Transitions.{begun, step_entered, step_left, link_loaded, reference_added, feed_returned, reference_dropped, flag_loaded, feed_taken, visit_closed}
use Rattle.bus_list.specs.Rule.{memory, TableInvariant}
use Rattle.bus_list.specs.Steps.{after_pass_step, Began, EnteredStep, LeftStep, LoadedLink, AddedReference, ReturnedFeed, SubtractedReference, LoadedFlag, TookFeed, Ended}
use Rattle.bus_list.proofs.LoadLink.{loads_link}
use Rattle.bus_list.proofs.PassKinds as pass
use Rattle.bus_list.proofs.GivingKinds as giving
use Rattle.bus_list.proofs.AcrossEdits.{borrowed_at}
use Rattle.bus_list.proofs.TableChanges.{memory_steps, memory_references, memory_cell, invariant_references, walks_on, copied_else}

module _ {F : Type 0} where
  start_seen : (h : List (Entry F)) (low : ℕ) (vs : List (Visit F)) (high : ℕ) → LawfulFrom h low vs high → low ≤ high
  start_seen h low [] high l = l
  start_seen h low (v ∷ vs) high l = let a = start_seen h v.until vs high l.2 in let b = l.0 in let c = l.1.order in omega arith

  module _ (N id : ℕ) (me : Me (Option F) (View F)) (role : me.0.reads ≡ true) (s : State (Option F) (View F)) (k : TableInvariant N s) (at : get_elem? s.views id ≡ some me.0) where
    abbrev p : PassState F
    p = me.0.reading

    abbrev t : Memory F
    t = memory N s.words s.homes

    invariant : ListInvariant N t k.editing p
    invariant = subst (λ q. ListInvariant N t k.editing q) (sym ((k.roles id me.0 at).as_pass role).1) k.invariant

    loaded : (i : ℕ) (q : PassState F) (x : Note) → ListInvariant N t k.editing q → TableInvariant N (stepped s i (slice_index s.words i) id me.1 (after_pass_step q x me.0) keeps)
    loaded i q x c = subst (λ ws. TableInvariant N record { words = ws; homes = s.homes; views = set s.views id (after_pass_step q x me.0) }) (sym (set-get_or s.words i 0))
        (walks_on N s k id me.0 at role s.words s.homes q (me.0.notes ++ x ∷ []) k.words k.slots c k.copied)

    loaded_home : (i c : ℕ) (v : mathlib.Core.Option.Option (Option F)) (q : PassState F) (x : Note) → c < N → ListInvariant N (record t { cell = updated t.cell c (some v) }) k.editing q
        → TableInvariant N record { words = set s.words i (slice_index s.words i); homes = set s.homes c v; views = set s.views id (after_pass_step q x me.0) }
    loaded_home i c v q x cl core' = subst (λ ws. TableInvariant N record { words = ws; homes = set s.homes c v; views = set s.views id (after_pass_step q x me.0) }) (sym (set-get_or s.words i 0))
        (walks_on N s k id me.0 at role s.words (set s.homes c v) q (me.0.notes ++ x ∷ []) k.words (length-set s.homes c v ∙ k.slots)
        (subst (λ (u : Memory F). ListInvariant N u k.editing q) (sym (memory_cell N c v s.words s.homes (let z = k.slots in omega arith))) core') k.copied)

    counted : (v : ℕ) (q : PassState F) (x : Note) → ListInvariant N (record t { steps = v }) k.editing q → TableInvariant N (stepped s (3 * N + 2) v id me.1 (after_pass_step q x me.0) keeps)
    counted v q x c = walks_on N s k id me.0 at role (set s.words (3 * N + 2) v) s.homes q (me.0.notes ++ x ∷ []) (length-set s.words (3 * N + 2) v ∙ k.words) k.slots
        (subst (λ (u : Memory F). ListInvariant N u k.editing q) (sym (memory_steps N v s.words s.homes k.words)) (invariant_references N (record t { steps = v }) k.editing q v c))
        (copied_else N s.words k.links (3 * N + 2) v (λ b le e. absurd (omega arith)) k.copied)

    referred : (c v : ℕ) (q : PassState F) (x : Note) → c < N → ListInvariant N (record t { references = updated t.references c v }) k.editing q → TableInvariant N (stepped s (3 * c + 2) v id me.1 (after_pass_step q x me.0) keeps)
    referred c v q x cl core' = walks_on N s k id me.0 at role (set s.words (3 * c + 2) v) s.homes q (me.0.notes ++ x ∷ []) (length-set s.words (3 * c + 2) v ∙ k.words) k.slots
        (subst (λ (u : Memory F). ListInvariant N u k.editing q) (sym (memory_references N c v s.words s.homes cl k.words)) core')
        (copied_else N s.words k.links (3 * c + 2) v (λ b le e. absurd (omega arith)) k.copied)

  module _ (N id : ℕ) (me : Me (Option F) (View F)) (role : me.0.reads ≡ true) where
    pub begins_visit_kept : me.0.reading.opened ≡ false → me.0.reading.previous ≡ N → Allows (TableInvariant N) N id me (3 * N + 1) (λ n. n) (Began (step N (3 * N + 1) 0 0 none) me)
    begins_visit_kept opened previous s k slots at fits =
        let c = invariant N id me role s k at in
        let n = slice_index s.words (3 * N + 1) in (
          after_pass_step (begun n me.0.reading) (Edits n) me.0,
          keeps,
          tt,
          loaded N id me role s k at (3 * N + 1) (begun n me.0.reading) (Edits n) (pass.begins_visit N (memory N s.words s.homes) k.editing me.0.reading c opened previous),
          (refl, c.last_count, let a = start_seen k.editing.history me.0.reading.start me.0.reading.visits me.0.reading.last_count c.past in let b = c.last_count in omega arith),
        )

    pub enters_step_kept : me.0.reading.stepping ≡ false → Allows (TableInvariant N) N id me (3 * N + 2) (λ n. (n + 1) % 2 ^ 64) (EnteredStep (step N (3 * N + 2) 1 0 none) me)
    enters_step_kept off s k slots at fits =
        let c = invariant N id me role s k at in
        let n = slice_index s.words (3 * N + 2) in
        let r = pass.enters_step N (memory N s.words s.homes) k.editing me.0.reading c off in
        let one : (n + 1) % 2 ^ 64 ≡ 1 = ap (λ x. (x + 1) % 2 ^ 64) r.0 in (
          after_pass_step (step_entered me.0.reading) (Steps n) me.0,
          keeps,
          tt,
          subst (λ v. TableInvariant N (stepped s (3 * N + 2) v id me.1 (after_pass_step (step_entered me.0.reading) (Steps n) me.0) keeps)) (sym one) (counted N id me role s k at 1 (step_entered me.0.reading) (Steps n) r.1),
          refl,
        )

    pub leaves_step_kept : me.0.reading.stepping ≡ true → me.0.reading.aim ≡ N → Allows (TableInvariant N) N id me (3 * N + 2) (λ n. (n + (2 ^ 64 - 1)) % 2 ^ 64) (LeftStep (step N (3 * N + 2) 1 0 none) me)
    leaves_step_kept on aim s k slots at fits =
        let c = invariant N id me role s k at in
        let n = slice_index s.words (3 * N + 2) in
        let r = pass.leaves_step N (memory N s.words s.homes) k.editing me.0.reading c on aim in
        let none_left : (n + (2 ^ 64 - 1)) % 2 ^ 64 ≡ 0 = ap (λ x. (x + (2 ^ 64 - 1)) % 2 ^ 64) r.0 in (
          after_pass_step (step_left me.0.reading) (Steps n) me.0,
          keeps,
          tt,
          subst (λ v. TableInvariant N (stepped s (3 * N + 2) v id me.1 (after_pass_step (step_left me.0.reading) (Steps n) me.0) keeps)) (sym none_left) (counted N id me role s k at 0 (step_left me.0.reading) (Steps n) r.1),
          refl,
        )

    pub loads_link_kept : me.0.reading.stepping ≡ true → me.0.reading.opened ≡ true → me.0.reading.ended ≡ false → me.0.reading.aim ≡ N → me.0.reading.previous ≡ N → me.0.reading.flag_state ≡ Settled
        → Allows (TableInvariant N) N id me (3 * me.0.reading.held) (λ n. n) (LoadedLink (step N (3 * me.0.reading.held) 0 0 none) me)
    loads_link_kept on opened ended aim previous flag_state s k slots at fits =
        let c = invariant N id me role s k at in
        let i = 3 * me.0.reading.held in
        let n = slice_index s.words i in
        let r = loads_link N (memory N s.words s.homes) k.editing me.0.reading c on opened ended aim previous flag_state in
        (after_pass_step (link_loaded N n me.0.reading) (Link me.0.reading.held n) me.0, keeps, tt, loaded N id me role s k at i (link_loaded N n me.0.reading) (Link me.0.reading.held n) r.0, (refl, r.1))

    pub adds_reference_kept : me.0.reading.aim ≢ N → me.0.reading.previous ≡ N → Allows (TableInvariant N) N id me (3 * me.0.reading.aim + 2) (λ n. (n + 1) % 2 ^ 64) (AddedReference (step N (3 * me.0.reading.aim + 2) 1 0 none) me)
    adds_reference_kept aim previous s k slots at fits =
        let c = invariant N id me role s k at in
        let a = me.0.reading.aim in
        let n = slice_index s.words (3 * a + 2) in
        let r = pass.adds_reference N (memory N s.words s.homes) k.editing me.0.reading c aim previous in
        let one : (n + 1) % 2 ^ 64 ≡ 1 = ap (λ x. (x + 1) % 2 ^ 64) r.1 in
        let q = reference_added N me.0.reading in
        let o = c.open_visit (pass.aim_open N (memory N s.words s.homes) k.editing me.0.reading c aim) in (
          after_pass_step q (References a n) me.0,
          keeps,
          tt,
          subst (λ v. TableInvariant N (stepped s (3 * a + 2) v id me.1 (after_pass_step q (References a n) me.0) keeps)) (sym one) (referred N id me role s k at a 1 q (References a n) r.0 r.2),
          (refl, r.0, (o.aim_new aim).0),
        )

    pub subtracts_reference_kept : me.0.reading.previous ≢ N → me.0.reading.borrowed ≢ me.0.reading.previous → Allows (TableInvariant N) N id me (3 * me.0.reading.previous + 2) (λ n. (n + (2 ^ 64 - 1)) % 2 ^ 64) (SubtractedReference (step N (3 * me.0.reading.previous + 2) 1 0 none) me)
    subtracts_reference_kept previous borrowed s k slots at fits =
        let c = invariant N id me role s k at in
        let a = me.0.reading.previous in
        let n = slice_index s.words (3 * a + 2) in
        let r = pass.subtracts_reference N (memory N s.words s.homes) k.editing me.0.reading c previous borrowed in
        let none_left : (n + (2 ^ 64 - 1)) % 2 ^ 64 ≡ 0 = ap (λ x. (x + (2 ^ 64 - 1)) % 2 ^ 64) r.1 in
        let q = reference_dropped N me.0.reading in (
          after_pass_step q (References a n) me.0,
          keeps,
          tt,
          subst (λ v. TableInvariant N (stepped s (3 * a + 2) v id me.1 (after_pass_step q (References a n) me.0) keeps)) (sym none_left) (referred N id me role s k at a 0 q (References a n) r.0 r.2),
          refl,
        )

    pub loads_flag_kept : me.0.reading.held ≢ N → me.0.reading.flag_state ≡ NotLoaded → Allows (TableInvariant N) N id me (3 * me.0.reading.held + 1) (λ n. n) (LoadedFlag (step N (3 * me.0.reading.held + 1) 0 0 none) me)
    loads_flag_kept held flag_state s k slots at fits =
        let c = invariant N id me role s k at in
        let i = 3 * me.0.reading.held + 1 in
        let n = slice_index s.words i in
        let r = giving.loads_flag N (memory N s.words s.homes) k.editing me.0.reading c held flag_state in
        let x = attached_feed k.editing.history me.0.reading.held in
        let q = flag_loaded x me.0.reading in
        (after_pass_step q (Flag me.0.reading.held n) me.0, keeps, tt, loaded N id me role s k at i q (Flag me.0.reading.held n) r.2, (x, r.0, r.1, refl))

    pub takes_feed_kept : (i : ℕ) → me.0.reading.held ≢ N → me.0.reading.flag_state ≡ FoundSet → me.0.reading.borrowed ≡ N → Allows (TableInvariant N) N id me i (λ n. n) (TookFeed (step N i 0 0 none) me)
    takes_feed_kept i held flag_state borrowed s k slots at fits =
        let c = invariant N id me role s k at in
        let h = me.0.reading.held in
        let r = giving.takes_feed N (memory N s.words s.homes) k.editing me.0.reading c held flag_state borrowed in
        let q = feed_taken r.0 me.0.reading in (
          after_pass_step q (Feed h) me.0,
          takes h (Some r.0),
          r.2,
          loaded_home N id me role s k at i h none q (Feed h) (c.pass_invariant.held_at held).0 r.3,
          (r.0, r.1, refl),
        )

    pub returns_feed_kept : (i : ℕ) → me.0.reading.borrowed ≢ N → me.1 ≡ (me.0.reading.borrowed, me.0.reading.borrowed_feed) ∷ rest me.1 → Allows (TableInvariant N) N id me i (λ n. n) (ReturnedFeed (step N i 0 0 none) me)
    returns_feed_kept i borrowed has s k slots at fits =
        let c = invariant N id me role s k at in
        let h = me.0.reading.borrowed in
        let q = feed_returned N me.0.reading in
        let homes : homes_after s.homes me.1 gives ≡ set s.homes h (some me.0.reading.borrowed_feed) = ap (λ l. homes_after s.homes l gives) has in (
          after_pass_step q (Feed h) me.0,
          gives,
          tt,
          subst (λ hs. TableInvariant N record { words = set s.words i (slice_index s.words i); homes = hs; views = set s.views id (after_pass_step q (Feed h) me.0) }) (sym homes)
              (loaded_home N id me role s k at i h (some me.0.reading.borrowed_feed) q (Feed h) (borrowed_at N k.editing me.0.reading c.pass_invariant borrowed borrowed).0 (pass.returns_feed N (memory N s.words s.homes) k.editing me.0.reading c borrowed)),
          refl,
        )

    pub ends_visit_kept : me.0.reading.opened ≡ true → me.0.reading.aim ≡ N → me.0.reading.previous ≡ N → me.0.reading.flag_state ≡ Settled → Allows (TableInvariant N) N id me (3 * N + 1) (λ n. n) (Ended (step N (3 * N + 1) 0 0 none) me)
    ends_visit_kept opened aim previous flag_state s k slots at fits =
        let c = invariant N id me role s k at in
        let n = slice_index s.words (3 * N + 1) in
        let q = visit_closed N n me.0.reading in
        (after_pass_step q (Edits n) me.0, keeps, tt, loaded N id me role s k at (3 * N + 1) q (Edits n) (giving.ends_visit N (memory N s.words s.homes) k.editing me.0.reading c opened aim previous flag_state), (refl, c.last_count))
