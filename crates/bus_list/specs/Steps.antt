-- The kinds of step, one definition each: what a step of the kind makes of its seat, and which fact it tells.
-- `s` is the step that is made, `me` its seat before (the view and the slots that it holds), `n` the word that it found or stored,
-- `then` the seat after it. Each adds its note to the view.
use Rattle.std.specs.Prelude.{◌≡◌, ℕ, ◌/◌, ◌≤◌, ◌<◌, true, false, ◌||◌, ◌==◌, List, [], ◌∷◌, ◌++◌, slice_index, slice_set, Option, Some, None, is_some}
use Rattle.atomic_table.specs.Table.{Step, Me, rest}
use Rattle.bus_list.specs.declared.view.Note.{Note}
use Rattle.bus_list.specs.declared.view.Note.TheVariants.{Edits, Steps, Link, Flag, References, Feed, OwnLink, DummyLink, PredecessorLink, FlagStored, EditsStored}
use Rattle.bus_list.specs.declared.view.Phase.{Phase}
use Rattle.bus_list.specs.declared.view.Phase.TheVariants.{Idle, Linked, Unreferenced}
use Rattle.bus_list.specs.declared.view.EditorState.{EditorState}
use Rattle.bus_list.specs.declared.view.PassState.{PassState}
use Rattle.bus_list.specs.declared.view.View.{View}
use Rattle.bus_list.specs.Visits.{has, Distinct, Each, buses_of, LawfulFrom}
use Rattle.bus_list.specs.Invariant.{Path, bit}
use Rattle.bus_list.specs.Transitions.{begun, step_entered, step_left, link_loaded, reference_added, feed_returned, reference_dropped, flag_loaded, feed_taken, visit_closed, at, filling, filled, inserted, flag_set, flag_cleared, unlinked, quiesced, unreferenced, emptying, emptied, phase_bus}

-- What a kind of step tells its caller.
abbrev pub Told : Type 0 → Type 1
Told F = Step (Option F) → Me (Option F) (View F) → ℕ → Me (Option F) (View F) → Type 0

-- The editor's copy of the links leads through the chain, in which the bus stands.
pub record Route (N : ℕ) (links chain : List ℕ) (bus : ℕ) : Type 0 where
  pub path : Path N (λ b. slice_index links b) (slice_index links N) chain
  pub apart : Distinct chain
  pub inside : Each (λ b. b < N) chain
  pub there : has bus chain ≡ true

module _ {F : Type 0} where
  -- The view after a step of the pass, of the editor, and of the editor where it stored a link.
  abbrev pub after_pass_step : PassState F → Note → View F → View F
  after_pass_step p x v = record v { reading = p; notes = v.notes ++ x ∷ [] }

  abbrev pub after_editor_step : EditorState F → Note → View F → View F
  after_editor_step w x v = record v { editing = w; notes = v.notes ++ x ∷ [] }

  abbrev pub after_link_store : List ℕ → EditorState F → Note → View F → View F
  after_link_store l w x v = record v { links = l; editing = w; notes = v.notes ++ x ∷ [] }

  -- The seat after a step that moves no slot: what the pass knows became f of it, and so on.
  abbrev pub PassStep : (PassState F → PassState F) → Note → Me (Option F) (View F) → Me (Option F) (View F) → Type 0
  PassStep f x me then = then ≡ (after_pass_step (f me.0.reading) x me.0, me.1)

  abbrev pub EditorStep : (EditorState F → EditorState F) → Note → Me (Option F) (View F) → Me (Option F) (View F) → Type 0
  EditorStep f x me then = then ≡ (after_editor_step (f me.0.editing) x me.0, me.1)

  -- The link of the bus b was stored.
  abbrev pub LinkStore : ℕ → ℕ → (EditorState F → EditorState F) → Note → Me (Option F) (View F) → Me (Option F) (View F) → Type 0
  LinkStore b link f x me then = then ≡ (after_link_store (slice_set me.0.links b link) (f me.0.editing) x me.0, me.1)

  -- What the slot that was taken last holds.
  abbrev pub top_slot : List (ℕ × Option F) → Option F
  top_slot [] = None
  top_slot (x ∷ xs) = x.1

  -- The feed that a detach takes out.
  abbrev pub payload : Phase F → Option F
  payload (Unreferenced c x) = x
  payload _ = None

  -- A visit begins: the count of edits is loaded.
  abbrev pub Began : Told F
  Began s me n then = PassStep (begun n) (Edits n) me then × (me.0.reading.last_count ≤ n) × (me.0.reading.start ≤ n)

  -- The pass adds 1 to the step counter.
  abbrev pub EnteredStep : Told F
  EnteredStep s me n then = PassStep step_entered (Steps n) me then

  -- The pass subtracts 1 from the step counter.
  abbrev pub LeftStep : Told F
  LeftStep s me n then = PassStep step_left (Steps n) me then

  -- The pass loads the link of the bus that it holds, or of the dummy. It finds a bus or the end.
  abbrev pub LoadedLink : Told F
  LoadedLink s me n then = PassStep (link_loaded s.slots n) (Link me.0.reading.held n) me then × (n ≤ s.slots)

  -- The pass adds 1 to the reference count of the bus that it aims at, which it hasn't walked before.
  abbrev pub AddedReference : Told F
  AddedReference s me n then =
      PassStep (reference_added s.slots) (References me.0.reading.aim n) me then × (me.0.reading.aim < s.slots) × (has me.0.reading.aim me.0.reading.walked ≡ false)

  -- The pass gives the feed back to its cell.
  abbrev pub ReturnedFeed : Told F
  ReturnedFeed s me n then = then ≡ (after_pass_step (feed_returned s.slots me.0.reading) (Feed me.0.reading.borrowed) me.0, rest me.1)

  -- The pass subtracts 1 from the reference count of the bus that it leaves.
  abbrev pub SubtractedReference : Told F
  SubtractedReference s me n then = PassStep (reference_dropped s.slots) (References me.0.reading.previous n) me then

  -- The pass loads the flag of the bus that it holds: it is set exactly where the bus is attached, with a feed x.
  abbrev pub LoadedFlag : Told F
  LoadedFlag s me n then = (x : Option F) × (n ≡ bit (is_some x)) × (has me.0.reading.held (buses_of me.0.reading.given) ≡ false)
      × PassStep (flag_loaded x) (Flag me.0.reading.held n) me then

  -- The pass takes the feed out of its cell: it is the one of the pair that the visit gave last.
  abbrev pub TookFeed : Told F
  TookFeed s me n then = (f : F) × ((ps : List (ℕ × F)) × (me.0.reading.given ≡ ps ++ (me.0.reading.held, f) ∷ []))
      × (then ≡ (after_pass_step (feed_taken f me.0.reading) (Feed me.0.reading.held) me.0, (me.0.reading.held, Some f) ∷ me.1))

  -- A visit ends: the count of edits is loaded.
  abbrev pub Ended : Told F
  Ended s me n then = PassStep (visit_closed s.slots n) (Edits n) me then × (me.0.reading.last_count ≤ n)

  -- The editor stores the link of a bus that is not in the list.
  abbrev pub StoredOwnLink : Told F
  StoredOwnLink s me n then = LinkStore (s.word / 3) n (at (Linked (s.word / 3))) (OwnLink (s.word / 3) n) me then

  -- The editor takes the empty cell of that bus, and gives it back with a feed in it.
  abbrev pub OpenedCell : Told F
  OpenedCell s me n then = let bus = phase_bus s.slots me.0.editing.phase in
      then ≡ (after_editor_step (at (filling me.0.editing.phase) me.0.editing) (Feed bus) me.0, (bus, None) ∷ me.1)

  abbrev pub FilledCell : Told F
  FilledCell s me n then =
      then ≡ (after_editor_step (at (filled (top_slot me.1) me.0.editing.phase) me.0.editing) (Feed (phase_bus s.slots me.0.editing.phase)) me.0, rest me.1)

  -- The editor stores the dummy's link: the bus is the first of the list now.
  abbrev pub StoredDummyLink : Told F
  StoredDummyLink s me n then = LinkStore s.slots n (inserted me.0.editing.phase) (DummyLink n) me then

  -- The editor sets the flag: the bus is attached now.
  abbrev pub SetFlag : Told F
  SetFlag s me n then = EditorStep (flag_set me.0.editing.phase) (FlagStored (phase_bus s.slots me.0.editing.phase)) me then

  -- The editor stores the count of edits: the edit is over.
  abbrev pub StoredEdits : Told F
  StoredEdits s me n then = EditorStep (at Idle) (EditsStored n) me then

  -- The editor clears the flag: the bus is detached now. It stands in the list, so the copy of the links leads to it.
  abbrev pub ClearedFlag : Told F
  ClearedFlag s me n then = EditorStep (flag_cleared (s.word / 3)) (FlagStored (s.word / 3)) me then × Route s.slots me.0.links me.0.editing.chain (s.word / 3)

  -- The editor stores the link of the predecessor: the bus is out of the list now.
  abbrev pub StoredPredecessorLink : Told F
  StoredPredecessorLink s me n then = LinkStore (s.word / 3) n (unlinked me.0.editing.phase) (PredecessorLink (s.word / 3) n) me then

  -- The editor loads the step counter. It is 0 where the pass is in no step.
  abbrev pub LoadedSteps : Told F
  LoadedSteps s me n then = EditorStep (at (quiesced n me.0.editing.phase)) (Steps n) me then × (me.0.reads ≡ true → n ≡ bit me.0.reading.stepping)

  -- The editor loads the reference count of the bus that it unlinked. It is 0 where the pass doesn't hold the bus.
  abbrev pub LoadedReferences : Told F
  LoadedReferences s me n then = EditorStep (at (unreferenced n me.0.editing.phase)) (References (phase_bus s.slots me.0.editing.phase) n) me then
      × (me.0.reads ≡ true → n ≡ bit ((phase_bus s.slots me.0.editing.phase == me.0.reading.held) || (phase_bus s.slots me.0.editing.phase == me.0.reading.previous)))

  -- The editor takes the cell with the feed in it, and gives it back empty.
  abbrev pub TookCell : Told F
  TookCell s me n then = let bus = phase_bus s.slots me.0.editing.phase in
      then ≡ (after_editor_step (at (emptying me.0.editing.phase) me.0.editing) (Feed bus) me.0, (bus, payload me.0.editing.phase) ∷ me.1)

  abbrev pub EmptiedCell : Told F
  EmptiedCell s me n then = then ≡ (after_editor_step (at (emptied me.0.editing.phase) me.0.editing) (Feed (phase_bus s.slots me.0.editing.phase)) me.0, rest me.1)

  -- A load after a join, which tells that the visits are lawful. It makes no note.
  abbrev pub Learnt : Told F
  Learnt s me n then = (then ≡ me) × LawfulFrom me.0.editing.history me.0.reading.start me.0.reading.visits me.0.reading.last_count
