-- What each step makes of what the editor and the pass know. Where an edit is in another phase, a transition changes nothing.
use Rattle.std.specs.Prelude.{ℕ, true, false, cond, ◌==◌, List, [], ◌∷◌, ◌++◌, Option, Some, None}
use Rattle.bus_list.specs.declared.history.Entry.TheVariants.{On, Off}
use Rattle.bus_list.specs.declared.view.Phase.{Phase}
use Rattle.bus_list.specs.declared.view.Phase.TheVariants.{Idle, Linked, Filling, Filled, Inserted, FlagSet, FlagCleared, Unlinked, Quiescent, Unreferenced, Emptying, Emptied}
use Rattle.bus_list.specs.declared.view.FlagState.TheVariants.{NotLoaded, FoundSet, Settled}
use Rattle.bus_list.specs.declared.visit.Visit.{Visit}
use Rattle.bus_list.specs.declared.view.EditorState.{EditorState}
use Rattle.bus_list.specs.declared.view.PassState.{PassState}
use Rattle.bus_list.specs.Visits.{attached_feed}

-- The list without the number.
abbrev pub cut : ℕ → List ℕ → List ℕ
cut c [] = []
cut c (x ∷ xs) = cond (c == x) xs (x ∷ cut c xs)

module _ {F : Type 0} where
  -- The pass loaded the count of edits: a visit begins.
  abbrev pub begun : ℕ → PassState F → PassState F
  begun n p = record p { last_count = n; opened = true; ended = false; flag_state = Settled; walked = []; given = [] }

  -- It added to the step counter, or subtracted from it.
  abbrev pub step_entered : PassState F → PassState F
  step_entered p = record p { stepping = true }

  abbrev pub step_left : PassState F → PassState F
  step_left p = record p { stepping = false }

  -- It loaded a link, and found a bus, or the end.
  abbrev pub aimed : ℕ → PassState F → PassState F
  aimed n p = record p { aim = n }

  abbrev pub at_end : ℕ → PassState F → PassState F
  at_end N p = record p { ended = true; previous = p.held; held = N }

  abbrev pub link_loaded : ℕ → ℕ → PassState F → PassState F
  link_loaded N n p = cond (n == N) (at_end N p) (aimed n p)

  -- It added to the reference count of the bus that it aimed at, and holds it.
  abbrev pub reference_added : ℕ → PassState F → PassState F
  reference_added N p = record p { previous = p.held; held = p.aim; aim = N; flag_state = NotLoaded; walked = p.walked ++ p.aim ∷ [] }

  -- It gave the feed back to its cell.
  abbrev pub feed_returned : ℕ → PassState F → PassState F
  feed_returned N p = record p { borrowed = N; borrowed_feed = None }

  -- It let go of the bus that it held before.
  abbrev pub reference_dropped : ℕ → PassState F → PassState F
  reference_dropped N p = record p { previous = N }

  -- It loaded the flag: the bus is attached with that feed, or is not.
  abbrev pub flag_loaded : Option F → PassState F → PassState F
  flag_loaded None p = record p { flag_state = Settled }
  flag_loaded (Some f) p = record p { flag_state = FoundSet; given = p.given ++ (p.held, f) ∷ [] }

  -- It took the feed out of its cell.
  abbrev pub feed_taken : F → PassState F → PassState F
  feed_taken f p = record p { borrowed = p.held; borrowed_feed = Some f; flag_state = Settled }

  -- It loaded the count of edits: the visit ends.
  abbrev pub visit_of : ℕ → PassState F → Visit F
  visit_of n p = record { from = p.last_count; until = n; pairs = p.given; whole = p.ended }

  abbrev pub visit_closed : ℕ → ℕ → PassState F → PassState F
  visit_closed N n p = record p { visits = p.visits ++ visit_of n p ∷ []; last_count = n; opened = false; previous = p.held; held = N }

  -- The editor comes to a phase.
  abbrev pub at : Phase F → EditorState F → EditorState F
  at ph w = record w { phase = ph }

  -- The phases of an attach.
  abbrev pub filling : Phase F → Phase F
  filling (Linked c) = Filling c
  filling ph = ph

  abbrev pub filled : Option F → Phase F → Phase F
  filled x (Filling c) = Filled c x
  filled x ph = ph

  abbrev pub inserted : Phase F → EditorState F → EditorState F
  inserted (Filled c x) w = record w { phase = Inserted c x; chain = c ∷ w.chain }
  inserted _ w = w

  abbrev pub flag_set : Phase F → EditorState F → EditorState F
  flag_set (Inserted c (Some f)) w = record w { phase = FlagSet c; history = w.history ++ On c f ∷ [] }
  flag_set _ w = w

  -- The phases of a detach.
  abbrev pub flag_cleared : ℕ → EditorState F → EditorState F
  flag_cleared c w = record w { phase = FlagCleared c (attached_feed w.history c); history = w.history ++ Off c ∷ [] }

  abbrev pub unlinked : Phase F → EditorState F → EditorState F
  unlinked (FlagCleared c x) w = record w { phase = Unlinked c x; chain = cut c w.chain }
  unlinked _ w = w

  -- It loaded the step counter, and then the reference count, and found n.
  abbrev pub quiesced : ℕ → Phase F → Phase F
  quiesced n (Unlinked c x) = cond (n == 0) (Quiescent c x) (Unlinked c x)
  quiesced n ph = ph

  abbrev pub unreferenced : ℕ → Phase F → Phase F
  unreferenced n (Quiescent c x) = cond (n == 0) (Unreferenced c x) (Quiescent c x)
  unreferenced n ph = ph

  abbrev pub emptying : Phase F → Phase F
  emptying (Unreferenced c x) = Emptying c
  emptying ph = ph

  abbrev pub emptied : Phase F → Phase F
  emptied (Emptying c) = Emptied c
  emptied ph = ph

  -- The bus of the edit that is under way, or z.
  abbrev pub phase_bus : ℕ → Phase F → ℕ
  phase_bus z Idle = z
  phase_bus z (Linked c) = c
  phase_bus z (Filling c) = c
  phase_bus z (Filled c x) = c
  phase_bus z (Inserted c x) = c
  phase_bus z (FlagSet c) = c
  phase_bus z (FlagCleared c x) = c
  phase_bus z (Unlinked c x) = c
  phase_bus z (Quiescent c x) = c
  phase_bus z (Unreferenced c x) = c
  phase_bus z (Emptying c) = c
  phase_bus z (Emptied c) = c
