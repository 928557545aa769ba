-- What holds of a bus list between any two steps: what its words and cells are, given what the editor and the pass know.
-- N is the number of buses. It stands for the dummy, whose link leads to the first bus, and for the end. Where the pass holds no bus,
-- or aims at none, N stands for that too.
use Rattle.std.specs.Prelude.{◌≡◌, ◌≢◌, ◌⊎◌, ℕ, ◌+◌, ◌≤◌, ◌<◌, Bool, true, false, cond, ◌||◌, ◌==◌, List, [], ◌∷◌, ◌++◌, length, Option, Some, None, is_some}
use mathlib.Core.Option.{some, none}
use Rattle.bus_list.specs.declared.history.Entry.{Entry}
use Rattle.bus_list.specs.declared.history.Entry.TheVariants.{Off}
use Rattle.bus_list.specs.declared.view.Phase.{Phase}
use Rattle.bus_list.specs.declared.view.Phase.TheVariants.{Idle, Linked, Filling, Filled, Inserted, FlagSet, FlagCleared, Unlinked, Quiescent, Unreferenced, Emptying, Emptied}
use Rattle.bus_list.specs.declared.view.FlagState.TheVariants.{NotLoaded, FoundSet, Settled}
use Rattle.bus_list.specs.declared.view.EditorState.{EditorState}
use Rattle.bus_list.specs.declared.view.PassState.{PassState}
use Rattle.bus_list.specs.Visits.{has, Distinct, Each, attached_feed, attached_feed_after, buses_of, LawfulFrom}

-- The words and the cells, by bus. A cell that a seat has taken is `some none`.
pub record Memory (F : Type 0) : Type 0 where
  pub edits : ℕ
  pub steps : ℕ
  pub link : ℕ → ℕ
  pub flag : ℕ → ℕ
  pub references : ℕ → ℕ
  pub cell : ℕ → mathlib.Core.Option.Option (mathlib.Core.Option.Option (Option F))

-- A flag or a count that is 0 or 1.
abbrev pub bit : Bool → ℕ
bit b = cond b 1 0

-- The function f, but v at c.
abbrev pub updated : {A : Type 0} → (ℕ → A) → ℕ → A → ℕ → A
updated f c v x = cond (x == c) v (f x)

-- The first of a list, or z where it is empty. The last likewise.
abbrev pub first_of : ℕ → List ℕ → ℕ
first_of z [] = z
first_of z (x ∷ xs) = x

abbrev pub last_of : ℕ → List ℕ → ℕ
last_of z [] = z
last_of z (x ∷ xs) = last_of x xs

-- Along the links from a on lie the buses of the list, and then the end.
abbrev pub Path : ℕ → (ℕ → ℕ) → ℕ → List ℕ → Type 0
Path N link a [] = a ≡ N
Path N link a (x ∷ xs) = (a ≡ x) × Path N link (link x) xs

module _ {F : Type 0} where
  -- How many entries of the history are not counted yet.
  abbrev pub lag : Phase F → ℕ
  lag Idle = 0
  lag (Linked c) = 0
  lag (Filling c) = 0
  lag (Filled c x) = 0
  lag (Inserted c x) = 0
  lag (FlagSet c) = 1
  lag (FlagCleared c x) = 1
  lag (Unlinked c x) = 1
  lag (Quiescent c x) = 1
  lag (Unreferenced c x) = 1
  lag (Emptying c) = 1
  lag (Emptied c) = 1

  -- The bus is in the chain though it is not attached: it is being put in or taken out.
  abbrev pub half_attached : Phase F → ℕ → Bool
  half_attached Idle b = false
  half_attached (Linked c) b = false
  half_attached (Filling c) b = false
  half_attached (Filled c x) b = false
  half_attached (Inserted c x) b = b == c
  half_attached (FlagSet c) b = false
  half_attached (FlagCleared c x) b = b == c
  half_attached (Unlinked c x) b = false
  half_attached (Quiescent c x) b = false
  half_attached (Unreferenced c x) b = false
  half_attached (Emptying c) b = false
  half_attached (Emptied c) b = false

  -- A detach has unlinked the bus, and the pass may still be there.
  abbrev pub retired : Phase F → ℕ → Bool
  retired Idle b = false
  retired (Linked c) b = false
  retired (Filling c) b = false
  retired (Filled c x) b = false
  retired (Inserted c x) b = false
  retired (FlagSet c) b = false
  retired (FlagCleared c x) b = false
  retired (Unlinked c x) b = b == c
  retired (Quiescent c x) b = b == c
  retired (Unreferenced c x) b = false
  retired (Emptying c) b = false
  retired (Emptied c) b = false

  -- The editor has the bus's cell.
  abbrev pub with_editor : Phase F → ℕ → Bool
  with_editor Idle b = false
  with_editor (Linked c) b = false
  with_editor (Filling c) b = b == c
  with_editor (Filled c x) b = false
  with_editor (Inserted c x) b = false
  with_editor (FlagSet c) b = false
  with_editor (FlagCleared c x) b = false
  with_editor (Unlinked c x) b = false
  with_editor (Quiescent c x) b = false
  with_editor (Unreferenced c x) b = false
  with_editor (Emptying c) b = b == c
  with_editor (Emptied c) b = false

  -- The feed that the editor last put in for the bus and has not taken out, where y is the one with which it is attached.
  abbrev pub stored_feed : Phase F → ℕ → Option F → Option F
  stored_feed Idle b y = y
  stored_feed (Linked c) b y = y
  stored_feed (Filling c) b y = y
  stored_feed (Filled c x) b y = cond (b == c) x y
  stored_feed (Inserted c x) b y = cond (b == c) x y
  stored_feed (FlagSet c) b y = y
  stored_feed (FlagCleared c x) b y = cond (b == c) x y
  stored_feed (Unlinked c x) b y = cond (b == c) x y
  stored_feed (Quiescent c x) b y = cond (b == c) x y
  stored_feed (Unreferenced c x) b y = cond (b == c) x y
  stored_feed (Emptying c) b y = y
  stored_feed (Emptied c) b y = y

  -- The feed in the bus's cell, unless the cell is taken.
  abbrev pub feed_of : EditorState F → ℕ → Option F
  feed_of w b = stored_feed w.phase b (attached_feed w.history b)

  -- The bus's cell: with the pass, with the editor, or at home.
  abbrev pub cell_of : EditorState F → PassState F → ℕ → mathlib.Core.Option.Option (Option F)
  cell_of w p b = cond (b == p.borrowed) none (cond (with_editor w.phase b) none (some (feed_of w b)))

  -- The bus is not attached.
  abbrev pub IsDetached : ℕ → EditorState F → ℕ → Type 0
  IsDetached N w c = (c < N) × (attached_feed w.history c ≡ None)

  -- The link of the bus leads into the chain or to its end.
  abbrev pub LeadsIntoChain : ℕ → (ℕ → ℕ) → EditorState F → ℕ → Type 0
  LeadsIntoChain N link w c = (pre : List ℕ) × (post : List ℕ) × (w.chain ≡ pre ++ post) × (link c ≡ first_of N post)

  -- The last entry detached the bus, which had this feed before.
  abbrev pub WasDetachedWith : EditorState F → ℕ → Option F → Type 0
  WasDetachedWith w c x = (h : List (Entry F)) × (w.history ≡ h ++ Off c ∷ []) × (attached_feed h c ≡ x)

  -- What is known in each phase of an edit.
  abbrev pub PhaseFacts : ℕ → (ℕ → ℕ) → EditorState F → Phase F → Type 0
  PhaseFacts N link w Idle = Unit {0}
  PhaseFacts N link w (Linked c) = IsDetached N w c × (link c ≡ link N)
  PhaseFacts N link w (Filling c) = IsDetached N w c × (link c ≡ link N)
  PhaseFacts N link w (Filled c x) = IsDetached N w c × (link c ≡ link N) × (is_some x ≡ true)
  PhaseFacts N link w (Inserted c x) = IsDetached N w c × (is_some x ≡ true)
  PhaseFacts N link w (FlagSet c) = Unit {0}
  PhaseFacts N link w (FlagCleared c x) = IsDetached N w c × WasDetachedWith w c x
  PhaseFacts N link w (Unlinked c x) = IsDetached N w c × LeadsIntoChain N link w c × WasDetachedWith w c x
  PhaseFacts N link w (Quiescent c x) = IsDetached N w c × LeadsIntoChain N link w c × WasDetachedWith w c x
  PhaseFacts N link w (Unreferenced c x) = IsDetached N w c × LeadsIntoChain N link w c × WasDetachedWith w c x
  PhaseFacts N link w (Emptying c) = IsDetached N w c × LeadsIntoChain N link w c
  PhaseFacts N link w (Emptied c) = IsDetached N w c × LeadsIntoChain N link w c

  -- The pass does not aim at the bus: a detach has unlinked it and then found the step counter 0.
  abbrev pub never_aimed : Phase F → ℕ → Bool
  never_aimed Idle b = false
  never_aimed (Linked c) b = false
  never_aimed (Filling c) b = false
  never_aimed (Filled c x) b = false
  never_aimed (Inserted c x) b = false
  never_aimed (FlagSet c) b = false
  never_aimed (FlagCleared c x) b = false
  never_aimed (Unlinked c x) b = false
  never_aimed (Quiescent c x) b = b == c
  never_aimed (Unreferenced c x) b = b == c
  never_aimed (Emptying c) b = b == c
  never_aimed (Emptied c) b = b == c

  -- Nor does the pass hold it: the detach has then found its reference count 0.
  abbrev pub never_held : Phase F → ℕ → Bool
  never_held Idle b = false
  never_held (Linked c) b = false
  never_held (Filling c) b = false
  never_held (Filled c x) b = false
  never_held (Inserted c x) b = false
  never_held (FlagSet c) b = false
  never_held (FlagCleared c x) b = false
  never_held (Unlinked c x) b = false
  never_held (Quiescent c x) b = false
  never_held (Unreferenced c x) b = b == c
  never_held (Emptying c) b = b == c
  never_held (Emptied c) b = b == c

  -- If x is a bus, it is in the chain, or is the one that a detach has unlinked.
  abbrev pub InChainOrRetired : ℕ → EditorState F → ℕ → Type 0
  InChainOrRetired N w x = x ≢ N → (x < N) × ((has x w.chain || retired w.phase x) ≡ true)

  -- What the pass holds and aims at, and whose cell it has.
  pub record PassInvariant (N : ℕ) (w : EditorState F) (p : PassState F) : Type 0 where
    pub aims : p.aim ≢ N → (p.stepping ≡ true) × (p.flag_state ≡ Settled)
    pub differ : p.held ≢ N → p.held ≢ p.previous
    pub carries : p.borrowed ≢ N → ((p.borrowed ≡ p.held) × (p.flag_state ≡ Settled)) ⊎ (p.borrowed ≡ p.previous)
    pub borrowed_feed : p.borrowed ≢ N → p.borrowed_feed ≡ feed_of w p.borrowed
    pub held_at : InChainOrRetired N w p.held
    pub old_at : InChainOrRetired N w p.previous
    pub aim_at : InChainOrRetired N w p.aim
    pub aim_free : never_aimed w.phase p.aim ≡ false
    pub held_free : never_held w.phase p.held ≡ false
    pub old_free : never_held w.phase p.previous ≡ false

  -- The bus that the pass stands on, or the dummy.
  abbrev pub position : ℕ → PassState F → ℕ
  position N p = cond (p.aim == N) p.held p.aim

  -- The tail is what follows x in the chain; or, where x was unlinked, the part of the chain that its link leads to.
  pub record TailFrom (N : ℕ) (link : ℕ → ℕ) (w : EditorState F) (x : ℕ) (tail : List ℕ) : Type 0 where
    pub pre : List ℕ
    pub chain : w.chain ≡ pre ++ tail
    pub at : (last_of N pre ≡ x) ⊎ ((retired w.phase x ≡ true) × (link x ≡ first_of N tail))

  -- The bus was attached at each moment since the visit began.
  abbrev pub AttachedSinceBegin : EditorState F → PassState F → ℕ → Type 0
  AttachedSinceBegin w p b = (m : ℕ) → p.last_count ≤ m → m ≤ length w.history → is_some (attached_feed_after w.history m b) ≡ true

  -- The bus was attached with the feed at some moment since the visit began.
  abbrev pub FedSinceBegin : EditorState F → PassState F → ℕ × F → Type 0
  FedSinceBegin w p x = (m : ℕ) × (p.last_count ≤ m) × (m ≤ length w.history) × (attached_feed_after w.history m x.0 ≡ Some x.1)

  -- An open visit. `tail` is what is still to be visited: the chain behind the bus that the pass stands on. None of it was walked, and
  -- each bus that was attached ever since the visit began was walked, or is aimed at, or is in the tail. Each such bus that was walked
  -- was given, unless it is held and its flag isn't loaded yet.
  pub record VisitInvariant (N : ℕ) (link : ℕ → ℕ) (w : EditorState F) (p : PassState F) : Type 0 where
    pub tail : List ℕ
    pub place : p.ended ≡ false → TailFrom N link w (position N p) tail
    pub done : p.ended ≡ true → (tail ≡ []) × (p.held ≡ N) × (p.aim ≡ N)
    pub fresh : (b : ℕ) → has b tail ≡ true → has b p.walked ≡ false
    pub aim_new : p.aim ≢ N → (has p.aim p.walked ≡ false) × (has p.aim tail ≡ false)
    pub begun : p.ended ≡ false → p.held ≡ N → p.walked ≡ []
    pub held_walked : p.held ≢ N → has p.held p.walked ≡ true
    pub old_walked : p.previous ≢ N → has p.previous p.walked ≡ true
    pub reach : (b : ℕ) → b < N → AttachedSinceBegin w p b → ((b ≡ p.aim) ⊎ ((has b p.walked || has b tail) ≡ true))
    pub gave : (b : ℕ) → b < N → AttachedSinceBegin w p b → has b p.walked ≡ true → (has b (buses_of p.given) ≡ true) ⊎ ((b ≡ p.held) × (p.flag_state ≡ NotLoaded))
    pub given_walked : (b : ℕ) → has b (buses_of p.given) ≡ true → has b p.walked ≡ true
    pub given_apart : Distinct (buses_of p.given)
    pub given_once : Each (FedSinceBegin w p) p.given
    pub held_not_given : p.held ≢ N → p.flag_state ≡ NotLoaded → has p.held (buses_of p.given) ≡ false
    pub seen_last : p.held ≢ N → p.flag_state ≡ FoundSet → (f : F) × (ps : List (ℕ × F)) × (p.given ≡ ps ++ (p.held, f) ∷ []) × (feed_of w p.held ≡ Some f)

  -- What the editor keeps: the links lead along the attached buses, each once, and at most one more.
  pub record ChainInvariant (N edits : ℕ) (link flag : ℕ → ℕ) (w : EditorState F) : Type 0 where
    pub count : edits + lag w.phase ≡ length w.history
    pub flags : (b : ℕ) → b < N → flag b ≡ bit (is_some (attached_feed w.history b))
    pub path : Path N link (link N) w.chain
    pub apart : Distinct w.chain
    pub inside : Each (λ b. b < N) w.chain
    pub members : (b : ℕ) → b < N → has b w.chain ≡ (is_some (attached_feed w.history b) || half_attached w.phase b)
    pub named : (b : ℕ) → N ≤ b → (m : ℕ) → attached_feed_after w.history m b ≡ None
    pub phase_facts : PhaseFacts N link w w.phase

  -- All of it. The step counter is 1 in a step, a reference count is 1 while the pass holds the bus, and the visits that have ended
  -- were lawful.
  pub record ListInvariant (N : ℕ) (t : Memory F) (w : EditorState F) (p : PassState F) : Type 0 where
    pub chain_invariant : ChainInvariant N t.edits t.link t.flag w
    pub steps : t.steps ≡ bit p.stepping
    pub references : (b : ℕ) → b < N → t.references b ≡ bit ((b == p.held) || (b == p.previous))
    pub cells : (b : ℕ) → b < N → t.cell b ≡ some (cell_of w p b)
    pub pass_invariant : PassInvariant N w p
    pub open_visit : p.opened ≡ true → VisitInvariant N t.link w p
    pub no_visit : p.opened ≡ false → (p.held ≡ N) × (p.aim ≡ N)
    pub past : LawfulFrom w.history p.start p.visits p.last_count
    pub last_count : p.last_count ≤ t.edits
