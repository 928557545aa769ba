-- What a pass is between two calls, and what the parts of a visit's step make of it.
use Rattle.std.specs.Prelude.{◌≡◌, ℕ, zero, suc, ◌+◌, cond, ◌==◌, ◌≤◌, ◌<◌, true, false, Bool, List, [], ◌∷◌, ◌++◌, Option, Some, None, is_some}
use Rattle.atomic_table.specs.Table.{Me}
use Rattle.bus_list.specs.declared.view.FlagState.TheVariants.{Settled}
use Rattle.bus_list.specs.declared.view.Note.{Note}
use Rattle.bus_list.specs.declared.view.Note.TheVariants.{Link}
use Rattle.bus_list.specs.declared.view.PassState.{PassState}
use Rattle.bus_list.specs.declared.view.View.{View}
use Rattle.bus_list.specs.Visits.{has, buses_of}
use Rattle.bus_list.specs.Transitions.{at_end, aimed, reference_added}

-- The seat made these steps before, and some more since.
abbrev pub NotesGrow : List Note → List Note → Type 0
NotesGrow before after = (more : List Note) × (after ≡ before ++ more)

-- One of the steps since was a load of a link that found the end, which is N.
abbrev pub LoadedEnd : ℕ → List Note → List Note → Type 0
LoadedEnd N before after = (bus : ℕ) × (more : List Note) × (rest : List Note) × (after ≡ (before ++ more) ++ Link bus N ∷ rest)

-- How many buses below N were not walked.
abbrev pub unwalked : ℕ → List ℕ → ℕ
unwalked zero xs = 0
unwalked (suc n) xs = cond (has n xs) 0 1 + unwalked n xs

module _ {F : Type 0} where
  -- The pass between two calls: what its struct has beside its seat is what the seat's view says.
  pub record BetweenCalls (N held : ℕ) (ended : Bool) (from : ℕ) (p : PassState F) : Type 0 where
    pub held_is : p.held ≡ held
    pub low : held ≤ N
    pub previous : p.previous ≡ N
    pub aim : p.aim ≡ N
    pub stepping : p.stepping ≡ false
    pub flag_state : p.flag_state ≡ Settled
    pub ended_is : p.ended ≡ ended
    pub from_is : p.opened ≡ true → p.last_count ≡ from
    pub shut : p.opened ≡ false → held ≡ N
    pub at_end : ended ≡ true → held ≡ N

  -- The feed of the bus that is held is with the pass, or no feed is, so that it holds no cell.
  abbrev pub lent_at : ℕ → ℕ → Option F → ℕ
  lent_at N held None = N
  lent_at N held (Some f) = held

  abbrev pub lent_slots : ℕ → Option F → List (ℕ × Option F)
  lent_slots held None = []
  lent_slots held (Some f) = (held, None) ∷ []

  pub record Lent (N held : ℕ) (feed : Option F) (me : Me (Option F) (View F)) : Type 0 where
    pub borrowed : me.0.reading.borrowed ≡ lent_at N held feed
    pub borrowed_feed : me.0.reading.borrowed_feed ≡ feed
    pub slots : me.1 ≡ lent_slots held feed
    pub low : is_some feed ≡ true → held < N

  -- No visit is open, and nothing is held.
  pub record IsResting (N : ℕ) (p : PassState F) : Type 0 where
    pub opened : p.opened ≡ false
    pub held : p.held ≡ N
    pub previous : p.previous ≡ N
    pub aim : p.aim ≡ N
    pub stepping : p.stepping ≡ false
    pub flag_state : p.flag_state ≡ Settled
    pub borrowed : p.borrowed ≡ N
    pub borrowed_feed : p.borrowed_feed ≡ None

  -- The pass went on to the bus n, or to the end.
  abbrev pub reached : ℕ → ℕ → PassState F → PassState F
  reached N n p = cond (n == N) (at_end N p) (reference_added N (aimed n p))

  -- The bus was given with its feed, or passed over.
  abbrev pub feed_read : ℕ → Option F → PassState F → PassState F
  feed_read bus None p = record p { flag_state = Settled }
  feed_read bus (Some f) p = record p { flag_state = Settled; borrowed = bus; borrowed_feed = Some f; given = p.given ++ (bus, f) ∷ [] }

  -- The pass's part became p, the seat holds these slots, and the notes grew.
  pub record PassMoved (p : PassState F) (holds : List (ℕ × Option F)) (v : View F) (me : Me (Option F) (View F)) : Type 0 where
    pub reading : me.0.reading ≡ p
    pub reads : me.0.reads ≡ v.reads
    pub slots : me.1 ≡ holds
    pub notes : NotesGrow v.notes me.0.notes

  -- The same visit goes on.
  pub record SameVisit (p p' : PassState F) : Type 0 where
    pub opened : p'.opened ≡ true
    pub start : p'.start ≡ p.start
    pub last_count : p'.last_count ≡ p.last_count
    pub visits : p'.visits ≡ p.visits

  -- The visit gave one bus more with its feed, or it has ended.
  abbrev pub WentOn : ℕ → ℕ → Bool → Option F → PassState F → PassState F → Type 0
  WentOn N held ended None p p' = (ended ≡ true) × (p'.given ≡ p.given)
  WentOn N held ended (Some f) p p' = (held < N) × (has held (buses_of p.given) ≡ false) × (p'.given ≡ p.given ++ (held, f) ∷ []) × (ended ≡ false)

  -- It passed over a bus, so that fewer are left, or it went on.
  abbrev pub SteppedOn : ℕ → Bool → ℕ → Bool → Option F → PassState F → PassState F → Type 0
  SteppedOn N true held ended feed p p' = (ended ≡ false) × (p'.given ≡ p.given) × (unwalked N p'.walked + 1 ≡ unwalked N p.walked)
  SteppedOn N false held ended feed p p' = WentOn N held ended feed p p'
