-- What each step does to the view of its seat.
use Rattle.std.specs.Prelude.{◌≡◌, ◌<◌, ◌≤◌, ℕ, suc, Bool, true, false, List, [], ◌∷◌, ◌++◌, length}
use Rattle.atomic_table.specs.Table.{Step, Me}
use Rattle.scene_model.specs.declared.reply.Reply.{Reply}
use Rattle.live_board.specs.declared.view.Entry.{Entry}
use Rattle.live_board.specs.declared.view.View.{View}
use Rattle.live_board.specs.declared.view.Note.{Note}
use Rattle.live_board.specs.declared.view.Note.TheVariants.{Count, Dial}
use Rattle.live_board.specs.Rule.{replies_of, told_word, last_code, fresh, no_mix, nobody, AreLawful}

abbrev pub Me' : Type 0
Me' = Me Bool View

-- the lock
abbrev pub dial_stored : ℕ → ℕ → View → View
dial_stored i n v = record v { lock = record v.lock { history = v.lock.history ++ (i, n) ∷ []; stored = true } }

abbrev pub counted : View → View
counted v = record v { lock = record v.lock { stored = false } }

abbrev pub heard_as : ℕ → List Reply → View → View
heard_as e replies v = record v { lock = record v.lock { heard_of = e; heard = replies } }

abbrev pub entry : ℕ → ℕ → Reply → Entry
entry e k r = record { editor = e; k = k; reply = r }

abbrev pub booked_as : ℕ → Reply → View → View
booked_as e r v = record v { lock = record v.lock { journal = v.lock.journal ++ entry e (length (replies_of e v.lock.journal)) r ∷ [] } }

-- the mixer
abbrev pub begun : ℕ → View → View
begun n v = record v { mixing = record v.mixing { reads = true; from = n; words = []; notes = v.mixing.notes ++ Count n ∷ [] } }

abbrev pub dial_read : ℕ → ℕ → View → View
dial_read i n v = record v { mixing = record v.mixing { words = v.mixing.words ++ n ∷ []; notes = v.mixing.notes ++ Dial i n ∷ [] } }

abbrev pub ended : ℕ → View → View
ended n v = record v { mixing = record v.mixing { readings = v.mixing.readings ++ (record { from = v.mixing.from; until = n; words = v.mixing.words }) ∷ []; reads = false; notes = v.mixing.notes ++ Count n ∷ [] } }

-- a hand
abbrev pub told_as : Reply → View → View
told_as r v = record v { hand = record v.hand { replies = v.hand.replies ++ r ∷ [] } }

abbrev pub found_as : ℕ → View → View
found_as n v = record v { hand = record v.hand { found = n } }

-- splits and joins
abbrev pub hand_out : View → View
hand_out v = record v { lock = record v.lock { next = suc v.lock.next } }

abbrev pub new_hand : View → View
new_hand v = record nobody { hands = true; hand = fresh v.lock.next }

abbrev pub without_mix : View → View
without_mix v = record v { mixes = false; mixing = no_mix }

abbrev pub only_mix : View → View
only_mix v = record nobody { mixes = true; mixing = v.mixing }

abbrev pub with_hand : View → View → View
with_hand v w = record v { hands = w.hands; hand = w.hand }

abbrev pub with_mix : View → View → View
with_mix v w = record v { mixes = w.mixes; mixing = w.mixing }

-- a seat but for what it heard, or found booked
abbrev pub unheard : Me' → Me'
unheard me = (heard_as 0 [] me.0, me.1)

abbrev pub unfound : Me' → Me'
unfound me = (found_as 0 me.0, me.1)

-- what the steps tell
abbrev pub Heard : ℕ → Me' → ℕ → Me' → Type 0
Heard e me n now = (replies : List Reply) × (rest : List Reply) × (now ≡ (heard_as e replies me.0, me.1)) × (n ≡ told_word replies) × (last_code replies < 17179869184) × (replies ≡ replies_of e me.0.lock.journal ++ rest) × (length rest ≤ 1)

abbrev pub Told : Step Bool → Me' → Me' → Type 0
Told s me now = (r : Reply) × (s.first ≡ told_word (me.0.hand.replies ++ r ∷ [])) × (now ≡ (told_as r me.0, me.1))

abbrev pub Booked : Step Bool → Me' → Me' → Type 0
Booked s me now = (r : Reply) × (me.0.lock.heard ≡ replies_of me.0.lock.heard_of me.0.lock.journal ++ r ∷ []) × (now ≡ (booked_as me.0.lock.heard_of r me.0, me.1))

-- what a seat with the lock, the mixer's readings and a hand learns
pub record Learns (me : Me') : Type 0 where
  pub readings : me.0.mixes ≡ true → AreLawful me.0.lock.opening me.0.lock.history 0 me.0.mixing.readings
  pub replies : me.0.hands ≡ true → me.0.hand.found ≡ length me.0.hand.replies → replies_of me.0.hand.editor me.0.lock.journal ≡ me.0.hand.replies

-- the loads of the dials from that one on, which found these words
abbrev pub dial_notes : ℕ → List ℕ → List Note
dial_notes i [] = []
dial_notes i (w ∷ ws) = Dial i w ∷ dial_notes (suc i) ws

-- a reading that began at that count and has loaded these words
abbrev pub reading_so_far : ℕ → List ℕ → View → View
reading_so_far from words v = record v { mixing = record v.mixing { reads = true; from = from; words = words; notes = v.mixing.notes ++ Count from ∷ dial_notes 0 words } }
