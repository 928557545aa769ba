-- The rule of the board and of hands.
use Rattle.std.specs.Prelude.{◌≡◌, ◌<◌, ◌≤◌, ℕ, suc, ◌+◌, ◌*◌, Bool, true, false, List, [], ◌∷◌, ◌++◌, length, map, fold, take, slice_index, slice_set}
use mathlib.Core.Option.{Option, none, some}
use lib.ListN.{get_elem?}
use Rattle.atomic_table.specs.Table.{State}
use Rattle.scene_model.specs.declared.reply.Reply.{Reply}
use Rattle.scene_model.specs.declared.reply.Reply.TheVariants.{Done, NoSuchBus, NoInput, AlreadyAttached, Cycle, NotAttached, GainTooLarge, NotSound}
use Rattle.live_board.specs.declared.view.Entry.{Entry}
use Rattle.live_board.specs.declared.view.Opening.{Opening}
use Rattle.live_board.specs.declared.view.Reading.{Reading}
use Rattle.live_board.specs.declared.view.View.{View}
use Rattle.live_board.specs.declared.view.LockView.{LockView}
use Rattle.live_board.specs.declared.view.MixView.{MixView}
use Rattle.live_board.specs.declared.view.HandView.{HandView}
use Rattle.mix_model.specs.Journals.{EntryData, replies_by}
use Rattle.mix_model.specs.Readings.{ReadingData, AllStood, AreLawfulReadings}

-- the words of the dials after these entries of the board's history, each of which is the number of a dial and its new word
abbrev pub words_set : List ℕ → List (ℕ × ℕ) → List ℕ
words_set dials history = fold (λ ds e. slice_set ds e.0 e.1) dials history

-- a dial's word after so many entries
abbrev pub dial_after : List ℕ → List (ℕ × ℕ) → ℕ → ℕ → ℕ
dial_after dials history dial count = slice_index (words_set dials (take count history)) dial

abbrev pub reading_data : Reading → ReadingData
reading_data r = record { from = r.from; until = r.until; words = r.words }

abbrev pub entry_data : Entry → EntryData
entry_data e = record { editor = e.editor; k = e.k; reply = e.reply }

-- readings of these dials, lawful in this history, of which the first doesn't begin before that number
abbrev pub AreLawful : List ℕ → List (ℕ × ℕ) → ℕ → List Reading → Type 0
AreLawful dials history least readings =
    AreLawfulReadings (dial_after dials history) (length history) (length dials) least (map reading_data readings)

-- where the last one ends, or that number
abbrev pub last_until : ℕ → List Reading → ℕ
last_until least [] = least
last_until least (r ∷ rs) = last_until r.until rs

-- what an editor's edits were answered, in the journal's order
abbrev pub replies_of : ℕ → List Entry → List Reply
replies_of editor journal = replies_by editor (map entry_data journal)

-- a number for each reply, below 2 ^ 34
abbrev pub reply_code : Reply → ℕ
reply_code Done = 0
reply_code NoSuchBus = 1
reply_code NoInput = 2
reply_code NotAttached = 3
reply_code GainTooLarge = 4
reply_code NotSound = 5
reply_code (AlreadyAttached to) = 6 + 2 * to
reply_code (Cycle node) = 7 + 2 * node

-- that of the last one, or 0
abbrev pub last_code : List Reply → ℕ
last_code [] = 0
last_code (r ∷ []) = reply_code r
last_code (r ∷ q ∷ rs) = last_code (q ∷ rs)

-- what a hand tells: how many replies it has, in the upper bits of a word, and the last of them
abbrev pub told_word : List Reply → ℕ
told_word replies = length replies * 17179869184 + last_code replies

-- the places of the words of an editor, behind the count and the dials
abbrev pub told_at : ℕ → ℕ → ℕ
told_at dials e = 1 + dials + 2 * e

abbrev pub booked_at : ℕ → ℕ → ℕ
booked_at dials e = 2 + dials + 2 * e

-- the words, by what they are
pub record BoardWords : Type 0 where
  pub count : ℕ
  pub dial : ℕ → ℕ
  pub told : ℕ → ℕ
  pub booked : ℕ → ℕ

abbrev pub board_words : ℕ → List ℕ → BoardWords
board_words dials words = record {
  count = slice_index words 0;
  dial = λ i. slice_index words (i + 1);
  told = λ e. slice_index words (told_at dials e);
  booked = λ e. slice_index words (booked_at dials e);
}

abbrev pub uncounted : Bool → ℕ
uncounted true = 1
uncounted false = 0

-- Each dial's word is its word after the whole history, and in its range. The count is the history's length, or one less from
-- the store of a dial to the store of the count of the same edit.
pub record CoreBoard (w : BoardWords) (d : LockView) (most : List ℕ) : Type 0 where
  pub dials : (i : ℕ) → i < length d.opening → w.dial i ≡ slice_index (words_set d.opening d.history) i
  pub count : w.count + uncounted d.stored ≡ length d.history
  pub in_range : (i : ℕ) → i < length d.opening → w.dial i ≤ slice_index most i

-- The finished readings are lawful, and none of them ends after the present count. The open one is lawful, for the words that
-- it has so far, with the present count as its end.
pub record CoreMix (w : BoardWords) (d : LockView) (m : MixView) : Type 0 where
  pub readings : AreLawful d.opening d.history 0 m.readings
  pub ended : last_until 0 m.readings ≤ w.count
  pub now : m.reads ≡ true → (last_until 0 m.readings ≤ m.from) × (m.from ≤ w.count) × (length m.words ≤ length d.opening) × AllStood (dial_after d.opening d.history) m.from w.count (length d.history) m.words

-- What the editor e told is what is booked of it and at most one reply more
pub record CoreHand (w : BoardWords) (d : LockView) (e : ℕ) (replies : List Reply) (found : ℕ) : Type 0 where
  pub told : w.told e ≡ told_word replies
  pub small : last_code replies < 17179869184
  pub booked : w.booked e ≡ length (replies_of e d.journal)
  pub rest : List Reply
  pub rest_is : replies ≡ replies_of e d.journal ++ rest
  pub one : length rest ≤ 1
  pub found_most : found ≤ length (replies_of e d.journal)
  pub heard : d.heard_of ≡ e → length d.heard ≡ suc (length (replies_of e d.journal)) → replies ≡ d.heard

pub record Core (w : BoardWords) (d : LockView) (m : MixView) (h : ℕ → HandView) : Type 0 where
  pub board : CoreBoard w d m.most
  pub mix : CoreMix w d m
  pub hands : (e : ℕ) → CoreHand w d e (h e).replies (h e).found

-- The seats that have the parts. Hands from the next on aren't made yet, and have told nothing
pub record HasParts (lock mixer : ℕ) (owner : ℕ → Option ℕ) (d : LockView) (m : MixView) (h : ℕ → HandView) (i : ℕ) (v : View) : Type 0 where
  pub locks : v.locks ≡ true → (i ≡ lock) × (v.lock ≡ d)
  pub mixes : v.mixes ≡ true → (i ≡ mixer) × (v.mixing ≡ m)
  pub hands : v.hands ≡ true → (owner v.hand.editor ≡ some i) × (v.hand ≡ h v.hand.editor)

abbrev pub fresh : ℕ → HandView
fresh e = record { editor = e; replies = []; found = 0 }

pub record Kept (k : Opening) (s : State Bool View) : Type 0 where
  pub lock : ℕ
  pub mixer : ℕ
  pub owner : ℕ → Option ℕ
  pub d : LockView
  pub m : MixView
  pub h : ℕ → HandView
  pub words_are : length s.words ≡ 1 + length k.dials.items + 2 * k.hands
  pub opening_is : d.opening ≡ k.dials.items
  pub most_is : m.most ≡ k.most.items
  pub core : Core (board_words (length k.dials.items) s.words) d m h
  pub cast : (i : ℕ) (v : View) → get_elem? s.views i ≡ some v → HasParts lock mixer owner d m h i v
  pub later : (e : ℕ) → d.next ≤ e → (owner e ≡ none) × (h e ≡ fresh e)

-- views
abbrev pub mix_at : List ℕ → MixView
mix_at most = record { most = most; readings = []; reads = false; from = 0; words = []; notes = [] }

abbrev pub no_mix : MixView
no_mix = mix_at []

abbrev pub no_lock : LockView
no_lock = record { opening = []; history = []; stored = false; journal = []; heard_of = 0; heard = []; next = 0 }

abbrev pub lock_at : List ℕ → LockView
lock_at dials = record { opening = dials; history = []; stored = false; journal = []; heard_of = 0; heard = []; next = 0 }

abbrev pub opener : Opening → View
opener k = record { locks = true; mixes = true; hands = false; lock = lock_at k.dials.items; mixing = mix_at k.most.items; hand = fresh 0 }

abbrev pub nobody : View
nobody = record { locks = false; mixes = false; hands = false; lock = no_lock; mixing = no_mix; hand = fresh 0 }
