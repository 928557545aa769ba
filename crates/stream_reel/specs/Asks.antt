-- What travels through the two rings.
use Rattle.std.specs.Prelude.{◌≡◌, ℕ, ◌<◌, List, [], ◌∷◌, ◌++◌, map, Bool, true}
use Rattle.std.specs.List.{list_all, range_with_len}
use Rattle.stream_reel.specs.Heard.{Entry}
use Rattle.stream_reel.specs.declared.buffer.Ask.{Ask}
use Rattle.stream_reel.specs.declared.buffer.Buffer.{Buffer}
use Rattle.stream_reel.specs.declared.buffer.Held.{Held}

-- the round and the number of the page that an ask wants, and those of the page that a buffer has
abbrev pub wanted_by : Ask → ℕ × ℕ
wanted_by a = (a.round, a.number)

abbrev pub key_of : Buffer → ℕ × ℕ
key_of b = (b.round, b.number)

-- the buffer's page was made for so many channels
abbrev pub HasChannels : ℕ → Buffer → Type 0
HasChannels channels b = b.page.channels ≡ channels

-- the buffer has the page that comes at this place in this round, of so many channels
pub record IsPageAt (round place channels : ℕ) (b : Buffer) : Type 0 where
  pub this_round : b.round ≡ round
  pub this_place : b.number ≡ place
  pub these_channels : HasChannels channels b

-- the first of some buffers is such a one
abbrev pub BeginsWithNext : ℕ → ℕ → ℕ → List Buffer → Type 0
BeginsWithNext round place channels [] = ⊥
BeginsWithNext round place channels (b ∷ bs) = IsPageAt round place channels b

-- an ask that can be served: it wants a page that there is, and its buffer has the file's channels
pub record IsAskFor (pages channels : ℕ) (a : Ask) : Type 0 where
  pub inside : a.number < pages
  pub these_channels : HasChannels channels a.held.buffer

-- the buffers that a listener sent back and behind them those that it has, in the order in which they came
abbrev pub back_of : List Ask → List Held → List Held
back_of asks kept = map (λ (a : Ask). a.held) asks ++ kept

-- the entry that comes next, whatever its samples are
abbrev pub awaited : ℕ → ℕ → Entry
awaited round place = record { round = round; number = place; samples = [] }

-- all that was heard came before: each test that all that came passes, all that was heard passes
abbrev pub AllCame : List Entry → List Entry → Type 0
AllCame came heard = (test : Entry → Bool) → list_all test came ≡ true → list_all test heard ≡ true

-- the pages that are asked for in a round, so many from a number on
abbrev pub asks_from : ℕ → ℕ → ℕ → List (ℕ × ℕ)
asks_from round number count = map (λ n. (round, n)) (range_with_len number count)
