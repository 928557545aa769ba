-- What the calls of the two ends do.
use Rattle.std.specs.Prelude.{◌≡◌, ◌+◌, ℕ, ◌<◌, ◌≤◌, ◌⊎◌, List, [], ◌∷◌, ◌++◌, length, map, All, false}
use Rattle.rtrb.specs.Ring.{sent, received, known_items, known_free}
use Rattle.clip_decode.specs.Pages.{PageData, page_count}
use Rattle.stream_reel.specs.Heard.{entry_of, IsPageOf}
use Rattle.stream_reel.specs.Asks.{wanted_by, key_of, asks_from, HasChannels, IsPageAt, BeginsWithNext, IsAskFor}
use Rattle.stream_reel.specs.Ends.{back, heard, file, filled, SameListener, HeardNothing}
use Rattle.stream_reel.specs.declared.buffer.Ask.{Ask}
use Rattle.stream_reel.specs.declared.buffer.Buffer.{Buffer}
use Rattle.stream_reel.specs.declared.buffer.Held.{Held}
use Rattle.stream_reel.specs.declared.listener.Listener.{Listener}
use Rattle.stream_reel.specs.declared.filler.Filler.{Filler}

-- a listener that has no page left to ask for in its round, or to which no free place of its ring was known
abbrev pub CannotAsk : Listener → Type 0
CannotAsk l = (l.next ≡ l.pages) ⊎ (known_free l.asks ≡ 0)

-- a listener that heard the page at its place, which lies in the last of the buffers that it has
pub record HeardNext (a b : Listener) (page : PageData) : Type 0 where
  pub same : SameListener a b
  pub heard : heard b ≡ heard a ++ record { round = a.round; number = a.place; samples = page.samples } ∷ []
  pub round : b.round ≡ a.round
  pub place : b.place ≡ a.place + 1
  pub channels : page.channels ≡ a.channels
  pub beside : (length b.kept ≤ 1) ⊎ CannotAsk b

-- a listener to which the page at its place wasn't known: no buffer was, if it hasn't both itself
pub record HeardNone (a b : Listener) : Type 0 where
  pub same : SameListener a b
  pub nothing : HeardNothing a b
  pub none_known : length b.kept < 2 → known_items b.fills ≡ []
  pub beside : (b.kept ≡ []) ⊎ CannotAsk b

-- a listener that went to a page, in a new round
pub record Sought (a b : Listener) (number : ℕ) : Type 0 where
  pub same : SameListener a b
  pub heard : heard b ≡ heard a
  pub round : b.round ≡ a.round + 1
  pub place : b.place ≡ number
  pub beside : (b.kept ≡ []) ⊎ CannotAsk b

-- a listener that asked for so many pages, with the first of the buffers that it had
pub record AskedFor (a b : Listener) (count : ℕ) : Type 0 where
  pub asked : map wanted_by (sent b.asks) ≡ map wanted_by (sent a.asks) ++ asks_from a.round a.next count
  pub next : b.next ≡ a.next + count
  pub kept : length b.kept + count ≡ length a.kept
  pub free : known_free a.asks ≤ known_free b.asks + count
  pub back : back b ≡ back a
  pub fills : b.fills ≡ a.fills
  pub looked : b.looked ≡ a.looked
  pub round : b.round ≡ a.round
  pub place : b.place ≡ a.place

-- a listener that asked with all buffers that it had, as far as it could
pub record AskedAll (a b : Listener) : Type 0 where
  pub count : ℕ
  pub asked : AskedFor a b count
  pub beside : (b.kept ≡ []) ⊎ CannotAsk b

-- a listener that took the first buffer that was known to it
pub record Took (a b : Listener) (buffer : Buffer) : Type 0 where
  pub same : SameListener a b
  pub known : known_items a.fills ≡ buffer ∷ known_items b.fills
  pub kept : length b.kept ≡ length a.kept + 1
  pub asks : b.asks ≡ a.asks
  pub next : b.next ≡ a.next
  pub round : b.round ≡ a.round

-- it has the page at the place, which is heard
pub record TookNext (a b : Listener) : Type 0 where
  pub buffer : Buffer
  pub took : Took a b buffer
  pub is_next : IsPageAt a.round a.place a.channels buffer
  pub place : b.place ≡ a.place + 1
  pub heard : (before : List Held) (last : Held) → b.kept ≡ before ++ last ∷ []
      → (heard b ≡ heard a ++ record { round = a.round; number = a.place; samples = last.buffer.page.samples } ∷ [])
      × HasChannels a.channels last.buffer

-- it has another page, which isn't heard
pub record TookOther (a b : Listener) : Type 0 where
  pub buffer : Buffer
  pub took : Took a b buffer
  pub not_next : IsPageAt a.round a.place a.channels buffer → ⊥
  pub nothing : HeardNothing a b

-- the first buffer that is known to a listener has the page at its place
abbrev pub NextIsFirst : Listener → Type 0
NextIsFirst l = BeginsWithNext l.round l.place l.channels (known_items l.fills)

-- a filler that took an ask, and filled its buffer with the page that was asked for
pub record FilledOne (a b : Filler) (round number : ℕ) : Type 0 where
  pub ask : Ask
  pub took : received b.asks ≡ received a.asks ++ ask ∷ []
  pub wanted : wanted_by ask ≡ (round, number)
  pub buffer : Buffer
  pub filled : filled b ≡ filled a ++ buffer ∷ []
  pub key : key_of buffer ≡ (round, number)
  pub page : IsPageOf (file a) (entry_of buffer)

-- a filler to which no ask was known. It took none and filled none, if it lost none
pub record StayedIdle (a b : Filler) : Type 0 where
  pub none_known : known_items b.asks ≡ []
  pub took : b.lost ≡ false → received b.asks ≡ received a.asks
  pub filled : b.lost ≡ false → filled b ≡ filled a

-- a filler that sent of the buffers that it kept, and did nothing else
pub record Offered (a b : Filler) : Type 0 where
  pub filled : filled b ≡ filled a
  pub kept : length b.kept ≤ length a.kept
  pub asks : b.asks ≡ a.asks
  pub lost : b.lost ≡ a.lost
  pub looked : b.looked ≡ a.looked

-- a filler that can serve all asks that are known to it
pub record CanServe (f : Filler) : Type 0 where
  pub lost : f.lost ≡ false
  pub few : length (known_items f.asks) + length f.kept ≤ 2
  pub asks : All (IsAskFor (page_count f.clip.wave.frames) f.clip.wave.channels) (known_items f.asks)
