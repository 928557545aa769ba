-- The two ends of a stream.
use Rattle.std.specs.Prelude.{◌≡◌, ℕ, List, ◌++◌}
use Rattle.rtrb.specs.Ring.{sent, received, known_items, IsPair, SameProducer, SameConsumer}
use Rattle.clip_decode.specs.Pages.{page_count}
use Rattle.stream_reel.specs.Heard.{Entry, heard_of}
use Rattle.stream_reel.specs.Asks.{back_of}
use Rattle.stream_reel.specs.declared.buffer.Buffer.{Buffer}
use Rattle.stream_reel.specs.declared.buffer.Held.{Held}
use Rattle.stream_reel.specs.declared.listener.Listener.{Listener}
use Rattle.stream_reel.specs.declared.filler.Filler.{Filler}

-- the buffers that a listener sent back and those that it has
abbrev pub back : Listener → List Held
back l = back_of (sent l.asks) l.kept

-- the list of what was heard
abbrev pub heard : Listener → List Entry
heard l = heard_of (back l)

-- the bytes of the file that a filler decodes
abbrev pub file : Filler → List ℕ
file f = f.clip.bytes

-- the buffers that a filler filled: those that it sent, and those that it keeps
abbrev pub filled : Filler → List Buffer
filled f = sent f.fills ++ f.kept

-- the two ends of one stream
pub record IsStream (f : Filler) (l : Listener) : Type 0 where
  pub fills : IsPair f.fills l.fills
  pub asks : IsPair l.asks f.asks
  pub pages : l.pages ≡ page_count f.clip.wave.frames
  pub channels : l.channels ≡ f.clip.wave.channels

-- each end knows all that lies in the ring from which it takes: what was received and what is known is what was sent
pub record AllKnown (f : Filler) (l : Listener) : Type 0 where
  pub fills : received l.fills ++ known_items l.fills ≡ sent f.fills
  pub asks : received f.asks ++ known_items f.asks ≡ sent l.asks

-- these are one listener, at two moments
pub record SameListener (a b : Listener) : Type 0 where
  pub asks : SameProducer a.asks b.asks
  pub fills : SameConsumer a.fills b.fills
  pub pages : b.pages ≡ a.pages
  pub channels : b.channels ≡ a.channels

-- these are one filler, at two moments
pub record SameFiller (a b : Filler) : Type 0 where
  pub asks : SameConsumer a.asks b.asks
  pub fills : SameProducer a.fills b.fills
  pub clip : b.clip ≡ a.clip

-- a listener that heard nothing in between
pub record HeardNothing (a b : Listener) : Type 0 where
  pub heard : heard b ≡ heard a
  pub round : b.round ≡ a.round
  pub place : b.place ≡ a.place
