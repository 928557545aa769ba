-- What the two ends know directly after they met.
use Rattle.std.specs.Prelude.{◌≡◌, ◌+◌, ◌≤◌, length, map, All, true}
use Rattle.rtrb.specs.Ring.{known_items}
use Rattle.stream_reel.specs.Asks.{key_of, HasChannels}
use Rattle.stream_reel.specs.Due.{ComesFirst}
use Rattle.stream_reel.specs.Steps.{CanServe}
use Rattle.stream_reel.specs.declared.listener.Listener.{Listener}
use Rattle.stream_reel.specs.declared.filler.Filler.{Filler}

-- a listener that knows each buffer that lies in its ring: the first of them that is of the present round has the page
-- at its place
pub record ListenerHasMet (l : Listener) : Type 0 where
  pub looked : l.looked ≡ true
  pub few : length (known_items l.fills) + length l.kept ≤ 2
  pub first : ComesFirst l.round l.place (map key_of (known_items l.fills))
  pub channels : All (HasChannels l.channels) (known_items l.fills)

-- a filler that knows each ask that lies in its ring, and can serve them
pub record FillerHasMet (f : Filler) : Type 0 where
  pub looked : f.looked ≡ true
  pub can_serve : CanServe f

-- no buffer of the present round is known to a listener
abbrev pub NoneOfRound : Listener → Type 0
NoneOfRound l = All (λ b. b.round ≡ l.round → ⊥) (known_items l.fills)
