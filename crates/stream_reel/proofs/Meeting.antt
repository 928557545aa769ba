-- What both ends show where they meet: each buffer that lies in a ring is known to the end that takes from it.
use Rattle.std.proofs.Common.{◌≡◌, ◌+◌, ◌≤◌, ◌∙◌, Bool, true, false, ◌++◌, map, length, All, ap, sym, refl, append_assoc, arith}
use Rattle.std.proofs.lemmas.List.{map-append, length-append, length-map}
use Rattle.rtrb.specs.Ring.{sent, received, known_items}
use Rattle.clip_decode.specs.Pages.{page_count}
use Rattle.stream_reel.specs.Asks.{wanted_by, key_of, HasChannels, IsAskFor}
use Rattle.stream_reel.specs.Due.{ComesFirst}
use Rattle.stream_reel.specs.Ends.{filled, AllKnown, IsStream}
use Rattle.stream_reel.specs.Steps.{CanServe}
use Rattle.stream_reel.specs.declared.buffer.Ask.{Ask}
use Rattle.stream_reel.specs.declared.buffer.Held.{Held}
use Rattle.stream_reel.specs.declared.filler.Filler.{Filler}
use Rattle.stream_reel.specs.declared.listener.Listener.{Listener}
use Rattle.stream_reel.proofs.Buffers.{all_front, all_back, all_mapped}
use Rattle.stream_reel.proofs.DueAsks.{comes_first}

module _ (f : Filler) (l : Listener) (stream : IsStream f l) (known : AllKnown f l) where
  abbrev Served : Ask → Type 0
  Served = IsAskFor (page_count f.clip.wave.frames) f.clip.wave.channels

  -- all that came was filled for these channels, and so was all that is known
  filled_room : All (HasChannels l.channels) (received l.fills ++ known_items l.fills)
  filled_room = rw (known.fills, stream.channels) (all_front (HasChannels f.clip.wave.channels) (sent f.fills) f.kept f.room)

  came_room : All (HasChannels l.channels) (received l.fills)
  came_room = all_front (HasChannels l.channels) (received l.fills) (known_items l.fills) filled_room

  pub known_room : All (HasChannels l.channels) (known_items l.fills)
  known_room = all_back (HasChannels l.channels) (received l.fills) (known_items l.fills) filled_room

  all_asks : All Served (received f.asks ++ known_items f.asks)
  all_asks = rw known.asks (λ k d small.
      let P : Held → Type 0 = λ h. HasChannels l.channels h.buffer in
      let held = all_mapped P (λ (a : Ask). a.held) (sent l.asks) (all_front P (map (λ (a : Ask). a.held) (sent l.asks)) l.kept (l.room came_room)) in
      record {
        inside = rw stream.pages at (l.asked k d small);
        these_channels = rw stream.channels at (held k d small);
      })

  -- so many went through the rings
  fills_count : length (received l.fills) + length (known_items l.fills) + length f.kept ≡ length (filled f)
  fills_count = omega (arith, ap length known.fills, length-append (received l.fills) (known_items l.fills), length-append (sent f.fills) f.kept)

  asks_count : length (received f.asks) + length (known_items f.asks) + length l.kept ≡ length (received l.fills) + 2
  asks_count = omega (arith, ap length known.asks, length-append (received f.asks) (known_items f.asks), l.two)

  none_lost : (lost : Bool) → f.lost ≡ lost → f.lost ≡ false
  none_lost true is =
      let least = (f.loss is).1 (all_front Served (received f.asks) (known_items f.asks) all_asks) in
      absurd (omega (arith, least, fills_count, asks_count))
  none_lost false is = is

  pub is_sound : f.lost ≡ false
  is_sound = none_lost f.lost refl

  served_count : length (received f.asks) ≡ length (filled f)
  served_count = sym (length-map (received f.asks) wanted_by) ∙ (ap length (f.served is_sound) ∙ length-map (filled f) key_of)

  pub filler_met : CanServe f
  filler_met = record {
    lost = is_sound;
    few = omega (arith, fills_count, asks_count, served_count);
    asks = all_back Served (received f.asks) (known_items f.asks) all_asks;
  }

  pub listener_few : length (known_items l.fills) + length l.kept ≤ 2
  listener_few = omega (arith, fills_count, asks_count, served_count)

  -- the asks whose pages didn't come yet: those whose buffers are known, are kept by the filler, or are still asks
  asks_left : map wanted_by (sent l.asks) ≡ map key_of (received l.fills) ++ (map key_of (known_items l.fills) ++ (map key_of f.kept ++ map wanted_by (known_items f.asks)))
  asks_left =
      rw (
        ← known.asks,
        map-append wanted_by (received f.asks) (known_items f.asks),
        f.served is_sound,
        map-append key_of (sent f.fills) f.kept,
        ← known.fills,
        map-append key_of (received l.fills) (known_items l.fills),
      )
      (append_assoc (map key_of (received l.fills) ++ map key_of (known_items l.fills)) (map key_of f.kept) (map wanted_by (known_items f.asks))
      ∙ append_assoc (map key_of (received l.fills)) (map key_of (known_items l.fills)) (map key_of f.kept ++ map wanted_by (known_items f.asks)))

  pub first_known : ComesFirst l.round l.place (map key_of (known_items l.fills))
  first_known = comes_first l.round l.place l.next (map key_of (known_items l.fills)) (map key_of f.kept ++ map wanted_by (known_items f.asks))
      (l.due came_room (map key_of (known_items l.fills) ++ (map key_of f.kept ++ map wanted_by (known_items f.asks))) asks_left)
