use Rattle.std.proofs.Common.{rules, refl}
use Rattle.stream_reel.proofs.Meeting.{filler_met, listener_few, first_known, known_room}
use Rattle.stream_reel.proofs.stream.Stream.meet.Goals as goal

pub returns-clause-filler : goal.returns-clause-filler
returns-clause-filler c =
    let looked = c.look_beside.ensures in
    let met = filler_met c.look_beside.new.filler c.look_beside.new.listener looked.stream looked.known in
    (search rules, record { looked = refl; can_serve = record { lost = met.lost; few = met.few; asks = met.asks } })

pub returns-clause-listener : goal.returns-clause-listener
returns-clause-listener c =
    let looked = c.look_beside.ensures in
    let f = c.look_beside.new.filler in
    let l = c.look_beside.new.listener in (
      search rules,
      record {
        looked = refl;
        few = listener_few f l looked.stream looked.known;
        first = first_known f l looked.stream looked.known;
        channels = known_room f l looked.stream looked.known;
      },
    )
