use Rattle.live_graph.proofs.Closing.{readings_are}
use Rattle.live_graph.proofs.desk.Desk.close.Goals as goal

pub returns-clause-readings : goal.returns-clause-readings
returns-clause-readings g c =
    let mixing = c.into_parts-mixing in
    readings_are g.N.Run.run c.self.inside.stage c.self.inside.made.items c.self.inside.journal.items c.join_mixer.new.seat.me mixing.result.0.me.0 c.args.mixer.readings
    c.self.invariant.0 c.join_mixer.ensures.1 mixing.ensures.seat.2 mixing.ensures.parts.0 c.learn.ensures.2
