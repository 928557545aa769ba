use Rattle.rtrb.specs.Ring.{sent, received}
use Rattle.clip_decode.specs.Pages.{page_count}
use Rattle.stream_reel.specs.Asks.{IsAskFor}
use Rattle.stream_reel.proofs.Filling.{lost_before}
use Rattle.stream_reel.proofs.filler.Filler.drop_ask.Goals as goal

pub invariant_of-self-clause-loss : goal.invariant_of-self-clause-loss
invariant_of-self-clause-loss c t =
    let f = c.args.self.now in
    let P = IsAskFor (page_count f.clip.wave.frames) f.clip.wave.channels in
    let loss = f.loss c.requires in
    (loss.0, lost_before P (received f.asks) _ c.pop_known.result (sent f.fills) f.kept f.kept c.pop_known.ensures.received.0 loss.0 loss.1)
