use Rattle.std.proofs.Common.{◌≡◌, [], ◌∷◌, ◌++◌, ◌∙◌, ap}
use Rattle.rtrb.specs.Ring.{received}
use Rattle.stream_reel.specs.Ends.{filled}
use Rattle.stream_reel.proofs.filler.Filler.turn.Goals as goal

pub returns-clause-filled : goal.returns-clause-filled
returns-clause-filled c round number e =
    let one = c.serve-turned.ensures.filled round number e in
    let before : filled c.look.new.self ≡ filled c.args.self.now =
    rw (c.look.ensures.rest.0, c.look.ensures.rest.1) c.offer.ensures.offered.filled in
    record {
      ask = one.ask;
      took =
          ap received c.offer-2.ensures.offered.asks ∙ one.took
          ∙ ap (λ xs. xs ++ one.ask ∷ []) (c.look.ensures.looked.1 ∙ ap received c.offer.ensures.offered.asks);
      wanted = one.wanted;
      buffer = one.buffer;
      filled = c.offer-2.ensures.offered.filled ∙ one.filled ∙ ap (λ xs. xs ++ one.buffer ∷ []) before;
      key = one.key;
      page = rw (c.look.ensures.same.clip ∙ c.offer.ensures.same.clip) at one.page;
    }
