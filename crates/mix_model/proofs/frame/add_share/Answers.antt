use Rattle.std.proofs.Common.{◌∙◌, ap, ◌+ℤ◌, ◌≡◌, arith}
use Rattle.std.proofs.lemmas.Int.{ints}
use Rattle.mix_model.specs.OrderedBuses.{frame_state_of, sum_at}
use Rattle.mix_model.proofs.AddedShares.{sum_fits, sum_is, added_is, within_after, share_from}
use Rattle.mix_model.proofs.frame.add_share.Goals as goal

pub overflow_add-sums : goal.overflow_add-sums
overflow_add-sums c =
    let same : c.from.result ≡ c.share-share.result = omega (arith, ints, c.share-share.ensures.range) in
    rw same (sum_fits (sum_at c.args.sums.now c.in-Some.to) c.share-share.result (c.requires.within c.in-Some.to) c.share-share.ensures.range)

pub returns-clause-added : goal.returns-clause-added
returns-clause-added c =
    let to = c.in-Some.to in
    let sums = c.args.sums.now in
    let same : c.from.result ≡ c.share-share.result = omega (arith, ints, c.share-share.ensures.range) in
    let inside = c.requires.bus.to_is to c.in-Some.is in
    let shared = share_from c.args.nodes.now c.args.clips.now c.args.cursors.now c.args.time c.args.channel c.args.bus.now sums c.sat24-input.result c.output-output.result c.share-share.result (c.requires.within c.args.bus.now.node) c.sat24-input.ensures.nearest c.sat24-input.ensures.range c.output-output.ensures.value c.output-output.ensures.range c.share-share.ensures.value in
    let is = sum_is (sum_at sums to) c.share-share.result (c.requires.within to) c.share-share.ensures.range in
    λ buses. rw same (added_is (frame_state_of c.args.nodes.now buses c.args.time c.args.clips.now c.args.cursors.now) c.args.channel c.args.bus.now to sums _ c.in-Some.is (omega arith) (is ∙ ap (λ x. sum_at sums to +ℤ x) shared))

pub returns-clause-within : goal.returns-clause-within
returns-clause-within c =
    let to = c.in-Some.to in
    let sums = c.args.sums.now in
    let same : c.from.result ≡ c.share-share.result = omega (arith, ints, c.share-share.ensures.range) in
    let inside = c.requires.bus.to_is to c.in-Some.is in
    λ count within. rw same (within_after count sums to _ c.share-share.result (omega arith) (sum_is (sum_at sums to) c.share-share.result (c.requires.within to) c.share-share.ensures.range) c.share-share.ensures.range within)
