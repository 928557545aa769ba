-- The decoder goes on from the frame before the part.
use Rattle.std.proofs.Common.{◌≡◌, ◌+◌, ◌-◌, ◌∙◌, arith, ap, subst}
use Rattle.ima_adpcm.specs.Blocks.{block_sample, block_state, samples_after, state_after}
use Rattle.ima_adpcm.specs.Frames.{ChannelWritten}
use Rattle.ima_adpcm.proofs.FrameLemmas.{written-as}
use Rattle.ima_adpcm.proofs.StateLemmas.{block_state-add}
use Rattle.ima_adpcm.proofs.part.channel_part_into.Goals as goal

pub returns-clause-decoder : goal.returns-clause-decoder
returns-clause-decoder c =
    let from = c.args.frames.start - 1 in
    let n = c.args.frames.end - 1 - from in
    let last : from + n ≡ c.args.frames.end - 1 = omega arith in
    c.channel_into.ensures.state
    ∙ ap (λ s. state_after c.args.block.now c.args.ch c.args.c from s n) (c.requires.stands (omega arith))
    ∙ block_state-add c.args.block.now c.args.ch c.args.c from n
    ∙ ap (block_state c.args.block.now c.args.ch c.args.c) last

pub returns-clause-written : goal.returns-clause-written
returns-clause-written c =
    let from = c.args.frames.start - 1 in
    let count : c.args.frames.end - 1 - from ≡ c.args.frames.end - c.args.frames.start = omega arith in
    written-as c.args.ch c.args.c 0 (c.args.frames.end - c.args.frames.start)
    (samples_after c.args.block.now c.args.ch c.args.c from c.args.before)
    (λ i. block_sample c.args.block.now c.args.ch c.args.c (c.args.frames.start + i)) c.args.out.now c.channel_into.new.out
    (subst (λ n. ChannelWritten c.args.ch c.args.c 0 n (samples_after c.args.block.now c.args.ch c.args.c from c.args.before)
    c.args.out.now c.channel_into.new.out)
    count c.channel_into.ensures.written)
    (λ i.
    let next : from + (i + 1) ≡ c.args.frames.start + i = omega arith in
    ap (λ s. s.predictor)
    (ap (λ s. state_after c.args.block.now c.args.ch c.args.c from s (i + 1)) (c.requires.stands (omega arith))
    ∙ block_state-add c.args.block.now c.args.ch c.args.c from (i + 1)
    ∙ ap (block_state c.args.block.now c.args.ch c.args.c) next))
