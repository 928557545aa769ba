-- The answer goes by the three cases of the definition; the channels' samples together are the frames, interleaved.
use Rattle.std.proofs.Common.{◌≡◌, ◌∙◌, arith, sym, refl, length, subst, Some, None}
use Rattle.ima_adpcm.specs.Blocks.{block_frames, block_sample, block_samples}
use Rattle.ima_adpcm.proofs.FaultLemmas.{answer-short, answer-whole}
use Rattle.ima_adpcm.proofs.FrameLemmas.{ChannelsWritten, channels-all}
use Rattle.ima_adpcm.proofs.LayoutLemmas.{short-block, whole-block, length-block_samples, block_samples-none}
use Rattle.ima_adpcm.proofs.block.block_into.Goals as goal

pub returns-then-frames-eq0-clause-answer : goal.returns-then-frames-eq0-clause-answer
returns-then-frames-eq0-clause-answer c =
    sym (answer-short c.args.bytes.now c.args.ch
    (short-block (length c.args.bytes.now) c.args.ch (sym c.block_frames-frames.ensures ∙ c.if-frames-eq0.true)))

pub returns-then-frames-eq0-clause-frames : goal.returns-then-frames-eq0-clause-frames
returns-then-frames-eq0-clause-frames c =
    rw (block_samples-none c.args.bytes.now c.args.ch (sym c.block_frames-frames.ensures ∙ c.if-frames-eq0.true)) refl

pub returns-in-Some-clause-answer : goal.returns-in-Some-clause-answer
returns-in-Some-clause-answer c =
    sym (answer-whole c.args.bytes.now c.args.ch (Some c.in-Some.fault)
    (whole-block (length c.args.bytes.now) c.args.ch
    (λ none. c.if-frames-eq0.false (c.block_frames-frames.ensures ∙ none)))
    c.in-Some.ensures.fault)

pub returns-clause-answer : goal.returns-clause-answer
returns-clause-answer c =
    rw c.block_frames-frames.ensures
    (sym (answer-whole c.args.bytes.now c.args.ch None
    (whole-block (length c.args.bytes.now) c.args.ch
    (λ none. c.if-frames-eq0.false (c.block_frames-frames.ensures ∙ none)))
    (sym c.in_default.is ∙ c.first_fault.ensures.fault)))

pub returns-clause-frames : goal.returns-clause-frames
unfolding block_samples
returns-clause-frames c =
    let all : c.loop-c.c ≡ c.args.ch = omega arith in
    let written =
    subst (λ frames. ChannelsWritten c.args.ch frames c.args.ch (block_sample c.args.bytes.now c.args.ch) c.args.out.now c.loop-c.out)
    c.block_frames-frames.ensures
    (subst (λ d. ChannelsWritten c.args.ch c.block_frames-frames.result d (block_sample c.args.bytes.now c.args.ch) c.args.out.now c.loop-c.out)
    all c.loop-c.invariant) in
    rw length-block_samples
    (channels-all c.args.ch (block_frames (length c.args.bytes.now) c.args.ch) (block_sample c.args.bytes.now c.args.ch)
    c.args.out.now c.loop-c.out (omega arith) c.requires.room c.loop-c.auto.out written)
