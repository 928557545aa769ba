-- Each turn of the loop writes one more channel whole, and moves its decoder alone.
use Rattle.std.proofs.Common.{rules, arith, ◌+◌, ◌-◌, ◌∙◌}
use Rattle.ima_adpcm.specs.Blocks.{block_sample}
use Rattle.ima_adpcm.proofs.FrameLemmas.{channels-more, places-beyond}
use Rattle.ima_adpcm.proofs.part.part_into.Goals as goal

pub loop-c-preserved : goal.loop-c-preserved
loop-c-preserved c = record {
  done = search rules;
  left = search rules;
  others = search rules;
  rest = λ k behind.
      places-beyond c.args.ch (c.args.frames.end - c.args.frames.start) c.loop-c.out c.channel_part_into.new.out (omega arith)
      (λ f d channel below. c.channel_part_into.ensures.written.beyond f d channel (omega arith)) k behind
      ∙ c.loop-c.invariant.rest k behind;
  written =
      channels-more c.args.ch (c.args.frames.end - c.args.frames.start) c.loop-c.c
      (λ d f. block_sample c.args.block.now c.args.ch d (c.args.frames.start + f)) c.args.out.now c.loop-c.out
      c.channel_part_into.new.out (omega arith) c.loop-c.invariant.written c.channel_part_into.ensures.written;
}
