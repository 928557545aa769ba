-- Each turn of the loop appends one word's run.
use Rattle.std.proofs.Common.{◌≡◌, ◌+◌, ◌-◌, ◌*◌, arith, subst}
use Rattle.ima_adpcm.specs.Frames.{ChannelRun}
use Rattle.ima_adpcm.proofs.RunLemmas.{run-none, run-append}
use Rattle.ima_adpcm.proofs.block.words_into.Goals as goal

pub loop-group-init : goal.loop-group-init
loop-group-init c =
    let none : 8 * (c.args.groups.start - c.args.groups.start) ≡ 0 = omega arith in
    rw none (
      run-none c.args.block.now c.args.ch c.args.c (8 * c.args.groups.start) c.args.at c.args.before c.args.out.now,
      omega arith,
    )

pub loop-group-preserved : goal.loop-group-preserved
loop-group-preserved c =
    let n = 8 * (c.loop-group.group - c.args.groups.start) in
    let count : 8 * (c.loop-group.group + 1 - c.args.groups.start) ≡ n + 8 = omega arith in
    let from : 8 * c.loop-group.group ≡ 8 * c.args.groups.start + n = omega arith in
    rw count (
      run-append c.args.block.now c.args.ch c.args.c (8 * c.args.groups.start) n 8 c.args.at
          c.args.before c.loop-group.decoder c.word_into-decoder.result c.args.out.now c.loop-group.out c.word_into-decoder.new.out
          c.requires.channel c.loop-group.invariant.0
          (subst (λ k. ChannelRun c.args.block.now c.args.ch c.args.c k 8 (c.args.at + n)
          c.loop-group.decoder c.word_into-decoder.result c.loop-group.out c.word_into-decoder.new.out)
          from c.word_into-decoder.ensures),
      omega (arith, c.loop-group.invariant.1),
    )

pub returns : goal.returns
returns c =
    let count : 8 * (c.args.groups.end - c.args.groups.start) ≡ 8 * (c.loop-group.group - c.args.groups.start) =
    omega (arith, c.loop-group.invariant.1) in
    rw count c.loop-group.invariant.0
