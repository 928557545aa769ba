-- Each turn of the loop is one more code.
use Rattle.std.proofs.Common.{◌≡◌, ◌+◌, ◌-◌, ◌∙◌, arith, rules, ap, FitsSigned}
use Rattle.std.specs.Int.{w16}
use Rattle.std.proofs.lemmas.Int.{to_z-of_z}
use Rattle.ima_adpcm.specs.Blocks.{code_at}
use Rattle.ima_adpcm.proofs.RunLemmas.{run-none, run-more}
use Rattle.ima_adpcm.proofs.block.codes_into.Goals as goal

pub loop-j-init : goal.loop-j-init
loop-j-init c =
    let none : c.args.codes.start - c.args.codes.start ≡ 0 = omega arith in
    rw none (
      run-none c.args.block.now c.args.ch c.args.c c.args.codes.start c.args.at c.args.before c.args.out.now,
      omega arith,
    )

pub loop-j-preserved : goal.loop-j-preserved
loop-j-preserved c =
    let n = c.loop-j.j - c.args.codes.start in
    let count : c.loop-j.j + 1 - c.args.codes.start ≡ n + 1 = omega arith in
    let number : c.loop-j.j ≡ c.args.codes.start + n = omega arith in
    let fits : FitsSigned w16 c.step-sample.result = search rules in
    rw count (
      run-more c.args.block.now c.args.ch c.args.c c.args.codes.start n c.args.at c.code.result _
          c.args.before c.loop-j.decoder c.step-sample.new.self c.args.out.now c.loop-j.out c.put.new.out
          c.requires.channel c.loop-j.invariant.0
          (c.code.ensures.value ∙ ap (code_at c.args.block.now c.args.ch c.args.c) number)
          c.step-sample.ensures.state c.put.ensures
          (to_z-of_z w16 c.step-sample.result fits ∙ c.step-sample.ensures.sample),
      omega (arith, c.loop-j.invariant.1),
    )

pub returns : goal.returns
returns c =
    let count : c.args.codes.end - c.args.codes.start ≡ c.loop-j.j - c.args.codes.start =
    omega (arith, c.loop-j.invariant.1) in
    rw count c.loop-j.invariant.0
