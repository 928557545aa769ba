-- Each turn of the loop is one more code.
use Rattle.std.proofs.Common.{◌≡◌, ◌+◌, ◌*◌, ◌/◌, ◌≤◌, ◌∙◌, arith, length, subst, rules, FitsSigned}
use Rattle.std.specs.Int.{w16}
use Rattle.std.proofs.lemmas.Int.{to_z-of_z}
use Rattle.ima_adpcm.proofs.LayoutLemmas.{word-inside}
use Rattle.ima_adpcm.proofs.RunLemmas.{run-none, run-more}
use Rattle.ima_adpcm.proofs.block.word_into.Goals as goal

pub word-word-requires : goal.word-word-requires
word-word-requires c =
    let group : 8 * c.args.group / 8 ≡ c.args.group = omega arith in
    subst (λ g. 4 * c.args.ch + 4 * c.args.ch * g + 4 * c.args.c + 4 ≤ length c.args.block.now) group
    (word-inside (length c.args.block.now) c.args.ch c.args.c (8 * c.args.group) c.requires.channel (omega arith))

pub loop-i-init : goal.loop-i-init
loop-i-init c =
    run-none c.args.block.now c.args.ch c.args.c (8 * c.args.group) c.args.at c.args.before c.args.out.now

pub loop-i-preserved : goal.loop-i-preserved
loop-i-preserved c =
    let fits : FitsSigned w16 c.step-sample.result = search rules in
    run-more c.args.block.now c.args.ch c.args.c (8 * c.args.group) c.loop-i.i c.args.at c.code_in.result _
    c.args.before c.loop-i.decoder c.step-sample.new.self c.args.out.now c.loop-i.out c.put.new.out
    c.requires.channel c.loop-i.invariant
    (c.code_in.ensures.value ∙ c.word-word.ensures c.loop-i.i (omega arith))
    c.step-sample.ensures.state c.put.ensures
    (to_z-of_z w16 c.step-sample.result fits ∙ c.step-sample.ensures.sample)
