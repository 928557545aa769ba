-- The codes before the first whole word, the whole words, and the codes after the last one.
use Rattle.std.proofs.Common.{◌≡◌, ◌+◌, ◌-◌, ◌*◌, ◌/◌, arith, subst}
use Rattle.ima_adpcm.specs.Frames.{ChannelRun}
use Rattle.ima_adpcm.proofs.RunLemmas.{run-join}
use Rattle.ima_adpcm.proofs.block.channel_into.Goals as goal

pub returns : goal.returns
returns c =
    let first = 8 * c.div_ceil.result in
    let last = 8 * (c.args.codes.end / 8) in
    let words : 8 * (c.args.codes.end / 8 - c.div_ceil.result) ≡ last - first = omega arith in
    run-join c.args.block.now c.args.ch c.args.c c.args.codes.start last c.args.codes.end c.args.at
    c.args.before c.words_into-decoder.result c.codes_into-2.result c.args.out.now c.words_into-decoder.new.out c.codes_into-2.new.out
    c.requires.channel (omega arith) (omega arith)
    (run-join c.args.block.now c.args.ch c.args.c c.args.codes.start first last c.args.at
    c.args.before c.codes_into-decoder.result c.words_into-decoder.result c.args.out.now c.codes_into-decoder.new.out c.words_into-decoder.new.out
    c.requires.channel (omega arith) (omega arith) c.codes_into-decoder.ensures
    (subst (λ n. ChannelRun c.args.block.now c.args.ch c.args.c first n (c.args.at + (first - c.args.codes.start))
    c.codes_into-decoder.result c.words_into-decoder.result c.codes_into-decoder.new.out c.words_into-decoder.new.out)
    words c.words_into-decoder.ensures))
    c.codes_into-2.ensures
