-- Frame 0 is the header's predictor, and the codes give the frames from 1 on.
use Rattle.std.proofs.Common.{◌≡◌, ◌∙◌, ◌-◌, ◌*◌, ◌/◌, ◌≤◌, subst, ap, arith, rules, sym, length, FitsSigned}
use Rattle.std.specs.Int.{w16}
use Rattle.std.proofs.lemmas.Int.{to_z-of_z}
use Rattle.std.proofs.Math.Nat.{mul-le-mul_right, sub-zero}
use Rattle.ima_adpcm.specs.Blocks.{block_sample, block_state, header, samples_after}
use Rattle.ima_adpcm.specs.Frames.{ChannelWritten}
use Rattle.ima_adpcm.proofs.FrameLemmas.{written-first}
use Rattle.ima_adpcm.proofs.LayoutLemmas.{block_frames-whole}
use Rattle.ima_adpcm.proofs.StateLemmas.{state_after-none}
use Rattle.ima_adpcm.proofs.block.whole_channel_into.Goals as goal

pub put-requires-clause-room : goal.put-requires-clause-room
put-requires-clause-room c =
    let some : 1 ≤ c.args.frames =
    omega (arith, c.requires.frames, block_frames-whole (length c.args.block.now) c.args.ch c.requires.headers) in
    omega (arith, c.requires.room, c.requires.channel, mul-le-mul_right c.args.ch some)

pub returns : goal.returns
unfolding block_state
returns c =
    let some : 1 ≤ c.args.frames =
    omega (arith, c.requires.frames, block_frames-whole (length c.args.block.now) c.args.ch c.requires.headers) in
    let count : 8 * (c.args.frames / 8) ≡ c.args.frames - 1 =
    omega (arith, c.requires.frames, block_frames-whole (length c.args.block.now) c.args.ch c.requires.headers) in
    let start : c.in-Some.first ≡ header c.args.block.now c.args.c = c.in-Some.ensures.some in
    let fits : FitsSigned w16 c.predictor.result = search rules in
    written-first c.args.ch c.args.c c.args.frames (block_sample c.args.block.now c.args.ch c.args.c)
    (samples_after c.args.block.now c.args.ch c.args.c 0 c.in-Some.first) _ c.args.out.now c.put.new.out c.words_into.new.out
    c.requires.channel some c.put.ensures
    (subst (λ n. ChannelWritten c.args.ch c.args.c 1 n (samples_after c.args.block.now c.args.ch c.args.c 0 c.in-Some.first)
    c.put.new.out c.words_into.new.out)
    count (simp sub-zero at c.words_into.ensures.written))
    (to_z-of_z w16 c.predictor.result fits ∙ c.predictor.ensures ∙ ap (λ s. s.predictor) start
    ∙ ap (λ s. s.predictor) (sym (state_after-none c.args.block.now c.args.ch c.args.c 0 (header c.args.block.now c.args.c))))
    (λ i. ap (λ s. samples_after c.args.block.now c.args.ch c.args.c 0 s i) start)
