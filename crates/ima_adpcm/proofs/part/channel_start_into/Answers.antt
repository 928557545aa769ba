-- Frame 0 is the header's predictor, and the codes give the frames from 1 on.
use Rattle.std.proofs.Common.{◌≡◌, ◌∙◌, ◌-◌, ap, rules, sym, FitsSigned}
use Rattle.std.specs.Int.{w16}
use Rattle.std.proofs.lemmas.Int.{to_z-of_z}
use Rattle.std.proofs.Math.Nat.{sub-zero}
use Rattle.ima_adpcm.specs.Blocks.{block_sample, block_state, header, samples_after, state_after}
use Rattle.ima_adpcm.proofs.FrameLemmas.{written-first}
use Rattle.ima_adpcm.proofs.StateLemmas.{state_after-none}
use Rattle.ima_adpcm.proofs.part.channel_start_into.Goals as goal

pub returns-clause-decoder : goal.returns-clause-decoder
unfolding block_state
returns-clause-decoder c =
    let start : c.in-Some.first ≡ header c.args.block.now c.args.c = c.in-Some.ensures.some in
    (simp sub-zero at c.channel_into.ensures.state)
    ∙ ap (λ s. state_after c.args.block.now c.args.ch c.args.c 0 s (c.args.count - 1)) start

pub returns-clause-written : goal.returns-clause-written
unfolding block_state
returns-clause-written c =
    let start : c.in-Some.first ≡ header c.args.block.now c.args.c = c.in-Some.ensures.some in
    let fits : FitsSigned w16 c.predictor.result = search rules in
    written-first c.args.ch c.args.c c.args.count (block_sample c.args.block.now c.args.ch c.args.c)
    (samples_after c.args.block.now c.args.ch c.args.c 0 c.in-Some.first) _ c.args.out.now c.put.new.out c.channel_into.new.out
    c.requires.channel c.requires.some c.put.ensures
    (simp sub-zero at c.channel_into.ensures.written)
    (to_z-of_z w16 c.predictor.result fits ∙ c.predictor.ensures ∙ ap (λ s. s.predictor) start
    ∙ ap (λ s. s.predictor) (sym (state_after-none c.args.block.now c.args.ch c.args.c 0 (header c.args.block.now c.args.c))))
    (λ i. ap (λ s. samples_after c.args.block.now c.args.ch c.args.c 0 s i) start)
