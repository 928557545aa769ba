-- Nothing is taken yet.
use Rattle.std.proofs.Common.{◌∙◌, sym, subst}
use Rattle.fx_nodes.specs.Stages.{StandsFor, effects_in}
use Rattle.fx_render.proofs.Effected.{no-frames, no-summary}
use Rattle.fx_render.proofs.blocks.Blocks.open.Goals as goal

pub returns-clause-rendering : goal.returns-clause-rendering
returns-clause-rendering c =
    let reader = c.in_ok-reader.reader in
    let start = c.in_ok-reader.ensures.start in
    record {
      reading = c.in_ok-reader.ensures.reading;
      taken = subst (StandsFor c.in_ok-chain.chain) (sym (no-frames reader.clip.bytes reader.next start)) c.in_ok-chain.ensures.empty;
      frames = c.in_ok-chain.ensures.clock ∙ sym start;
      summary_is = c.empty.ensures ∙ no-summary reader.clip.bytes (effects_in c.in_ok-chain.chain) reader.next start;
    }
