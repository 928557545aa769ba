-- The first stage, and those behind it.
use Rattle.std.proofs.Common.{◌≡◌, ◌∷◌, rules}
use Rattle.fx_nodes.proofs.Chained.{chain_steps}
use Rattle.fx_nodes.proofs.stage.+run_stages.Goals as goal

pub returns-in-Some-clause-value : goal.returns-in-Some-clause-value
returns-in-Some-clause-value t c taken even ready =
    let view : c.args.stages.now ≡ c.in-Some.first.now ∷ c.in-Some.rest.now = search rules in
    rw view
    (chain_steps c.in-Some.first.now c.block.new.self c.in-Some.rest.now c.run_stages.new.stages c.args.start taken c.args.frames.now c.block.new.frames c.run_stages.new.frames
    c.block.ensures.effect c.block.ensures.value c.run_stages.ensures.value even (rw view at ready))
