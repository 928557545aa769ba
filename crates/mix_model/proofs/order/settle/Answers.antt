use Rattle.std.proofs.Common.{arith, refl, length}
use Rattle.mix_model.specs.Depths.{AreLeast}
use Rattle.mix_model.proofs.Deepening.{depths_most, sum_most, zeros_at}
use Rattle.mix_model.proofs.order.settle.Goals as goal

pub loop-init : goal.loop-init
loop-init c = λ number rise n. omega (arith, zeros_at c.fill.new.self (length c.args.depths.now) n (c.fill.ensures.after (λ y e. e)))

pub deepen-requires-clause-within : goal.deepen-requires-clause-within
deepen-requires-clause-within c = depths_most c.args.buses.now c.loop.depths c.requires.no_cycle c.requires.most c.loop.invariant

pub loop-preserved : goal.loop-preserved
loop-preserved c = λ number rise. c.deepen.ensures.kept number rise (c.loop.invariant number rise)

pub loop-smaller : goal.loop-smaller
loop-smaller c =
    let below : AreLeast c.args.buses.now c.deepen.new.depths = λ number rise. c.deepen.ensures.kept number rise (c.loop.invariant number rise) in
    let most = sum_most c.deepen.new.depths (depths_most c.args.buses.now c.deepen.new.depths c.requires.no_cycle c.requires.most below) in
    let more = c.loop-test.ensures.deeper refl in
    omega arith

pub returns-clause-least : goal.returns-clause-least
returns-clause-least c = λ number rise. c.deepen.ensures.kept number rise (c.loop.invariant number rise)
