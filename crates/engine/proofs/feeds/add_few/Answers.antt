use Rattle.std.proofs.Common.{◌≤◌, arith}
use Rattle.std.proofs.lemmas.Int.{ints}
use Rattle.engine.proofs.feeds.add_few.Goals as goal

pub returns-clause-within : goal.returns-clause-within
returns-clause-within c = λ most are j below.
    let within = c.add_scaled_narrow.ensures.within most are j below in
    let least : c.args.bus.now.gain ≤ 1048576 = c.requires.gain in
    record { low = omega (arith, ints, within.low, least); high = omega (arith, ints, within.high, least) }
