use Rattle.std.proofs.Common.{◌≡◌, ◌+◌, ◌-◌, arith}
use Rattle.fx_nodes.proofs.DelayLemmas.{delayed_fed, delayed_silent}
use Rattle.fx_nodes.proofs.laws.a_delay_feeds_back.Goals as goal

pub returns-clause-silent : goal.returns-clause-silent
returns-clause-silent c x frames decay t early = delayed_silent x frames decay t early

pub returns-clause-fed : goal.returns-clause-fed
returns-clause-fed c x frames decay t some late =
    let before : t - frames + frames ≡ t = omega (arith, late) in
    rw before at (delayed_fed x frames decay (t - frames) some)
