-- A mark and the step, less the first gain.
use Rattle.std.proofs.Common.{◌≡◌, ◌+◌, ◌-◌, ◌*◌, ◌<◌, arith}
use Rattle.fx_nodes.specs.Slopes.{height}
use Rattle.fx_nodes.proofs.Slopes.{next_mark, reaches, sum_is}
use Rattle.fx_nodes.proofs.slope.Slope.next.Goals as goal

pub overflow_sub-result : goal.overflow_sub-result
overflow_sub-result c =
    let line = c.args.self.now in
    let step = c.requires.step in
    let at = c.requires.stands.0 in
    let mark = c.requires.stands.2 in
    let sum = sum_is line.first line.last line.span at c.args.mark.gain c.args.mark.rest c.args.step.gain c.args.step.rest c.requires.stands.1 mark.place step.place in
    reaches (c.args.mark.gain + c.args.step.gain) (c.args.mark.rest + c.args.step.rest) line.first line.span (height line.first line.last line.span (at + 1)) c.if-rest-self.true sum

pub overflow_sub-result-else-rest-self : goal.overflow_sub-result-else-rest-self
overflow_sub-result-else-rest-self c =
    let line = c.args.self.now in
    let step = c.requires.step in
    let at = c.requires.stands.0 in
    let mark = c.requires.stands.2 in
    let sum = sum_is line.first line.last line.span at c.args.mark.gain c.args.mark.rest c.args.step.gain c.args.step.rest c.requires.stands.1 mark.place step.place in
    reaches (c.args.mark.gain + c.args.step.gain + 1) (c.args.mark.rest + c.args.step.rest - line.span) line.first line.span (height line.first line.last line.span (at + 1))
    (omega (arith, mark.rest, step.rest)) (omega (arith, sum))

pub returns-then-rest-self : goal.returns-then-rest-self
returns-then-rest-self c at inside mark =
    let line = c.args.self.now in
    let step = c.requires.step in
    let sum = sum_is line.first line.last line.span at c.args.mark.gain c.args.mark.rest c.args.step.gain c.args.step.rest inside mark.place step.place in
    let below = c.if-rest-self.true in
    let enough = reaches (c.args.mark.gain + c.args.step.gain) (c.args.mark.rest + c.args.step.rest) line.first line.span (height line.first line.last line.span (at + 1)) below sum in
    let next = next_mark line.first line.last line.span at (c.args.mark.gain + c.args.step.gain) (c.args.mark.gain + c.args.step.gain - line.first) (c.args.mark.rest + c.args.step.rest)
    line.first_most line.last_most inside below (omega (arith, enough)) sum in
    record { place = next.0; rest = below; most = next.1 }

pub returns-else-rest-self : goal.returns-else-rest-self
returns-else-rest-self c at inside mark =
    let line = c.args.self.now in
    let step = c.requires.step in
    let sum = sum_is line.first line.last line.span at c.args.mark.gain c.args.mark.rest c.args.step.gain c.args.step.rest inside mark.place step.place in
    let gain = c.args.mark.gain + c.args.step.gain + 1 in
    let rest = c.args.mark.rest + c.args.step.rest - line.span in
    let below : rest < line.span = omega (arith, mark.rest, step.rest) in
    let sum' : gain * line.span + rest ≡ height line.first line.last line.span (at + 1) + line.first * line.span = omega (arith, sum) in
    let enough = reaches gain rest line.first line.span (height line.first line.last line.span (at + 1)) below sum' in
    let next = next_mark line.first line.last line.span at gain (gain - line.first) rest line.first_most line.last_most inside below (omega (arith, enough)) sum' in
    record { place = next.0; rest = below; most = next.1 }
