-- A ring of zeros.
use Rattle.std.proofs.Common.{◌≡◌, ◌*◌, pos, [], replicate, arith, rules}
use Rattle.fx_nodes.specs.Samples.{sample}
use Rattle.fx_nodes.proofs.DelayLemmas.{ring_opens}
use Rattle.fx_nodes.proofs.delay_line.DelayLine.new.Goals as goal

pub returns-clause-empty : goal.returns-clause-empty
returns-clause-empty c =
    let zeros : c.in_ok-ring.ring.items ≡ replicate (2 * c.args.frames) (pos 0) = search rules in
    ring_opens (sample []) (2 * c.args.frames) c.args.decay c.in_ok-ring.ring.items (omega arith) zeros
