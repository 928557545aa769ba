use Rattle.std.proofs.Common.{arith}
use Rattle.engine.proofs.Edges.{steady_if, all_apart}
use Rattle.engine.proofs.steady.span_end.Goals as goal

pub loop-node-preserved : goal.loop-node-preserved
loop-node-preserved c = record {
  after = c.bounded-until.ensures.after;
  within = omega (arith, c.bounded-until.ensures.within, c.bounded.ensures.within, c.loop-node.invariant.within);
  apart = all_apart c.args.nodes.now c.loop-node.node-index c.args.time c.loop-node.until c.bounded.result c.bounded-until.result (omega (arith, c.bounded.ensures.within)) c.bounded-until.ensures.within c.loop-node.invariant.apart c.bounded-until.ensures.apart c.bounded.ensures.apart;
}

pub returns-clause-steady : goal.returns-clause-steady
returns-clause-steady c = λ p same. steady_if p c.args.nodes.now c.args.time c.loop-node.until same (λ k below. c.loop-node.invariant.apart k (omega (arith, below, c.loop-node-test.false)))
