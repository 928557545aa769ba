use Rattle.bus_list.proofs.PredecessorSearch.{onward, found}
use Rattle.bus_list.proofs.predecessor.find_predecessor.Goals as goal

pub loop-at-smaller : goal.loop-at-smaller
loop-at-smaller g c = (onward c.args.buses c.args.links.now c.args.seat.now.me.0.editing.chain c.args.bus c.loop-at.at c.requires.route c.loop-at.invariant c.loop-at-test.true).less

pub loop-at-preserved : goal.loop-at-preserved
loop-at-preserved g c = (onward c.args.buses c.args.links.now c.args.seat.now.me.0.editing.chain c.args.bus c.loop-at.at c.requires.route c.loop-at.invariant c.loop-at-test.true).behind

pub returns : goal.returns
returns g c = (c.loop-at.invariant.low, found c.args.buses c.args.links.now c.args.seat.now.me.0.editing.chain c.args.bus c.loop-at.at c.requires.route c.loop-at.invariant c.loop-at-test.false)
