use Rattle.node_graph.proofs.Counting.{count-attached}
use Rattle.node_graph.proofs.laws.each_attached_bus_is_listed_once.Goals as goal

pub returns : goal.returns
returns c = count-attached c.args.buses.now c.args.node
