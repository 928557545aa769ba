use Rattle.std.proofs.Common.{length}
use Rattle.fx_nodes.proofs.stage.+run_stages.Given as goal

abbrev pub decreases-run_stages : goal.decreases-run_stages
decreases-run_stages l = length l.stages.now
