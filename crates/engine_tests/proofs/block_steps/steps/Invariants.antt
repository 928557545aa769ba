use Rattle.std.proofs.Common.{◌≡◌}
use Rattle.engine_tests.proofs.block_steps.steps.Given as goal

abbrev pub invariant-loop : goal.invariant-loop
invariant-loop l = l.renderer.scene ≡ l.scene
