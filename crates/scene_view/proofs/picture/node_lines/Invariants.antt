use Rattle.std.proofs.Common.{string_bytes, ◌≡◌}
use Rattle.scene_view.specs.Wiring.{node_lines}
use Rattle.scene_view.proofs.picture.node_lines.Given as goal

abbrev pub invariant-loop-number : goal.invariant-loop-number
invariant-loop-number l = string_bytes l.text ≡ node_lines l.scene l.plan l.frame l.number
