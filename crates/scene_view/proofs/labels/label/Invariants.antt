use Rattle.std.proofs.Common.{string_bytes, ◌≡◌}
use Rattle.std.specs.List.{flat_map}
use Rattle.scene_view.specs.Labels.{drawn}
use Rattle.scene_view.proofs.labels.label.Given as goal

abbrev pub invariant-loop-c : goal.invariant-loop-c
invariant-loop-c l = string_bytes l.drawn ≡ flat_map drawn l.yielded
