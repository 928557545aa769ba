use Rattle.std.proofs.Common.{◌≡◌, take}
use Rattle.scene_model.proofs.copies.copied_resources.Given as goal

abbrev pub invariant-loop-resource : goal.invariant-loop-resource
invariant-loop-resource l = l.copies.items ≡ take l.resource-index l.resources
