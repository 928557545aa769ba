-- Which edits change the buses of a plan.
use Rattle.std.specs.Prelude.{Bool, true, false}
use Rattle.scene_model.specs.declared.edit.Edit.{Edit}
use Rattle.scene_model.specs.declared.edit.Edit.TheVariants.{Attach, Detach, SetGain, Start, Stop, From, Until, Seek, Loop}

-- it is an edit of a bus: where it is attached, or its gain
abbrev pub is_of_bus : Edit → Bool
is_of_bus (Attach node out to) = true
is_of_bus (Detach node out) = true
is_of_bus (SetGain node out gain) = true
is_of_bus (Start node) = false
is_of_bus (Stop node) = false
is_of_bus (From node value) = false
is_of_bus (Until node value) = false
is_of_bus (Seek node place) = false
is_of_bus (Loop node on) = false
