use Rattle.std.proofs.Common.{◌≡◌, ◌++◌, string_bytes}
use Rattle.gen_scene.specs.Draws.{state}
use Rattle.gen_scene.specs.Script.{rows, group_bus_lines, player_bus}
use Rattle.gen_scene.proofs.script_text.push_buses.Given as goal

abbrev pub invariant-loop-number : goal.invariant-loop-number
invariant-loop-number l = string_bytes l.text ≡ string_bytes l.fn.text ++ rows l.number group_bus_lines

abbrev pub invariant-loop-number-2 : goal.invariant-loop-number-2
invariant-loop-number-2 l =
    (string_bytes l.text ≡ string_bytes l.initial.text ++ rows l.number (player_bus l.fn.draws))
    × (l.draws ≡ state l.fn.draws l.number)
