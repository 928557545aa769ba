use Rattle.std.proofs.Common.{◌≡◌, ◌++◌, string_bytes}
use Rattle.gen_scene.specs.Script.{rows, group_lines, player_lines}
use Rattle.gen_scene.proofs.script_text.push_nodes.Given as goal

abbrev pub invariant-loop-number : goal.invariant-loop-number
invariant-loop-number l = string_bytes l.text ≡ string_bytes l.fn.text ++ rows l.number group_lines

abbrev pub invariant-loop-number-2 : goal.invariant-loop-number-2
invariant-loop-number-2 l = string_bytes l.text ≡ string_bytes l.initial.text ++ rows l.number player_lines
