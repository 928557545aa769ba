use Rattle.std.proofs.Common.{◌≡◌, ◌++◌, string_bytes}
use Rattle.gen_scene.specs.Script.{rows, top_lines, resource_lines}
use Rattle.gen_scene.proofs.script_text.script.Given as goal

abbrev pub invariant-loop-number : goal.invariant-loop-number
invariant-loop-number l = string_bytes l.text ≡ top_lines ++ rows l.number (resource_lines l.prefix)
