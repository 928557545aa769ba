use Rattle.std.proofs.Common.{◌≡◌, ◌++◌, ◌*◌, string_bytes}
use Rattle.gen_scene.specs.Draws.{state}
use Rattle.gen_scene.specs.Script.{rows, edit_row}
use Rattle.gen_scene.proofs.script_text.push_edits.Given as goal

abbrev pub invariant-loop-number : goal.invariant-loop-number
invariant-loop-number l =
    (string_bytes l.text ≡ string_bytes l.fn.text ++ rows l.number (edit_row l.fn.draws))
    × (l.draws ≡ state l.fn.draws (3 * l.number))
