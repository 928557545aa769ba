use Rattle.std.proofs.Common.{◌≡◌, string_bytes, arith}
use Rattle.gen_scene.specs.Script.{group_lines, player_lines}
use Rattle.gen_scene.proofs.Pieces.{text_more, text_start, text_joined}
use Rattle.gen_scene.proofs.script_text.push_nodes.Goals as goal

pub loop-number-preserved : goal.loop-number-preserved
loop-number-preserved c = text_more group_lines (string_bytes c.args.text.now) _ _ c.loop-number.number c.loop-number.invariant c.in_ok-write.ensures.bytes

pub loop-number-2-preserved : goal.loop-number-2-preserved
loop-number-2-preserved c = text_more player_lines (string_bytes c.loop-number.text) _ _ c.loop-number-2.number c.loop-number-2.invariant c.in_ok-write-2.ensures.bytes

pub returns : goal.returns
returns c =
    let j : c.loop-number.number ≡ 4 = omega arith in
    let k : c.loop-number-2.number ≡ 32 = omega arith in
    text_joined _ _ _ _ _ (rw j at c.loop-number.invariant) (rw k at c.loop-number-2.invariant)

pub loop-number-init : goal.loop-number-init
loop-number-init c = text_start group_lines (string_bytes c.args.text.now)

pub loop-number-2-init : goal.loop-number-2-init
loop-number-2-init c = text_start player_lines (string_bytes c.loop-number.text)
