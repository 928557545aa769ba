use Rattle.std.proofs.Common.{◌≡◌, arith, ◌∙◌}
use Rattle.gen_scene.specs.Script.{resource_lines, top_lines, script_from}
use Rattle.gen_scene.proofs.Pieces.{text_more, text_start, all_pieces}
use Rattle.gen_scene.proofs.script_text.script.Goals as goal

pub loop-number-init : goal.loop-number-init
unfolding top_lines
loop-number-init c = c.in_ok-text.ensures.ok ∙ text_start (resource_lines c.args.prefix.now) top_lines

pub loop-number-preserved : goal.loop-number-preserved
loop-number-preserved c = text_more (resource_lines c.args.prefix.now) top_lines _ _ c.loop-number.number c.loop-number.invariant c.in_ok-write.ensures.bytes

pub returns : goal.returns
unfolding script_from
returns c =
    let i : c.loop-number.number ≡ 8 = omega arith in
    all_pieces top_lines _ _ _ _ _ _ _ _ _ _ (rw i at c.loop-number.invariant) c.in_ok-push_nodes.ensures c.in_ok-push_buses.ensures.text
    (rw c.in_ok-push_buses.ensures.draws at c.in_ok-push_edits.ensures)
