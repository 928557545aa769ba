use Rattle.std.proofs.Common.{refl, ◌∙◌}
use Rattle.gen_scene.proofs.Pieces.{first_draw_is, second_draw_is, third_draw_is}
use Rattle.gen_scene.proofs.script_text.edit.Goals as goal

pub returns-clause-value : goal.returns-clause-value
returns-clause-value c =
    let first = first_draw_is c.args.draws.now _ _ c.draw.ensures.state (c.from-first.ensures ∙ c.draw.ensures.value) in
    let second = second_draw_is c.args.draws.now _ _ _ c.draw.ensures.state c.draw-2.ensures.state (c.from-second.ensures ∙ c.draw-2.ensures.value) in
    let third = third_draw_is c.args.draws.now _ _ _ _ c.draw.ensures.state c.draw-2.ensures.state c.draw-3.ensures.state (c.from-third.ensures ∙ c.draw-3.ensures.value) in
    rw (c.edit_value.ensures, first, second, third) refl
