use Rattle.std.proofs.Common.{string_bytes, ◌∙◌, ap, sym}
use Rattle.gen_scene.specs.Draws.{stepped}
use Rattle.gen_scene.proofs.DrawLemmas.{state-start, state-step}
use Rattle.gen_scene.specs.Script.{group_bus_lines, player_bus}
use Rattle.gen_scene.proofs.Pieces.{text_more, text_start}
use Rattle.gen_scene.proofs.script_text.push_buses.Goals as goal

pub loop-number-preserved : goal.loop-number-preserved
loop-number-preserved c = text_more group_bus_lines (string_bytes c.args.text.now) _ _ c.loop-number.number c.loop-number.invariant c.in_ok-write.ensures.bytes

pub loop-number-2-init : goal.loop-number-2-init
loop-number-2-init c = (text_start (player_bus c.args.draws.now) (string_bytes c.loop-number.text), sym (state-start c.args.draws.now))

pub loop-number-2-preserved : goal.loop-number-2-preserved
loop-number-2-preserved c =
    let next = c.draw.ensures.state ∙ ap stepped c.loop-number-2.invariant.1 in (
      text_more (player_bus c.args.draws.now) (string_bytes c.loop-number.text) _ _ c.loop-number-2.number c.loop-number-2.invariant.0
          (rw (c.from-gain.ensures ∙ c.draw.ensures.value, next) at c.in_ok-write-2.ensures.bytes),
      next ∙ sym (state-step c.args.draws.now c.loop-number-2.number),
    )

pub loop-number-init : goal.loop-number-init
loop-number-init c = text_start group_bus_lines (string_bytes c.args.text.now)
