use Rattle.gen_scene.specs.Draws.{state}
use Rattle.gen_scene.specs.Script.{script_from, script_name}
use Rattle.gen_scene.specs.Sounds.{sounds, first_draw}
use Rattle.snd_io.specs.Answers.{put_of}
use Rattle.snd_tools.proofs.Sets.{in-part-stopped, one-output, passed-in-part, set-then, stopped-in-part}
use Rattle.snd_tools.specs.Outcome.{sound_outputs, script_outputs}
use Rattle.snd_tools.proofs.generating.write_files.Goals as goal

pub returns-in_err-write_sounds-clause-after : goal.returns-in_err-write_sounds-clause-after
returns-in_err-write_sounds-clause-after g c =
    let fault = c.in_err-write_sounds.field-0.0 in
    passed-in-part c.from_residual.result fault _ _ _ c.from_residual.ensures.1
    (in-part-stopped (sound_outputs c.args.number c.args.prefix.now sounds) (script_outputs (state c.args.number (first_draw sounds)) c.args.prefix.now) _ (g.D.Depot.files c.args.depot.now) _
    (stopped-in-part fault _ _ _ (rw c.new-draws.ensures at c.in_err-write_sounds.ensures.after)))

pub returns-clause-after : goal.returns-clause-after
returns-clause-after g c =
    let prefix = c.args.prefix.now in
    let start = c.in_ok-write_sounds.ensures.draws in
    set-then (sound_outputs c.args.number prefix sounds) (script_outputs (state c.args.number (first_draw sounds)) prefix) _ _ _ (put_of c.write_script.result)
    (rw c.new-draws.ensures at c.in_ok-write_sounds.ensures.after)
    (one-output (script_name prefix) (script_from (state c.args.number (first_draw sounds)) prefix) (put_of c.write_script.result) _ _
    (rw (start, c.new-draws.ensures) at c.write_script.ensures.after))
