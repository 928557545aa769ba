use Rattle.std.proofs.Common.{◌≡◌, None}
use Rattle.std.specs.Option.{option_map}
use Rattle.gen_scene.specs.Draws.{state}
use Rattle.gen_scene.specs.Sounds.{first_draw}
use Rattle.snd_tools.specs.Meets.{put_all}
use Rattle.snd_tools.specs.Outcome.{sound_outputs}
use Rattle.snd_tools.proofs.generating.write_sounds.Given as goal

abbrev pub invariant-loop-i : goal.invariant-loop-i
invariant-loop-i g l =
    (g.D.Depot.writing l.depot ≡ None)
    × (g.D.Depot.faults l.depot ≡ g.D.Depot.faults l.fn.depot)
    × (l.draws ≡ state l.fn.draws (first_draw l.i))
    × (g.D.Depot.files l.depot ≡ option_map (put_all (sound_outputs l.fn.draws l.fn.prefix l.i)) (g.D.Depot.files l.fn.depot))
