use Rattle.std.proofs.Common.{◌≡◌, ◌*◌, ◌++◌, length}
use Rattle.gen_scene.specs.Draws.{state}
use Rattle.gen_scene.specs.Sounds.{noise_bytes}
use Rattle.gen_scene.proofs.files.push_blocks.Given as goal

abbrev pub invariant-loop-block : goal.invariant-loop-block
invariant-loop-block l =
    (l.draws ≡ state l.fn.draws (length l.fn.room * l._block))
    × (l.bytes.items ≡ l.fn.bytes.items ++ noise_bytes l.fn.draws (length l.fn.room * l._block))
