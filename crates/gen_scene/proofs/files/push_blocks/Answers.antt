use Rattle.std.proofs.Common.{◌≡◌, ◌∙◌, ◌++◌, ap, length}
use Rattle.wave_write.specs.Samples.{packed}
use Rattle.gen_scene.specs.Sounds.{noise}
use Rattle.gen_scene.proofs.Blocks.{pushed-none, pushed-more, state-none, state-more}
use Rattle.gen_scene.proofs.files.push_blocks.Goals as goal

pub loop-block-init : goal.loop-block-init
loop-block-init c = (
  state-none c.args.draws.now (length c.args.room.now),
  pushed-none c.args.draws.now (length c.args.room.now) c.args.bytes.now.items,
)

pub loop-block-preserved : goal.loop-block-preserved
loop-block-preserved c =
    let room : length c.loop-block.room ≡ length c.args.room.now = c.loop-block.auto.room in
    let samples = c.noise.ensures.value ∙ ap (noise c.loop-block.draws 0) room in (
      state-more c.args.draws.now c.loop-block.draws (length c.args.room.now) c.loop-block._block c.loop-block.invariant.0 c.noise.new.draws
          (rw room at c.noise.ensures.draws),
      pushed-more c.args.draws.now c.loop-block.draws (length c.args.room.now) c.loop-block._block c.loop-block.invariant.0
          c.args.bytes.now.items c.loop-block.bytes.items c.pack.new.out.items c.loop-block.invariant.1
          (c.in_ok-pack.ensures.ok ∙ ap (λ xs. c.loop-block.bytes.items ++ packed 16 xs) samples),
    )
