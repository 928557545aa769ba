use Rattle.std.proofs.Common.{arith}
use Rattle.clip_decode.specs.Ima.{frames_per_block}
use Rattle.clip_decode.proofs.ImaBlocks.{layout_of, some_frames, block_start}
use Rattle.clip_decode.proofs.ima.ready_at.Goals as goal

pub loop-at-init : goal.loop-at-init
loop-at-init c =
    let w = c.args.wave.now in
    let some = some_frames w (layout_of c.args.bytes.now w c.requires.lawful.lies c.requires.kind).header in
    rw c.block_frames-per_block.ensures (record {
      most = omega arith;
      ready = record { inside = λ more. absurd (omega (arith, more, block_start (frames_per_block w) c.args.frame some)) };
    })
