use Rattle.std.proofs.Common.{rules, ◌*◌, ◌<◌, ◌^◌, length, arith}
use Rattle.clip_decode.specs.Pages.{frames_per_page}
use Rattle.clip_decode.proofs.Limits.{few_frames}
use Rattle.clip_decode.proofs.cursor.Cursor.at.Goals as goal

pub overflow_mul-frame : goal.overflow_mul-frame
overflow_mul-frame c =
    let bytes = c.args.clip.now.bytes in
    let w = c.args.clip.now.wave in
    let inside : frames_per_page * c.args.number < w.frames = grind (arith, c.requires.below) in
    let shown : length c.bytes-bytes.result.now < 2 ^ 63 = search rules in
    let small : length bytes < 2 ^ 63 = rw c.bytes-bytes.ensures at shown in
    omega (arith, inside, small, few_frames bytes w c.wave-wave.ensures.lawful.lies)
