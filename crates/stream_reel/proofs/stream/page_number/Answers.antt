use Rattle.std.proofs.Common.{◌≡◌, ◌≤◌, length, ap, arith}
use Rattle.clip_decode.proofs.Limits.{few_frames}
use Rattle.stream_reel.proofs.stream.page_number.Goals as goal

pub overflow_cast-result : goal.overflow_cast-result
overflow_cast-result c =
    let clip = c.args.clip.now in
    let short : length clip.bytes ≤ 67108864 = c.requires in
    let same : c.wave.result.now.frames ≡ clip.wave.frames = ap (λ w. w.frames) c.wave.ensures.value in
    omega (arith, short, same, few_frames clip.bytes clip.wave c.wave.ensures.lawful.lies, c.pages.ensures)
