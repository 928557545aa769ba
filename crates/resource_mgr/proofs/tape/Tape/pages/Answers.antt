use Rattle.std.proofs.Common.{◌≡◌, ap, arith}
use Rattle.clip_decode.proofs.Limits.{few_frames}
use Rattle.resource_mgr.proofs.tape.Tape.pages.Goals as goal

pub overflow_cast-result : goal.overflow_cast-result
overflow_cast-result c =
    let clip = c.clip.result.now in
    let same : c.wave.result.now.frames ≡ clip.wave.frames = ap (λ w. w.frames) c.wave.ensures.value in
    let short = rw (← c.clip.ensures.value) at c.clip.ensures.short in
    omega (arith, short, same, few_frames clip.bytes clip.wave c.wave.ensures.lawful.lies, c.pages.ensures)
