use Rattle.std.proofs.Common.{◌≡◌, ◌+◌, ◌*◌, ◌≤◌, length, ap, arith}
use Rattle.std.proofs.lemmas.Nat.{mul-le}
use Rattle.engine.proofs.kept_frames.KeptFrames.copy.Goals as goal

pub slice_bounds-copy_from_slice-end : goal.slice_bounds-copy_from_slice-end
slice_bounds-copy_from_slice-end c =
    let wide : (c.args.from + c.args.count) * c.args.channels ≡ c.args.from * c.args.channels + c.args.count * c.args.channels = omega arith in
    let most : (c.args.from + c.args.count) * c.args.channels ≤ c.args.self.now.frames * c.args.channels = mul-le (c.args.from + c.args.count) c.args.channels c.args.self.now.frames c.args.channels c.requires.kept (omega arith) in
    let long = ap length c.as_slice.ensures.value in
    omega (arith, wide, most, c.requires.long, long)
