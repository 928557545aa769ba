-- Past the end of the file stands a frame of 0.
use Rattle.std.proofs.Common.{◌≤◌, sym}
use Rattle.fx_render.proofs.Frames.{silent_frame}
use Rattle.fx_render.proofs.stereo_reader.StereoReader.frame.Goals as goal

pub returns-else-from-wave-clause-frame : goal.returns-else-from-wave-clause-frame
returns-else-from-wave-clause-frame c =
    let past : c.args.self.now.clip.wave.frames ≤ c.args.self.now.next = rw (c.from.ensures, c.wave.ensures.value) at c.if-from-wave.false in
    sym (silent_frame c.args.self.now.clip.bytes c.args.self.now.clip.wave c.args.self.now.next c.wave.ensures.surveyed past)
