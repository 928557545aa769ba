-- The frames before `frame` are decoded, and the decoders are ready there.
use Rattle.std.proofs.Common.{◌+◌, ◌-◌, ◌≤◌}
use Rattle.clip_decode.specs.Cells.{Written}
use Rattle.clip_decode.specs.Cursors.{ReadyAt}
use Rattle.clip_decode.specs.Ima.{ima_sample}
use Rattle.clip_decode.proofs.ima.ima_into.Given as goal

abbrev pub invariant-loop-frame : goal.invariant-loop-frame
invariant-loop-frame l = record {
  least : l.frames.start ≤ l.frame;
  most : l.frame ≤ l.frames.end;
  ready : ReadyAt l.bytes l.wave l.frame l.decoders;
  written : Written l.wave.channels (l.frame - l.frames.start)
      (λ f c. ima_sample l.bytes l.wave (l.frames.start + f) c) l.out;
}

abbrev pub decreases-loop-frame : goal.decreases-loop-frame
decreases-loop-frame l = l.frames.end - l.frame
