-- The decoders are ready at a frame that isn't past the one that is wanted.
use Rattle.std.proofs.Common.{◌-◌, ◌≤◌}
use Rattle.clip_decode.specs.Cursors.{ReadyAt}
use Rattle.clip_decode.proofs.ima.ready_at.Given as goal

abbrev pub invariant-loop-at : goal.invariant-loop-at
invariant-loop-at l = record {
  most : l.at ≤ l.frame;
  ready : ReadyAt l.bytes l.wave l.at l.decoders;
}

abbrev pub decreases-loop-at : goal.decreases-loop-at
decreases-loop-at l = l.frame - l.at
