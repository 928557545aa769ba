-- The first k pages are walked, and the cursor stands at the next one.
use Rattle.std.proofs.Common.{◌≡◌}
use Rattle.clip_decode.specs.Cursors.{StandsAt}
use Rattle.stream_reel_tests.proofs.clips.walked.Given as goal

abbrev pub invariant-loop-k : goal.invariant-loop-k
invariant-loop-k l = record {
  page : l.cursor.page ≡ l.k;
  stands : StandsAt l.clip.bytes l.cursor;
}
