use Rattle.std.proofs.Common.{◌≡◌, length}
use Rattle.clip_decode.specs.Cursors.{StandsAt}
use Rattle.scene_clips.specs.FilePages.{AreThere}
use Rattle.scene_clips.proofs.scene_clip.decoded_pages.Given as goal

abbrev pub invariant-loop : goal.invariant-loop
invariant-loop l = record {
  page : l.cursor.page ≡ l.counter;
  stands : StandsAt l.clip.bytes l.cursor;
  count : length l.decoded.items ≡ l.counter;
  there : AreThere l.clip.bytes l.decoded.items l.counter;
}
