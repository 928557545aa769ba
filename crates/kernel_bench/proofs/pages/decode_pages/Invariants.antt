use Rattle.std.proofs.Common.{◌≡◌}
use Rattle.clip_decode.specs.Cursors.{StandsAt}
use Rattle.kernel_bench.proofs.pages.decode_pages.Given as goal

abbrev pub invariant-loop : goal.invariant-loop
invariant-loop l = record {
  page : l.cursor.page ≡ l.counter;
  stands : StandsAt l.clip.bytes l.cursor;
  channels : l.page.channels ≡ l.clip.wave.channels;
}
