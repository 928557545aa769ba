use Rattle.std.proofs.Common.{◌≡◌, ◌≤◌, All, length, map}
use Rattle.std.specs.Vec.Iter.{into_iter_items}
use Rattle.clip_decode.specs.ClipData.{ClipData}
use Rattle.clip_decode.specs.Limits.{most_sound_bytes}
use Rattle.resource_mgr.specs.PageOrder.{IsDrawnTo, pages_of_source, pages_of_tape}
use Rattle.resource_mgr.specs.Tapes.{clip_of}
use Rattle.resource_mgr.proofs.reels.open_sources.Given as goal

abbrev pub invariant-loop-clip : goal.invariant-loop-clip
invariant-loop-clip l = record {
  short : All (λ (c : ClipData). length c.bytes ≤ most_sound_bytes) (into_iter_items l.clip-iterator);
  made : map clip_of l.tapes.items ≡ l.yielded;
  pages : map pages_of_source l.sources.items ≡ map pages_of_tape l.tapes.items;
  drawn : All (IsDrawnTo 0) l.sources.items;
}
