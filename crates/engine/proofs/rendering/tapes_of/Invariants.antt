use Rattle.std.proofs.Common.{◌≡◌, ◌≤◌, All, map, length}
use Rattle.std.specs.Vec.Iter.{into_iter_items}
use Rattle.clip_decode.specs.ClipData.{ClipData}
use Rattle.clip_decode.specs.Limits.{most_sound_bytes}
use Rattle.resource_mgr.specs.Tapes.{AreShown, clip_of}
use Rattle.engine.proofs.rendering.tapes_of.Given as goal

abbrev pub invariant-loop-clip : goal.invariant-loop-clip
invariant-loop-clip l = record {
  short : All (λ (c : ClipData). length c.bytes ≤ most_sound_bytes) (into_iter_items l.clip-iterator);
  made : map clip_of l.tapes.items ≡ l.yielded;
  shown : AreShown l.tapes.items;
}
