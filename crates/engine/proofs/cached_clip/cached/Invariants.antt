use Rattle.std.proofs.Common.{◌≡◌, ◌≤◌, map, take}
use Rattle.engine.specs.Cached.{most_cached_frames}
use Rattle.engine.specs.TapeClips.{clip_of_tape}
use Rattle.engine.proofs.cached_clip.cached.Given as goal

abbrev pub invariant-loop-k : goal.invariant-loop-k
invariant-loop-k l = record {
  all_are : l.all.items ≡ map (clip_of_tape l.rate l.channels) (take l.k l.tapes);
  few : l.left ≤ most_cached_frames;
}
