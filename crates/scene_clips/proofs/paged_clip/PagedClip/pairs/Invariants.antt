use Rattle.std.proofs.Common.{◌≡◌, ◌<◌, ◌+◌, ◌*◌, ◌/◌, ◌%◌, ℕ, pos}
use Rattle.std.specs.Prelude.{slice_index_or}
use Rattle.mix_fixed.specs.Sound.{Is24}
use Rattle.scene_clips.specs.ClipFrames.{clip_sample}
use Rattle.scene_clips.specs.Walked.{IsWalkOf}
use Rattle.scene_clips.proofs.paged_clip.PagedClip.pairs.Given as goal

abbrev pub invariant-loop-k : goal.invariant-loop-k
invariant-loop-k l = record {
  walk : IsWalkOf l.self (l.from + l.k) l.walker;
  values : (j : ℕ) → j < 2 * l.k → slice_index_or l.out j (pos 0) ≡ clip_sample l.self.bytes l.self.rate l.self.channels (l.from + j / 2) (j % 2);
  samples : (j : ℕ) → j < 2 * l.k → Is24 (slice_index_or l.out j (pos 0));
}
