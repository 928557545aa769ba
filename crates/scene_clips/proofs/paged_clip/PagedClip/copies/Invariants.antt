use Rattle.std.proofs.Common.{◌≡◌, ◌<◌, ◌≤◌, ◌+◌, ◌-◌, ◌*◌, ◌/◌, ◌%◌, ℕ, pos, length}
use Rattle.std.specs.Prelude.{slice_index_or}
use Rattle.mix_fixed.specs.Sound.{Is24}
use Rattle.scene_clips.specs.ClipFrames.{clip_sample}
use Rattle.scene_clips.proofs.paged_clip.PagedClip.copies.Given as goal

abbrev pub invariant-loop-done : goal.invariant-loop-done
invariant-loop-done l = record {
  within : l.done ≤ l.count;
  room : length l.out ≡ l.count * l.self.channels;
  values : (j : ℕ) → j < l.done * l.self.channels → slice_index_or l.out j (pos 0)
      ≡ clip_sample l.self.bytes l.self.rate l.self.channels (l.from + j / l.self.channels) (j % l.self.channels);
  samples : (j : ℕ) → j < l.done * l.self.channels → Is24 (slice_index_or l.out j (pos 0));
}

abbrev pub decreases-loop-done : goal.decreases-loop-done
decreases-loop-done l = l.count - l.done
