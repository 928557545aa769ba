use Rattle.std.proofs.Common.{◌≡◌, ◌≤◌, All, length}
use Rattle.clip_decode.specs.Limits.{most_sound_bytes}
use Rattle.worker_tests.proofs.sounds.clips.Given as goal

abbrev pub invariant-loop-number : goal.invariant-loop-number
invariant-loop-number g l = (length l.clips.items ≡ l.number) × All (λ clip. length clip.bytes ≤ most_sound_bytes) l.clips.items
