use Rattle.std.proofs.Common.{◌≤◌, All, length}
use Rattle.clip_decode.specs.ClipData.{ClipData}
use Rattle.clip_decode.specs.Limits.{most_sound_bytes}
use Rattle.engine_tests.proofs.sounds.clips.Given as goal

abbrev pub invariant-loop-sound : goal.invariant-loop-sound
invariant-loop-sound l = All (λ (c : ClipData). length c.bytes ≤ most_sound_bytes) l.clips.items
