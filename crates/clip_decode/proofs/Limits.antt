-- A frame takes at least half a byte.
use Rattle.std.proofs.Common.{ℕ, ◌*◌, ◌<◌, ◌≤◌, List, length, arith}
use Rattle.std.proofs.lemmas.Nat.{mul-le}
use Rattle.wave_read.specs.Laws.{IsLayout, HoldsFrames, IsWaveIn}
use Rattle.wave_read.specs.declared.kind.Kind.{Kind}
use Rattle.wave_read.specs.declared.kind.Kind.TheVariants.{Pcm, Alaw, Ulaw, Ima}
use Rattle.wave_read.specs.declared.wave.Wave.{Wave}
use Rattle.wave_read.proofs.ImaBlocks.{held_fits}

whole : (w : Wave) → 0 < w.align → w.frames * w.align ≤ w.data_len → w.frames ≤ 2 * w.data_len
whole w some fit = omega (arith, mul-le w.frames 1 w.frames w.align (omega arith) (omega arith))

by_kind : (kind : Kind) (w : Wave) → 1 ≤ w.channels → 0 < w.align → IsLayout kind w.channels w.width w.align → HoldsFrames kind w
    → w.frames ≤ 2 * w.data_len
by_kind Pcm w channels some layout held = whole w some held.fit
by_kind Alaw w channels some layout held = whole w some held.fit
by_kind Ulaw w channels some layout held = whole w some held.fit
by_kind Ima w channels some layout held = omega (arith, held.held, held_fits w.align w.channels w.data_len channels layout.header)

pub few_frames : (bytes : List ℕ) (w : Wave) → IsWaveIn bytes w → w.frames ≤ 2 * length bytes
few_frames bytes w lies = omega (arith, by_kind w.kind w lies.channels_least lies.positive lies.layout lies.frames, lies.inside)
