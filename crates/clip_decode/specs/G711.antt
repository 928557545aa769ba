-- Samples of A-law and mu-law (ITU-T G.711), as numbers of 24 bits. A container is one byte, the code of its sample.
use Rattle.std.specs.Prelude.{ℕ, ℤ, List, slice_index}
use Rattle.g711.specs.ALaw.{alaw}
use Rattle.g711.specs.MuLaw.{ulaw}
use Rattle.wave_read.specs.declared.wave.Wave.{Wave}
use Rattle.clip_decode.specs.Containers.{container_of}
use Rattle.clip_decode.specs.Widened.{widened}

abbrev pub alaw_value : List ℕ → ℤ
alaw_value container = widened (alaw (slice_index container 0))

abbrev pub ulaw_value : List ℕ → ℤ
ulaw_value container = widened (ulaw (slice_index container 0))

-- the sample of a channel in a frame
unfoldable pub alaw_sample : List ℕ → Wave → ℕ → ℕ → ℤ
alaw_sample bytes w frame channel = alaw_value (container_of bytes w frame channel)

unfoldable pub ulaw_sample : List ℕ → Wave → ℕ → ℕ → ℤ
ulaw_sample bytes w frame channel = ulaw_value (container_of bytes w frame channel)
