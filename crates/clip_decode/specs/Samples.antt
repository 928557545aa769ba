-- A sample of a sound by the numbers of its frame and its channel, as a number of 24 bits. Each kind of sound has its
-- definition in a module of its own.
use Rattle.std.specs.Prelude.{ℕ, ℤ, List}
use Rattle.wave_read.specs.declared.kind.Kind.{Kind}
use Rattle.wave_read.specs.declared.kind.Kind.TheVariants.{Pcm, Alaw, Ulaw, Ima}
use Rattle.wave_read.specs.declared.wave.Wave.{Wave}
use Rattle.clip_decode.specs.Pcm.{pcm_sample}
use Rattle.clip_decode.specs.G711.{alaw_sample, ulaw_sample}
use Rattle.clip_decode.specs.Ima.{ima_sample}

abbrev pub kind_sample : Kind → List ℕ → Wave → ℕ → ℕ → ℤ
kind_sample Pcm bytes w frame channel = pcm_sample bytes w frame channel
kind_sample Alaw bytes w frame channel = alaw_sample bytes w frame channel
kind_sample Ulaw bytes w frame channel = ulaw_sample bytes w frame channel
kind_sample Ima bytes w frame channel = ima_sample bytes w frame channel

unfoldable pub sample_of : List ℕ → Wave → ℕ → ℕ → ℤ
sample_of bytes w frame channel = kind_sample w.kind bytes w frame channel
