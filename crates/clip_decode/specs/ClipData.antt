-- A clip, as contracts see it.
use Rattle.std.specs.Prelude.{◌≡◌, ℕ, List, Ok}
use Rattle.wave_read.specs.Wave.{wave}
use Rattle.wave_read.specs.Laws.{IsWaveOf}
use Rattle.wave_read.specs.declared.wave.Wave.{Wave}

-- the bytes of a file, and what they say of their sound
pub record ClipData : Type 0 where
  pub bytes : List ℕ
  pub wave : Wave

-- what each clip keeps: its file says its wave
pub record IsClip (bytes : List ℕ) (w : Wave) : Type 0 where
  pub surveyed : wave bytes ≡ Ok w
  pub lawful : IsWaveOf bytes w
