-- The limits of a sound file.
use Rattle.std.specs.Prelude.{ℕ}

-- 64 MiB
abbrev pub most_sound_bytes : ℕ
most_sound_bytes = 67108864
