-- Containers: the one to four bytes in which a sample of linear PCM or of G.711 stands.
--
-- A frame is one container a channel, and one frame follows the other (Microsoft, "Multiple Channel Audio Data and WAVE
-- Files").
use Rattle.std.specs.Prelude.{ℕ, ◌+◌, ◌*◌, ◌/◌, List, take, drop}
use Rattle.wave_read.specs.declared.wave.Wave.{Wave}

-- the bytes of a container
abbrev pub container_size : Wave → ℕ
container_size w = w.align / w.channels

-- where the container of a channel in a frame begins
abbrev pub container_place : Wave → ℕ → ℕ → ℕ
container_place w frame channel = w.data_from + frame * w.align + channel * container_size w

unfoldable pub container_of : List ℕ → Wave → ℕ → ℕ → List ℕ
container_of bytes w frame channel = take (container_size w) (drop (container_place w frame channel) bytes)
