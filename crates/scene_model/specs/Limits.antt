-- The numbers of the scene's form, and no other.
use Rattle.std.specs.Prelude.{ℕ}
use Rattle.mix_fixed.specs.Sound as sound

-- the one version of the form
abbrev pub version : ℕ
version = 1

-- Hz
abbrev pub most_rate : ℕ
most_rate = 768000

abbrev pub most_channels : ℕ
most_channels = 2

-- frames: of a scene's length, and of each time in it
abbrev pub most_frames : ℕ
most_frames = 16777216

abbrev pub most_resources : ℕ
most_resources = 64

-- without the endpoint
abbrev pub most_nodes : ℕ
most_nodes = 128

-- of all nodes together
abbrev pub most_buses : ℕ
most_buses = 256

abbrev pub least_splitter_outputs : ℕ
least_splitter_outputs = 2

abbrev pub most_splitter_outputs : ℕ
most_splitter_outputs = 4

abbrev pub most_bus_rows : ℕ
most_bus_rows = 256

abbrev pub most_edits : ℕ
most_edits = 4096

-- editors are numbered from 0
abbrev pub last_editor : ℕ
last_editor = 3

-- the last frame that a seek can name, at the scene's rate
abbrev pub last_place : ℕ
last_place = 140737488355327

abbrev pub most_name_bytes : ℕ
most_name_bytes = 64

abbrev pub most_file_name_bytes : ℕ
most_file_name_bytes = 255

-- the most seeks of a node: with a place, their number fits a word of 64 bits
abbrev pub most_seeks : ℕ
most_seeks = 131071

-- 16.0, in 1/65536
abbrev pub most_gain : ℕ
most_gain = sound.largest_gain

-- 1.0, in 1/65536
abbrev pub unity_gain : ℕ
unity_gain = sound.unity_gain
