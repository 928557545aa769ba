-- What is said to a person of a sound file that is refused.
use Rattle.std.specs.Prelude.{ℕ, ◌||◌, ◌==◌, nat_eq, if◌then◌else◌, codes, List, [], ◌∷◌, ◌++◌, length}
use Rattle.std.specs.List.{starts_with}
use Rattle.wave_read.specs.declared.wave_fault.WaveFault.{WaveFault}
use Rattle.wave_read.specs.declared.wave_fault.WaveFault.TheVariants.{NotRiff, NotWave, Ds64Missing, ChunkPastEnd, NoFmt, FmtShort, Unsupported, Channels, Rate, Width, ImaAlign, StepIndex, NoData}
use Rattle.wave_read.specs.FaultText.{fault_text}

-- what the first bytes of a file say of it, if it isn't a RIFF file
unfoldable pub content_text : List ℕ → List ℕ
content_text bytes =
    if length bytes == 0 then codes "an empty file"
    else (if starts_with nat_eq bytes (codes "fLaC") then codes "a FLAC file"
    else (if starts_with nat_eq bytes (codes "OggS") then codes "an Ogg file"
    else (if starts_with nat_eq bytes (codes "FORM") then codes "an AIFF file"
    else (if starts_with nat_eq bytes (codes "ID3") then codes "an MP3 file"
    else (if starts_with nat_eq bytes (255 ∷ 251 ∷ []) then codes "an MP3 file" else codes "no RIFF file")))))

-- what a file is that is refused
unfoldable pub file_what : WaveFault → List ℕ → List ℕ
file_what NotRiff bytes = content_text bytes
file_what NotWave bytes = codes "a RIFF file, but no WAVE file"
file_what Ds64Missing bytes = codes "an RF64 file without its sizes"
file_what (ChunkPastEnd at) bytes = codes "a WAVE file that was cut short"
file_what NoFmt bytes = codes "a WAVE file without a format"
file_what (FmtShort len) bytes = codes "a WAVE file with half a format"
file_what (Unsupported tag) bytes = if tag == 3 then codes "a WAVE file of IEEE floats" else codes "a WAVE file of another format"
file_what (Channels n) bytes = codes "a WAVE file of no channel or more than 8"
file_what (Rate n) bytes = codes "a WAVE file of no rate or more than 768000 Hz"
file_what (Width bits align) bytes = codes "a WAVE file with samples of another width"
file_what (ImaAlign align) bytes = codes "a WAVE file of IMA ADPCM with blocks of another size"
file_what (StepIndex block channel found) bytes = codes "a WAVE file of IMA ADPCM with a spoilt block"
file_what NoData bytes = codes "a WAVE file without data"

-- What is said of a sound file that is refused: its name, what it is, and a command that makes one that is read.
unfoldable pub file_text : List ℕ → WaveFault → List ℕ → List ℕ
file_text name fault bytes =
    name ++ codes ": this is " ++ file_what fault bytes ++ codes " (" ++ fault_text fault
    ++ codes ")\nffmpeg -i " ++ name ++ codes " -c:a pcm_s24le OUT.wav makes a file that is read, where it knows this one\n"
