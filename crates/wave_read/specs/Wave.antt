-- What a WAVE file says of its sound, or why it is refused.
use Rattle.std.specs.Prelude.{ℕ, ◌+◌, Bool, ◌==◌, ◌&&◌, ◌||◌, not, nat_le, if◌then◌else◌, List, length, codes, Option, Some, None, Result, Ok, Err}
use Rattle.std.specs.List.{find}
use Rattle.std.specs.Option.{option_map}
use Rattle.std.specs.Result.{result_unwrap_or}
use Rattle.byteorder.specs.Endian.{little_number}
use Rattle.wave_read.specs.Numbers.{u32_at, u64_at}
use Rattle.wave_read.specs.Chunks.{Chunk, ChunksFrom, chunk_list, end_of, first_chunk, header_len, fmt_id, data_id, fact_id}
use Rattle.wave_read.specs.Format.{format_of, ◌>>=◌}
use Rattle.wave_read.specs.Frames.{frame_count}
use Rattle.wave_read.specs.StepIndices.{step_fault}
use Rattle.wave_read.specs.declared.format.Format.{Format}
use Rattle.wave_read.specs.declared.found.Span.{Span}
use Rattle.wave_read.specs.declared.kind.Kind.{Kind}
use Rattle.wave_read.specs.declared.kind.Kind.TheVariants.{Pcm, Alaw, Ulaw, Ima}
use Rattle.wave_read.specs.declared.wave.Wave.{Wave}
use Rattle.wave_read.specs.declared.wave_fault.WaveFault.{WaveFault}
use Rattle.wave_read.specs.declared.wave_fault.WaveFault.TheVariants.{NotRiff, NotWave, Ds64Missing, ChunkPastEnd, NoFmt, NoData}

-- ---- the beginning of a file

abbrev pub riff_id : ℕ
riff_id = little_number 4 (codes "RIFF")

abbrev pub rf64_id : ℕ
rf64_id = little_number 4 (codes "RF64")

abbrev pub wave_id : ℕ
wave_id = little_number 4 (codes "WAVE")

abbrev pub ds64_id : ℕ
ds64_id = little_number 4 (codes "ds64")

-- An RF64 file begins with a `ds64` chunk: riffSize, dataSize and sampleCount of eight bytes each and a table's length
-- of four (EBU Tech 3306). It lies whole in the file, and only dataSize is used. This is lenient, and this project's
-- choice.
abbrev pub has_ds64 : List ℕ → Bool
has_ds64 bytes =
    (u32_at bytes first_chunk == ds64_id) && nat_le 28 (u32_at bytes (first_chunk + 4))
    && nat_le (first_chunk + header_len + u32_at bytes (first_chunk + 4)) (length bytes)

-- `RIFF` or `RF64`
abbrev pub is_riff : List ℕ → Bool
is_riff bytes = nat_le 4 (length bytes) && ((u32_at bytes 0 == riff_id) || (u32_at bytes 0 == rf64_id))

-- `WAVE`, after a size that is not looked at
abbrev pub has_wave_form : List ℕ → Bool
has_wave_form bytes = nat_le first_chunk (length bytes) && (u32_at bytes 8 == wave_id)

-- the dataSize of an RF64 file, and None of a RIFF file; or the fault of a file that doesn't begin as a WAVE file
unfoldable pub opening : List ℕ → Result (Option ℕ) WaveFault
opening bytes =
    if not (is_riff bytes) then Err NotRiff else
    if not (has_wave_form bytes) then Err NotWave else
    if u32_at bytes 0 == riff_id then Ok None else
    if not (has_ds64 bytes) then Err Ds64Missing else
    Ok (Some (u64_at bytes (first_chunk + header_len + 8)))

-- ---- the chunks

-- these are the chunks of the file
abbrev pub Chunks : List ℕ → List Chunk → Type 0
Chunks bytes chunks = ChunksFrom (result_unwrap_or (opening bytes) None) bytes first_chunk chunks

abbrev pub chunks_of : List ℕ → List Chunk
chunks_of bytes = chunk_list (length bytes) (result_unwrap_or (opening bytes) None) bytes first_chunk

abbrev pub is_fmt : Chunk → Bool
is_fmt c = c.id == fmt_id

abbrev pub is_data : Chunk → Bool
is_data c = c.id == data_id

-- a `fact` chunk with a count of frames
abbrev pub is_fact : Chunk → Bool
is_fact c = (c.id == fact_id) && nat_le 4 (length c.body)

-- where the body of a chunk stands in the file, as far as the file has it
abbrev pub span_of : Chunk → Span
span_of c = record { from = c.place + header_len; len = length c.body }

-- what the first `fmt `, the first `data` and the first `fact` with a count say
abbrev pub format_in : List Chunk → Option (Result Format WaveFault)
format_in chunks = option_map (λ c. format_of c.body) (find is_fmt chunks)

abbrev pub span_in : List Chunk → Option Span
span_in chunks = option_map span_of (find is_data chunks)

abbrev pub count_in : List Chunk → Option ℕ
count_in chunks = option_map (λ c. u32_at c.body 0) (find is_fact chunks)

-- ---- the answer

abbrev pub wave_from : Format → Span → Option ℕ → Wave
wave_from f span count = record {
  kind = f.kind;
  channels = f.channels;
  rate = f.rate;
  width = f.width;
  align = f.align;
  data_from = span.from;
  data_len = span.len;
  frames = frame_count f span.len count;
}

abbrev pub unless_fault : Option WaveFault → Wave → Result Wave WaveFault
unless_fault None w = Ok w
unless_fault (Some fault) w = Err fault

-- only IMA blocks have step indices
abbrev pub kind_checked : Kind → List ℕ → Wave → Result Wave WaveFault
kind_checked Pcm bytes w = Ok w
kind_checked Alaw bytes w = Ok w
kind_checked Ulaw bytes w = Ok w
kind_checked Ima bytes w = unless_fault (step_fault bytes w) w

abbrev pub checked : List ℕ → Wave → Result Wave WaveFault
checked bytes w = kind_checked w.kind bytes w

-- What was found in the whole list, and where the list ended, decide. A chunk that passes the end is a fault only where
-- `fmt ` or `data` is missing, which is this project's choice.
abbrev pub conclude : List ℕ → ℕ → Option (Result Format WaveFault) → Option Span → Option ℕ → Result Wave WaveFault
conclude bytes end (Some (Err fault)) span count = Err fault
conclude bytes end (Some (Ok f)) (Some span) count = checked bytes (wave_from f span count)
conclude bytes end (Some (Ok f)) None count =
    if nat_le (end + header_len) (length bytes) then Err (ChunkPastEnd end) else Err NoData
conclude bytes end None span count =
    if nat_le (end + header_len) (length bytes) then Err (ChunkPastEnd end) else Err NoFmt

-- what a list of chunks says
unfoldable pub told_by : List ℕ → List Chunk → Result Wave WaveFault
told_by bytes chunks = conclude bytes (end_of first_chunk chunks) (format_in chunks) (span_in chunks) (count_in chunks)

-- what a file of these chunks says
unfoldable pub wave_of : List ℕ → List Chunk → Result Wave WaveFault
wave_of bytes chunks = do
  data_size ← opening bytes
  told_by bytes chunks

-- What a file says: the first fault of `NotRiff`, `NotWave`, `Ds64Missing`, that of its first `fmt `, `ChunkPastEnd`,
-- `NoFmt`, `NoData` and `StepIndex`, or the wave.
unfoldable pub wave : List ℕ → Result Wave WaveFault
wave bytes = wave_of bytes (chunks_of bytes)
