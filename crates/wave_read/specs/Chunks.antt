-- The chunks of a file, as a list.
--
-- A chunk is an id of four letters, a size of four bytes, that many bytes, and one pad byte where the size is odd
-- (Microsoft and IBM, "Multimedia Programming Interface and Data Specifications 1.0", "Resource Interchange File
-- Format"). In an RF64 file a `data` size of 2^32 - 1 stands for the dataSize of the `ds64` chunk (EBU Tech 3306).
use Rattle.std.specs.Prelude.{◌≡◌, ◌≢◌, ℕ, zero, suc, ◌+◌, ◌%◌, ◌<◌, ◌≤◌, ◌==◌, ◌&&◌, nat_le, if◌then◌else◌, List, [], ◌∷◌, length, take, drop, codes, Option, Some, None}
use Rattle.byteorder.specs.Endian.{little_number}
use Rattle.wave_read.specs.Numbers.{u32_at}

-- ids, as the little-endian numbers of their four letters
abbrev pub fmt_id : ℕ
fmt_id = little_number 4 (codes "fmt ")

abbrev pub data_id : ℕ
data_id = little_number 4 (codes "data")

abbrev pub fact_id : ℕ
fact_id = little_number 4 (codes "fact")

-- the bytes of an id and a size
abbrev pub header_len : ℕ
header_len = 8

-- the chunks stand after `RIFF` or `RF64`, a size that is not looked at, and `WAVE`
abbrev pub first_chunk : ℕ
first_chunk = 12

abbrev pub size_in_ds64 : ℕ
size_in_ds64 = 0xffff_ffff

-- a chunk: where it stands, its id, its size, and as many bytes of its body as the file has
pub record Chunk : Type 0 where
  pub place : ℕ
  pub id : ℕ
  pub size : ℕ
  pub body : List ℕ

-- the size of a chunk, from its id and the size that stands after it. An RF64 file has a dataSize
abbrev pub chunk_size : Option ℕ → ℕ → ℕ → ℕ
chunk_size None id stated = stated
chunk_size (Some data_size) id stated = if (id == data_id) && (stated == size_in_ds64) then data_size else stated

abbrev pub size_at : Option ℕ → List ℕ → ℕ → ℕ
size_at data_size bytes place = chunk_size data_size (u32_at bytes place) (u32_at bytes (place + 4))

-- the chunk at a place
abbrev pub chunk_at : Option ℕ → List ℕ → ℕ → Chunk
chunk_at data_size bytes place = record {
  place = place;
  id = u32_at bytes place;
  size = size_at data_size bytes place;
  body = take (size_at data_size bytes place) (drop (place + header_len) bytes);
}

abbrev pub body_end : Chunk → ℕ
body_end c = c.place + header_len + c.size

-- the place after a chunk and its pad byte
abbrev pub after : Chunk → ℕ
after c = body_end c + c.size % 2

abbrev pub LiesWhole : List ℕ → Chunk → Type 0
LiesWhole bytes c = body_end c ≤ length bytes

abbrev pub PassesEnd : List ℕ → Chunk → Type 0
PassesEnd bytes c = length bytes < body_end c

-- The chunks from a place on. The list ends where no id and size are left, before a chunk other than `data` that passes
-- the end of the file, or with a `data` chunk that passes it. That such a `data` chunk is taken as far as it goes is
-- lenient, and this project's choice, as is that a last pad byte may be absent, and that up to seven bytes may be left
-- after the last chunk.
abbrev pub ChunksFrom : Option ℕ → List ℕ → ℕ → List Chunk → Type 0
ChunksFrom data_size bytes place [] =
    place + header_len ≤ length bytes → PassesEnd bytes (chunk_at data_size bytes place) × (u32_at bytes place ≢ data_id)
ChunksFrom data_size bytes place (c ∷ cs) =
    (place + header_len ≤ length bytes) × (c ≡ chunk_at data_size bytes place)
    × (LiesWhole bytes c → ChunksFrom data_size bytes (after c) cs)
    × (PassesEnd bytes c → (c.id ≡ data_id) × (cs ≡ []))

-- the one list that there is, of at most so many chunks
unfoldable pub chunk_list : ℕ → Option ℕ → List ℕ → ℕ → List Chunk
chunk_list zero data_size bytes place = []
chunk_list (suc most) data_size bytes place =
    let c = chunk_at data_size bytes place in
    if nat_le (place + header_len) (length bytes)
    then (if nat_le (body_end c) (length bytes)
    then c ∷ chunk_list most data_size bytes (after c)
    else (if c.id == data_id then c ∷ [] else []))
    else []

-- where a list of chunks from a place ends
abbrev pub end_of : ℕ → List Chunk → ℕ
end_of place [] = place
end_of place (c ∷ cs) = end_of (after c) cs
