use Rattle.std.proofs.Common.{arith, length, ap}
use Rattle.std.specs.Prelude.{None}
use Rattle.std.specs.Result.{result_unwrap_or}
use Rattle.wave_read.specs.Chunks.{first_chunk}
use Rattle.wave_read.specs.Wave.{opening, wave, wave_of, chunks_of}
use Rattle.wave_read.proofs.ChunkLists.{list_there, only_list}
use Rattle.wave_read.proofs.laws.wave_from_its_chunks.Goals as goal

pub returns : goal.returns
unfolding wave
returns c = λ bytes chunks h.
    let size = result_unwrap_or (opening bytes) None in
    ap (wave_of bytes) (only_list size bytes first_chunk (chunks_of bytes) chunks
    (list_there size bytes (length bytes) first_chunk (omega arith)) h)
