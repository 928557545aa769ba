use Rattle.std.proofs.Common.{arith, length}
use Rattle.std.specs.Prelude.{None}
use Rattle.std.specs.Result.{result_unwrap_or}
use Rattle.wave_read.specs.Chunks.{first_chunk}
use Rattle.wave_read.specs.Wave.{opening}
use Rattle.wave_read.proofs.ChunkLists.{list_there, only_list}
use Rattle.wave_read.proofs.laws.one_chunk_list.Goals as goal

pub returns-clause-there : goal.returns-clause-there
returns-clause-there c = λ bytes. list_there (result_unwrap_or (opening bytes) None) bytes (length bytes) first_chunk (omega arith)

pub returns-clause-only : goal.returns-clause-only
returns-clause-only c = λ bytes chunks others a b. only_list (result_unwrap_or (opening bytes) None) bytes first_chunk chunks others a b
