use Rattle.std.proofs.Common.{◌-◌, ◌≤◌, List, length}
use Rattle.wave_read.specs.Chunks.{Chunk, ChunksFrom, first_chunk}
use Rattle.wave_read.specs.Wave.{told_by}
use Rattle.wave_read.specs.Walk.{IsFound}
use Rattle.wave_read.proofs.Walks.{Resumes}
use Rattle.wave_read.proofs.walk.walk.Given as goal

abbrev pub invariant-loop-place : goal.invariant-loop-place
invariant-loop-place l = record {
  inside : l.place ≤ length l.bytes;
  lawful : IsFound l.bytes l.found;
  so_far : (chunks : List Chunk) → ChunksFrom l.fn.data_size l.bytes first_chunk chunks
      → Resumes l.fn.data_size l.bytes (told_by l.bytes chunks) l.place l.found;
}

abbrev pub decreases-loop-place : goal.decreases-loop-place
decreases-loop-place l = length l.bytes - l.place
