-- What a store in memory that fails at listed calls holds, and how it counts.
use Rattle.std.specs.Prelude.{◌≡◌, ◌≢◌, ℕ, Bool, List, [], Option, Some, None, IsSomeAnd, IfSome, take}
use Rattle.snd_io.specs.declared.snag.Snag.{Snag}
use Rattle.snd_io.specs.declared.mem_depot.MemDepot.{MemDepot}
use Rattle.snd_io.specs.declared.answers.Put.{Put}
use Rattle.snd_io.specs.declared.answers.Put.TheVariants.{Done, Failed, OutOfMemory}
use Rattle.snd_io.specs.Files.{Files, extend_file}
use Rattle.snd_io.specs.Snags.{next_number, bytes_taken, faults_after}
use Rattle.snd_io.specs.SureFiles.{sure_files, sure_writing}

abbrev pub mem_files : MemDepot → Files
mem_files depot = sure_files depot.store

-- the name that is open for writing
abbrev pub mem_writing : MemDepot → Option (List ℕ)
mem_writing depot = sure_writing depot.store

-- the calls at which it fails, as they were listed
abbrev pub mem_snags : MemDepot → List Snag
mem_snags depot = depot.snags.list.items

-- the calls so far, the appends among them, and those that failed
abbrev pub mem_calls : MemDepot → ℕ
mem_calls depot = depot.snags.calls

abbrev pub mem_appends : MemDepot → ℕ
mem_appends depot = depot.snags.appends

abbrev pub mem_faults : MemDepot → ℕ
mem_faults depot = depot.snags.faults

-- the counts are those after one more call, which is no append. A fault is counted exactly where the call failed
pub record CountsCall (failed : Bool) (before after : MemDepot) : Type 0 where
  pub snags : mem_snags after ≡ mem_snags before
  pub calls : mem_calls after ≡ next_number (mem_calls before)
  pub appends : mem_appends after ≡ mem_appends before
  pub faults : mem_faults after ≡ faults_after (mem_faults before) failed

-- the counts are those after one more append. A fault is counted exactly where it failed
pub record CountsAppend (failed : Bool) (before after : MemDepot) : Type 0 where
  pub snags : mem_snags after ≡ mem_snags before
  pub calls : mem_calls after ≡ next_number (mem_calls before)
  pub appends : mem_appends after ≡ next_number (mem_appends before)
  pub faults : mem_faults after ≡ faults_after (mem_faults before) failed

-- the counts are as they were
pub record CountsNothing (before after : MemDepot) : Type 0 where
  pub calls : mem_calls after ≡ mem_calls before
  pub appends : mem_appends after ≡ mem_appends before
  pub faults : mem_faults after ≡ mem_faults before

-- An append whose number is listed doesn't succeed: it fails with as many bytes as were listed. Where these are any, it may
-- find no memory instead. One that isn't listed doesn't fail.
abbrev pub AppendsAsTaken : Put → Option ℕ → List ℕ → MemDepot → MemDepot → Type 0
AppendsAsTaken Done taken bytes before after = taken ≡ None
AppendsAsTaken Failed taken bytes before after =
    IsSomeAnd taken (λ count. IfSome (mem_writing before) (λ name. mem_files after ≡ extend_file name (take count bytes) (mem_files before)))
AppendsAsTaken OutOfMemory taken bytes before after = IfSome taken (λ count. take count bytes ≢ [])

abbrev pub AppendsAsListed : Put → List ℕ → MemDepot → MemDepot → Type 0
AppendsAsListed answer bytes before after =
    AppendsAsTaken answer (bytes_taken (mem_snags before) (next_number (mem_calls before)) (Some (next_number (mem_appends before)))) bytes before after
