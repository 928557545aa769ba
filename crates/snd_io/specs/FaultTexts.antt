-- The texts of why a file wasn't given, or something wasn't written.
use Rattle.std.specs.Prelude.{ℕ, List, codes}
use Rattle.snd_io.specs.declared.answers.FetchFault.{FetchFault}
use Rattle.snd_io.specs.declared.answers.FetchFault.TheVariants as fetching
use Rattle.snd_io.specs.declared.answers.PutFault.{PutFault}
use Rattle.snd_io.specs.declared.answers.PutFault.TheVariants.{Failed, OutOfMemory}

abbrev pub fetch_fault_text : FetchFault → List ℕ
fetch_fault_text fetching.Absent = codes "absent"
fetch_fault_text fetching.TooLong = codes "too long"
fetch_fault_text fetching.Failed = codes "failed"
fetch_fault_text fetching.OutOfMemory = codes "out of memory"

abbrev pub put_fault_text : PutFault → List ℕ
put_fault_text Failed = codes "failed"
put_fault_text OutOfMemory = codes "out of memory"
