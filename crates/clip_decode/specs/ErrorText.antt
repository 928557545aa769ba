-- The text of why a file makes no clip.
use Rattle.std.specs.Prelude.{ℕ, List, codes}
use Rattle.wave_read.specs.FaultText.{fault_text}
use Rattle.clip_decode.specs.declared.clip_error.ClipError.{ClipError}
use Rattle.clip_decode.specs.declared.clip_error.ClipError.TheVariants.{Fault, OutOfMemory}

abbrev pub error_text : ClipError → List ℕ
error_text (Fault fault) = fault_text fault
error_text OutOfMemory = codes "out of memory"
