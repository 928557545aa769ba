-- The text of why the sound files of resources weren't fetched. Numbers are decimal.
use Rattle.std.specs.Prelude.{ℕ, List, ◌++◌, codes}
use Rattle.std.specs.Fmt.{decimal}
use Rattle.wave_read.specs.FaultText as wave
use Rattle.resource_mgr.specs.declared.lib_fault.LibFault.{LibFault}
use Rattle.resource_mgr.specs.declared.lib_fault.LibFault.TheVariants.{DepotFault, Absent, TooLong, File, OutOfMemory}

abbrev pub fault_text : LibFault → List ℕ
fault_text DepotFault = codes "depot failed"
fault_text (Absent resource) = codes "absent: resource " ++ decimal resource
fault_text (TooLong resource limit) = codes "too long: resource " ++ decimal resource ++ codes " limit " ++ decimal limit
fault_text (File resource fault) = codes "file: resource " ++ decimal resource ++ codes ": " ++ wave.fault_text fault
fault_text OutOfMemory = codes "out of memory"
