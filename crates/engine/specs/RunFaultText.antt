-- The texts of faults of a run.
use Rattle.std.specs.Prelude.{ℕ, List, codes}
use Rattle.engine.specs.declared.run_fault.RunFault.{RunFault}
use Rattle.engine.specs.declared.run_fault.RunFault.TheVariants.{DepotFault, OutOfMemory}

abbrev pub run_fault_text : RunFault → List ℕ
run_fault_text DepotFault = codes "depot failed"
run_fault_text OutOfMemory = codes "out of memory"
