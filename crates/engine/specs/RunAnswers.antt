-- How a store ends a run that writes a file.
use Rattle.std.specs.Prelude.{Result, Ok, Err}
use Rattle.snd_io.specs.declared.answers.Put.{Put}
use Rattle.snd_io.specs.declared.answers.Put.TheVariants.{Done, Failed, OutOfMemory as PutOutOfMemory}
use Rattle.engine.specs.declared.run_fault.RunFault.{RunFault}
use Rattle.engine.specs.declared.run_fault.RunFault.TheVariants.{DepotFault, OutOfMemory}

-- the answer of a store that ends a run in this way
abbrev pub fault_answer : RunFault → Put
fault_answer DepotFault = Failed
fault_answer OutOfMemory = PutOutOfMemory

abbrev pub answer_of : {T : Type 0} → Result T RunFault → Put
answer_of (Ok x) = Done
answer_of (Err fault) = fault_answer fault
