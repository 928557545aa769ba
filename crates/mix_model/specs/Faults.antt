-- Why a mix was not written whole: what the sink answered, and the text.
use Rattle.std.specs.Prelude.{ℕ, List, codes}
use Rattle.snd_io.specs.declared.answers.PutFault.{PutFault}
use Rattle.snd_io.specs.declared.answers.PutFault.TheVariants as puts
use Rattle.mix_model.specs.declared.mix_fault.MixFault.{MixFault}
use Rattle.mix_model.specs.declared.mix_fault.MixFault.TheVariants.{SinkFault, OutOfMemory}

abbrev pub put_fault : PutFault → MixFault
put_fault puts.Failed = SinkFault
put_fault puts.OutOfMemory = OutOfMemory

abbrev pub fault_text : MixFault → List ℕ
fault_text SinkFault = codes "sink failed"
fault_text OutOfMemory = codes "out of memory"
