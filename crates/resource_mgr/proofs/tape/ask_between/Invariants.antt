use Rattle.resource_mgr.specs.Reading.{HasFirst, IsLaterReader}
use Rattle.resource_mgr.proofs.tape.ask_between.Given as goal

abbrev pub invariant-loop-k : goal.invariant-loop-k
invariant-loop-k l = record {
  first : HasFirst l.k l.reader;
  later : IsLaterReader l.fn.reader l.reader;
}
