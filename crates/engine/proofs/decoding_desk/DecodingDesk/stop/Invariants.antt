use Rattle.engine.specs.DecodingDesks.{IsOwnDesk}
use Rattle.engine.proofs.decoding_desk.DecodingDesk.stop.Given as goal

abbrev pub invariant-loop : goal.invariant-loop
invariant-loop g l = record {
  desk : IsOwnDesk l.self;
  can_next : (goal.iterator-loop g).can_next l.iterator';
  finite : (goal.iterator-loop g).is_finite l.iterator';
}
