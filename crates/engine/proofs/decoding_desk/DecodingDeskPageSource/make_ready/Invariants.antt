use Rattle.std.proofs.Common.{◌≡◌}
use Rattle.resource_mgr.specs.Tapes.{AreLater}
use Rattle.engine.specs.DecodingDesks.{IsOwnDesk}
use Rattle.engine.proofs.decoding_desk.DecodingDeskPageSource.make_ready.Given as goal

abbrev pub invariant-loop : goal.invariant-loop
invariant-loop g l = record {
  desk : IsOwnDesk l.self;
  same : l.renderer ≡ record l.fn.renderer { tapes = l.renderer.tapes };
  tapes : AreLater l.fn.renderer.tapes l.renderer.tapes;
  can_next : (goal.iterator-loop g).can_next l.iterator';
  finite : (goal.iterator-loop g).is_finite l.iterator';
}
