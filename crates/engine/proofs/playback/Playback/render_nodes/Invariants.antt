use Rattle.std.proofs.Common.{◌≡◌, ◌*◌}
use Rattle.resource_mgr.specs.Tapes.{AreLater}
use Rattle.engine.specs.Nodes.{AreKept, IsSpanOf}
use Rattle.engine.specs.Room.{IsRoomFor}
use Rattle.engine.specs.Span.{Span}
use Rattle.engine.proofs.playback.Playback.render_nodes.Given as goal

abbrev pub invariant-loop-k : goal.invariant-loop-k
invariant-loop-k l = record {
  same : l.self ≡ record l.fn.self { room = l.self.room; clips = l.self.clips; tapes = l.self.tapes };
  clips : l.self.clips.items ≡ l.fn.self.clips.items;
  tapes : AreLater l.fn.self.tapes.items l.self.tapes.items;
  room : IsRoomFor l.fn.self.stage l.self.room;
  kept : (s : Span) → IsSpanOf s l.fn.self l.count → AreKept s (l.count * l.fn.self.channels) l.k l.fn.self.order.items l.self.room.kept.items;
}
