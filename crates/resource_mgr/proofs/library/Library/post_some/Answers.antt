use Rattle.std.proofs.Common.{◌∙◌}
use Rattle.resource_mgr.proofs.Posts.{desk_still, more_first, posted_some}
use Rattle.resource_mgr.proofs.library.Library.post_some.Goals as goal

pub returns-in-Err-clause-posted : goal.returns-in-Err-clause-posted
returns-in-Err-clause-posted g c =
    let e = c.in-Err.ensures in
    let refused = c.in-Err.field-0 in
    posted_some c.args.self.now c.args.poster.now c.loop-work.poster c.next.new.self c.args.desk.now c.loop-work.desk c.post.new.seat c.in-Some.work c.in-Some.ensures.0 c.loop-work.invariant.first
    _ c.put_back.new.self refused.job refused.place e.back c.put_back.ensures e.cause e.same e.took

pub loop-work-preserved : goal.loop-work-preserved
loop-work-preserved g c =
    let e = c.in_default-post.ensures in
    record {
      desk = desk_still c.args.self.now c.loop-work.desk c.post.new.seat c.loop-work.invariant.desk e.seat.0 e.took;
      number = e.seat.1 ∙ c.loop-work.invariant.number;
      kept = c.loop-work.invariant.kept;
      ended = c.loop-work.invariant.ended;
      first = more_first c.args.self.now c.args.poster.now c.loop-work.poster c.next.new.self c.args.desk.now c.loop-work.desk c.post.new.seat c.in-Some.work c.in-Some.ensures.0 c.loop-work.invariant.first e.posted e.took;
    }
