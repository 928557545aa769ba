use Rattle.job_queue.specs.Rule.{tag_data}
use Rattle.job_queue.proofs.Refused.{given_back, noted_back}
use Rattle.job_queue.proofs.queue.JobQueue.post.Goals as goal

pub returns-clause-cause : goal.returns-clause-cause
returns-clause-cause g c =
    let e = c.in-Ok.ensures in
    let told = c.in-Err-push.ensures.told in
    let lift = c.lift-job.ensures in
    record {
      held = told.2;
      tag = tag_data c.in-Ok.tag;
      taken = record { slot = e.slot; number = e.number; newer = e.new; notes = e.notes.1 };
      given = given_back c.args.self.now.ring.slots c.args.seat.now.slot_seat c.take.new.seat c.lift-job.new.seat c.give.new.seat c.in-Ok.tag c.in-Err-push.refused c.lift-job.new.tag told.0 lift.tag.0 lift.seat e.seat.1 c.give.ensures.given;
      notes = noted_back c.args.self.now.ring.slots c.args.seat.now.slot_seat c.take.new.seat c.lift-job.new.seat c.give.new.seat c.in-Ok.tag c.in-Err-push.refused c.lift-job.new.tag told.0 lift.tag.0 lift.seat e.notes.0 c.give.ensures.notes;
    }
