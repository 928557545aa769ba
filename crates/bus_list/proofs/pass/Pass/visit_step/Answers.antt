use Rattle.std.proofs.Common.{Bool, not, [], ◌∷◌, ◌++◌, ap, ◌∙◌, sym, subst}
use Rattle.bus_list.specs.Visits.{has}
use Rattle.bus_list.specs.PassStates.{SteppedOn, feed_read}
use Rattle.bus_list.proofs.Unwalked.{stepped_on, reached_walked, reached_given}
use Rattle.bus_list.proofs.pass.Pass.visit_step.Goals as goal

pub returns-clause-on : goal.returns-clause-on
returns-clause-on g c =
    let N = c.args.self.now.table.buses in
    let n = c.reach_next-bus.result in
    let p = c.enter_step.new.seat.me.0.reading in
    let old = c.args.self.now.seat.me.0.reading in
    let walked = ap (λ m. m.0.reading.walked) c.leave_step.ensures.me ∙ (ap (λ p. p.walked) c.drop_reference.ensures.moved.reading ∙ (ap (λ p. p.walked) c.give_back.ensures.moved.reading
    ∙ (ap (λ p. p.walked) c.reach_next-bus.ensures.moved.reading ∙ (reached_walked N n p c.if-bus-self.false ∙ ap (λ m. m.0.reading.walked ++ n ∷ []) c.enter_step.ensures.me)))) in
    let given = ap (λ m. m.0.reading.given) c.leave_step.ensures.me ∙ (ap (λ p. p.given) c.drop_reference.ensures.moved.reading ∙ (ap (λ p. p.given) c.give_back.ensures.moved.reading
    ∙ (ap (λ p. p.given) c.reach_next-bus.ensures.moved.reading ∙ (reached_given N n p ∙ ap (λ m. m.0.reading.given) c.enter_step.ensures.me)))) in
    let new = sym (ap (λ m. has n m.0.reading.walked) c.enter_step.ensures.me) ∙ c.reach_next-bus.ensures.bus.1 c.if-bus-self.false in
    let base = stepped_on N n c.args.self.now.ended c.read_feed-feed.result old c.leave_step.new.seat.me.0.reading c.reach_next-bus.ensures.bus.0 c.if-bus-self.false new c.requires.ended walked given c.read_feed-feed.ensures.new in
    let on = subst (λ (b : Bool). SteppedOn N (not b) n c.args.self.now.ended c.read_feed-feed.result old (feed_read n c.read_feed-feed.result c.leave_step.new.seat.me.0.reading)) (sym c.is_some-attached.ensures) base in
    let feed = subst (λ x. SteppedOn N (not c.is_some-attached.result) n c.args.self.now.ended x old (feed_read n c.read_feed-feed.result c.leave_step.new.seat.me.0.reading)) (sym c.replace-had.ensures.after) on in
    subst (λ q. SteppedOn N (not c.is_some-attached.result) n c.args.self.now.ended c.replace-had.new.dest old q) (sym c.read_feed-feed.ensures.read.0) feed
