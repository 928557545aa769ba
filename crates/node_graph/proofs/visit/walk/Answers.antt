use Rattle.std.proofs.Common.{◌∙◌, subst, arith, List, ℕ, ◌<◌, sym}
use Rattle.bus_list.specs.PassStates.{unwalked}
use Rattle.bus_list.specs.PassViews.{buses_of_pass}
use Rattle.node_graph.proofs.Walked.{IsWalking, walk_begins, walk_room, walks_on, walks_less, walk_ends}
use Rattle.node_graph.proofs.visit.walk.Goals as goal

pub loop-bus-init : goal.loop-bus-init
loop-bus-init c =
    let begun = c.begin.ensures in
    (walk_begins c.args.pass.now c.begin.new.self c.clear.new.self.items c.clear.ensures.items begun.visit.0 begun.visit.1 (begun.visits.0 ∙ c.requires.first) begun.visits.1 begun.list.0 begun.list.1, c.clear.ensures.capacity)

pub push_reserved-requires : goal.push_reserved-requires
push_reserved-requires c =
    let bus = c.in-Some.ensures.bus in
    let inside = walk_room c.args.pass.now c.loop-bus.pass c.next_bus.new.pass c.in-Some.bus bus.0 c.loop-bus.numbers.items c.loop-bus.invariant.0 c.next_bus.ensures.next bus.1 in
    let room = c.requires.room in
    let same = c.loop-bus.invariant.1 in
    let long = c.loop-bus.numbers.ok.0 in
    omega arith

pub loop-bus-smaller : goal.loop-bus-smaller
loop-bus-smaller c =
    let bus = c.in-Some.ensures.bus in
    let before = c.args.pass.now in
    subst (λ (ns : List ℕ). unwalked (buses_of_pass before) ns < unwalked (buses_of_pass before) c.loop-bus.numbers.items) (sym c.push_reserved.ensures.items)
    (walks_less before c.loop-bus.pass c.next_bus.new.pass c.in-Some.bus bus.0 c.loop-bus.numbers.items c.loop-bus.invariant.0 c.next_bus.ensures.next bus.1)

pub loop-bus-preserved : goal.loop-bus-preserved
loop-bus-preserved c =
    let bus = c.in-Some.ensures.bus in
    let before = c.args.pass.now in (
      subst (λ (ns : List ℕ). IsWalking before c.next_bus.new.pass ns) (sym c.push_reserved.ensures.items)
          (walks_on before c.loop-bus.pass c.next_bus.new.pass c.in-Some.bus bus.0 c.loop-bus.numbers.items c.loop-bus.invariant.0 c.next_bus.ensures.next bus.1),
      c.push_reserved.ensures.capacity ∙ c.loop-bus.invariant.1,
    )

pub returns-clause-walk : goal.returns-clause-walk
returns-clause-walk c =
    let ended = c.end.ensures in
    walk_ends c.args.pass.now c.loop-bus.pass c.next_bus.new.pass c.end.new.self c.end.result.until c.loop-bus.numbers.items c.loop-bus.invariant.0 c.next_bus.ensures.next c.in_default.ensures.bus
    ended.visit ended.visits.0 ended.visits.1 ended.list.0
