use Rattle.std.proofs.Common.{◌≡◌, ℕ, ◌+◌, ◌*◌, ◌<◌, length, take, sym, subst, arith, List}
use Rattle.std.specs.Prelude.{slice_index_or}
use Rattle.std.proofs.lemmas.List.{take_all, get_or-map, length-map}
use Rattle.scene_model.specs.declared.bus.Bus.{Bus}
use Rattle.scene_model.specs.PlanData.{PlanData}
use Rattle.scene_model.specs.Reach.{HasNoCycle}
use Rattle.mix_model.specs.OrderedBuses.{no_bus}
use Rattle.engine.specs.Span.{IsFed, IsFedBy, AreFeeds, AreSums, AreAdded, bus_at, buses_at}
use Rattle.engine.proofs.Fed.{sums_more, inputs_are, fed_by}
use Rattle.engine.proofs.feeds.mix_few.Goals as goal

pub loop-number-preserved : goal.loop-number-preserved
loop-number-preserved c =
    let nodes = c.args.nodes.now in
    let buses = c.args.buses.now in
    let numbers = c.args.numbers.now in
    let feeds = buses_at buses numbers in
    let i = c.loop-number.number-index in
    let old = c.loop-number.sums in
    let new = c.add_few.new.sums in
    let inside : i < length numbers = c.loop-number-test.true in
    let inside' : i < length feeds = omega (arith, inside, length-map numbers (bus_at buses)) in
    let same : length new ≡ length old = c.add_few.auto.sums in
    let here : slice_index_or feeds i no_bus ≡ bus_at buses (slice_index_or numbers i 0) = get_or-map (bus_at buses) numbers i 0 no_bus inside in
    record {
      sums_are = λ s n fed.
          let before : IsFed s n c.args.time (length old) nodes feeds c.args.kept.now = subst (λ (k : ℕ). IsFed s n c.args.time k nodes feeds c.args.kept.now) same fed in
          let by : IsFedBy s n c.args.time (length old) nodes (bus_at buses (slice_index_or numbers i 0)) c.args.kept.now = subst (λ (b : Bus). IsFedBy s n c.args.time (length old) nodes b c.args.kept.now) here (fed_by s n c.args.time (length old) nodes feeds c.args.kept.now i inside' before) in
          sums_more s n (length new) feeds i old new inside' same
          (subst (λ (k : ℕ). AreSums s k n (take i feeds) old) (sym same) (c.loop-number.invariant.sums_are s n before))
          (subst (λ (b : Bus). AreAdded s n b old new) (sym here) (c.add_few.ensures.added s n by));
      within =
          let more : (i + 1) * 134217728 ≡ i * 134217728 + 134217728 = omega arith in
          rw more (c.add_few.ensures.within (i * 134217728) c.loop-number.invariant.within);
    }

pub returns-clause-inputs : goal.returns-clause-inputs
returns-clause-inputs c = λ s n plan_is all fed.
    let nodes = c.args.nodes.now in
    let buses = c.args.buses.now in
    let numbers = c.args.numbers.now in
    let feeds = buses_at buses numbers in
    let sums = c.loop-number.sums in
    let same : length c.args.out.now ≡ length sums = omega (arith, c.requires.same, c.loop-number.auto.sums) in
    let before : IsFed s n c.args.time (length sums) nodes feeds c.args.kept.now = subst (λ (k : ℕ). IsFed s n c.args.time k nodes feeds c.args.kept.now) same fed in
    let whole : take c.loop-number.number-index feeds ≡ feeds = take_all c.loop-number.number-index feeds (omega (arith, c.loop-number-test.false, length-map numbers (bus_at buses))) in
    let are : AreSums s (length c.args.out.now) n feeds sums = rw same (subst (λ (bs : List Bus). AreSums s (length sums) n bs sums) whole (c.loop-number.invariant.sums_are s n before)) in
    let none : HasNoCycle s.first.plan.buses = subst (λ (q : PlanData). HasNoCycle q.buses) (sym plan_is) c.requires.plan.no_cycle in
    inputs_are s n (length c.args.out.now) feeds sums c.settle_narrow.new.out none (subst (λ (q : PlanData). AreFeeds n q.buses feeds) (sym plan_is) all) are (λ j below. c.settle_narrow.ensures.settled j (omega (arith, below, same)))
