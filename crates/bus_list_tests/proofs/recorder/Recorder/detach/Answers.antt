use Rattle.std.proofs.Common.{slice_set, sym, subst, arith}
use Rattle.bus_list.specs.ListViews.{history_of_editor}
use Rattle.bus_list_tests.specs.Feeds.{Knows}
use Rattle.bus_list_tests.proofs.Feeds.{knows_off}
use Rattle.bus_list_tests.proofs.recorder.Recorder.detach.Goals as goal

pub invariant_of-self-clause-known : goal.invariant_of-self-clause-known
invariant_of-self-clause-known g c =
    let old = c.args.self.now in
    let low = c.requires.bus in
    let size = old.buses.1 in
    subst (Knows (slice_set old.feeds.items c.args.bus 0)) (sym c.detach-had.ensures.history)
    (knows_off old.feeds.items (history_of_editor old.editor) c.args.bus (omega arith) old.known)
