use Rattle.std.proofs.Common.{◌+◌, slice_set, sym, subst, arith}
use Rattle.bus_list.specs.ListViews.{history_of_editor}
use Rattle.bus_list_tests.specs.Feeds.{Knows}
use Rattle.bus_list_tests.proofs.Feeds.{knows_on}
use Rattle.bus_list_tests.proofs.recorder.Recorder.attach.Goals as goal

pub invariant_of-self-clause-known : goal.invariant_of-self-clause-known
invariant_of-self-clause-known c =
    let old = c.args.self.now in
    let low = c.requires.bus in
    let size = old.buses.1 in
    let feed = c.edits.result + 1 in
    subst (Knows (slice_set old.feeds.items c.args.bus feed)) (sym c.attach.ensures.history)
    (knows_on old.feeds.items (history_of_editor old.editor) c.args.bus feed (omega arith) (omega arith) old.known)
