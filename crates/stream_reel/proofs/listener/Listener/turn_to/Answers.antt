use Rattle.std.proofs.Common.{arith}
use Rattle.rtrb.specs.Ring.{sent}
use Rattle.stream_reel.specs.Heard.{heard_of}
use Rattle.stream_reel.specs.Asks.{back_of}
use Rattle.stream_reel.proofs.HeardLists.{round_begins}
use Rattle.stream_reel.proofs.DueAsks.{due_turned}
use Rattle.stream_reel.proofs.listener.Listener.turn_to.Goals as goal

pub invariant_of-self-clause-order : goal.invariant_of-self-clause-order
invariant_of-self-clause-order c =
    let l = c.args.self.now in
    round_begins (heard_of (back_of (sent l.asks) l.kept)) l.round l.place _ _ (omega arith) l.order

pub invariant_of-self-clause-due : goal.invariant_of-self-clause-due
invariant_of-self-clause-due c all rest same =
    let l = c.args.self.now in
    due_turned l.round l.place l.next c.args.number rest (l.due all rest same)
