use Rattle.std.proofs.Common.{◌∷◌, [], ◌++◌, map, All, sym, subst, refl, arith}
use Rattle.rtrb.specs.Ring.{sent, received}
use Rattle.stream_reel.specs.Heard.{entry_of, heard_of, InOrder}
use Rattle.stream_reel.specs.Asks.{awaited, AllCame, HasChannels}
use Rattle.stream_reel.specs.declared.buffer.Held.{Held}
use Rattle.stream_reel.proofs.Buffers.{asked_back, asked_push}
use Rattle.stream_reel.proofs.DueAsks.{due_asked}
use Rattle.stream_reel.proofs.listener.Listener.ask_one.Goals as goal

pub invariant_of-self-in-Some-clause-came : goal.invariant_of-self-in-Some-clause-came
invariant_of-self-in-Some-clause-came c =
    let l = c.args.self.now in
    subst (λ b. AllCame (map entry_of (received l.fills)) (heard_of b))
    (sym (asked_back (sent l.asks) _ l.kept _ _ (rw c.is_full.ensures.looked.1 at c.push_reserved.ensures.sent.0) c.in-Some.ensures.some)) l.came

pub invariant_of-self-in-Some-clause-order : goal.invariant_of-self-in-Some-clause-order
invariant_of-self-in-Some-clause-order c =
    let l = c.args.self.now in
    subst (λ b. InOrder (heard_of b ++ awaited l.round l.place ∷ []))
    (sym (asked_back (sent l.asks) _ l.kept _ _ (rw c.is_full.ensures.looked.1 at c.push_reserved.ensures.sent.0) c.in-Some.ensures.some)) l.order

pub invariant_of-self-in-Some-clause-room : goal.invariant_of-self-in-Some-clause-room
invariant_of-self-in-Some-clause-room c all =
    let l = c.args.self.now in
    subst (λ b. All (λ (h : Held). HasChannels l.channels h.buffer) b)
    (sym (asked_back (sent l.asks) _ l.kept _ _ (rw c.is_full.ensures.looked.1 at c.push_reserved.ensures.sent.0) c.in-Some.ensures.some)) (l.room all)

pub invariant_of-self-in-Some-clause-due : goal.invariant_of-self-in-Some-clause-due
invariant_of-self-in-Some-clause-due c all rest same =
    let l = c.args.self.now in
    due_asked (sent l.asks) _ (received l.fills) _ l.round l.place l.next rest (rw c.is_full.ensures.looked.1 at c.push_reserved.ensures.sent.0) refl
    (omega (arith, l.two, c.is_empty.ensures.most)) (l.due all) same

pub invariant_of-self-in-Some-clause-asked : goal.invariant_of-self-in-Some-clause-asked
invariant_of-self-in-Some-clause-asked c =
    let l = c.args.self.now in
    asked_push l.pages (sent l.asks) _ _ (rw c.is_full.ensures.looked.1 at c.push_reserved.ensures.sent.0)
    (omega (arith, l.inside, c.if-self.false)) l.asked
