use Rattle.std.proofs.Common.{rules, length, ap, ◌∙◌, refl}
use Rattle.std.proofs.lemmas.List.{length-append}
use Rattle.rtrb.specs.Ring.{sent, received}
use Rattle.stream_reel.specs.Asks.{HasChannels}
use Rattle.stream_reel.proofs.Buffers.{room_push, all_last, all_front}
use Rattle.stream_reel.proofs.DueAsks.{due_heard, due_other}
use Rattle.stream_reel.proofs.HeardLists.{came_push, order_push, unheard_push, last_heard}
use Rattle.stream_reel.proofs.listener.Listener.take_one.Goals as goal

pub invariant_of-self-clause-came : goal.invariant_of-self-clause-came
invariant_of-self-clause-came c =
    let l = c.args.self.now in
    came_push (received l.fills) _ (sent l.asks) l.kept _ _ _ c.pop_known-buffer.ensures.received.0 c.push.ensures l.came

pub invariant_of-self-clause-order : goal.invariant_of-self-clause-order
invariant_of-self-clause-order c =
    let l = c.args.self.now in
    let is = c.is_page_at-heard.ensures.is c.if-heard.true in
    order_push (sent l.asks) l.kept _ c.pop_known-buffer.result l.round l.place (rw c.if-heard.true at c.push.ensures) is.this_round is.this_place l.order

pub invariant_of-self-clause-room : goal.invariant_of-self-clause-room
invariant_of-self-clause-room c =
    let l = c.args.self.now in
    room_push l.channels (received l.fills) _ (sent l.asks) l.kept _ _ c.pop_known-buffer.ensures.received.0 c.push.ensures l.room

pub invariant_of-self-clause-due : goal.invariant_of-self-clause-due
invariant_of-self-clause-due c all rest same =
    let l = c.args.self.now in
    let is = c.is_page_at-heard.ensures.is c.if-heard.true in
    let came = c.pop_known-buffer.ensures.received.0 in
    due_heard (sent l.asks) (received l.fills) _ c.pop_known-buffer.result l.round l.place l.next rest came is.this_round
    (l.due (all_front (HasChannels l.channels) (received l.fills) _ (rw came at all))) same

pub invariant_of-self-else-heard-clause-came : goal.invariant_of-self-else-heard-clause-came
invariant_of-self-else-heard-clause-came c =
    let l = c.args.self.now in
    came_push (received l.fills) _ (sent l.asks) l.kept _ _ _ c.pop_known-buffer.ensures.received.0 c.push.ensures l.came

pub invariant_of-self-else-heard-clause-order : goal.invariant_of-self-else-heard-clause-order
invariant_of-self-else-heard-clause-order c =
    let l = c.args.self.now in
    rw (unheard_push (sent l.asks) l.kept _ c.pop_known-buffer.result (rw c.if-heard.false at c.push.ensures)) l.order

pub invariant_of-self-else-heard-clause-room : goal.invariant_of-self-else-heard-clause-room
invariant_of-self-else-heard-clause-room c =
    let l = c.args.self.now in
    room_push l.channels (received l.fills) _ (sent l.asks) l.kept _ _ c.pop_known-buffer.ensures.received.0 c.push.ensures l.room

pub invariant_of-self-else-heard-clause-due : goal.invariant_of-self-else-heard-clause-due
invariant_of-self-else-heard-clause-due c all rest same =
    let l = c.args.self.now in
    let came = c.pop_known-buffer.ensures.received.0 in
    due_other (sent l.asks) (received l.fills) _ c.pop_known-buffer.result l.round l.place l.next rest came
    (λ r n. c.is_page_at-heard.ensures.not c.if-heard.false (record {
      this_round = r;
      this_place = n;
      these_channels = all_last (HasChannels l.channels) (received l.fills) _ c.pop_known-buffer.result came all;
    }))
    (l.due (all_front (HasChannels l.channels) (received l.fills) _ (rw came at all))) same

pub returns-then-heard-clause-heard : goal.returns-then-heard-clause-heard
returns-then-heard-clause-heard c t =
    let l = c.args.self.now in
    let is = c.is_page_at-heard.ensures.is c.if-heard.true in
    let b = c.pop_known-buffer.result in
    record {
      buffer = b;
      took = record {
        same = search rules;
        known = c.pop_known-buffer.ensures.received.1;
        kept = ap length c.push.ensures ∙ length-append l.kept _;
        asks = refl;
        next = refl;
        round = refl;
      };
      is_next = is;
      place = refl;
      heard = λ before last e.
          let h = last_heard (sent l.asks) l.kept _ before b last l.round l.place (rw c.if-heard.true at c.push.ensures) e is.this_round is.this_place in
          (h.0, rw h.1 is.these_channels);
    }

pub returns-else-heard-clause-other : goal.returns-else-heard-clause-other
returns-else-heard-clause-other c t =
    let l = c.args.self.now in
    record {
      buffer = c.pop_known-buffer.result;
      took = record {
        same = search rules;
        known = c.pop_known-buffer.ensures.received.1;
        kept = ap length c.push.ensures ∙ length-append l.kept _;
        asks = refl;
        next = refl;
        round = refl;
      };
      not_next = c.is_page_at-heard.ensures.not c.if-heard.false;
      nothing = record {
        heard = unheard_push (sent l.asks) l.kept _ c.pop_known-buffer.result (rw c.if-heard.false at c.push.ensures);
        round = refl;
        place = refl;
      };
    }
