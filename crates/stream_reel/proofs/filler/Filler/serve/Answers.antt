use Rattle.std.proofs.Common.{rules, ◌∷◌, [], ◌++◌, length, ap, sym, ◌∙◌, refl, true≢false, append_assoc, arith}
use Rattle.rtrb.specs.Ring.{sent, received, known_items}
use Rattle.clip_decode.specs.Pages.{page_count}
use Rattle.stream_reel.specs.Asks.{HasChannels, IsAskFor}
use Rattle.stream_reel.specs.Heard.{IsPageOf, entry_of}
use Rattle.stream_reel.specs.declared.buffer.Buffer.{Buffer}
use Rattle.stream_reel.proofs.Buffers.{all_first}
use Rattle.stream_reel.proofs.Filling.{all_sent, all_grow, served_grows, lost_before, lost_full, lost_wrong}
use Rattle.stream_reel.proofs.filler.Filler.serve.Goals as goal
use Rattle.stream_reel.proofs.filler.Filler.serve.Goals.{then-self-via-then-self, then-self-via-else-self+then-is_full, then-self-via-else-self+else-is_full+then-not-can_serve}

pub invariant_of-self-clause-true_pages : goal.invariant_of-self-clause-true_pages
invariant_of-self-clause-true_pages c =
    let f = c.args.self.now in
    all_sent (λ b. IsPageOf f.clip.bytes (entry_of b)) (sent f.fills) f.kept _ c.new.ensures f.true_pages

pub invariant_of-self-clause-room : goal.invariant_of-self-clause-room
invariant_of-self-clause-room c =
    let f = c.args.self.now in
    all_sent (HasChannels f.clip.wave.channels) (sent f.fills) f.kept _ c.new.ensures f.room

pub invariant_of-self-clause-loss : goal.invariant_of-self-clause-loss
invariant_of-self-clause-loss c t =
    let f = c.args.self.now in
    let P = IsAskFor (page_count f.clip.wave.frames) f.clip.wave.channels in
    let a = c.pop_known-ask.result in
    let came = c.pop_known-ask.ensures.received.0 in (
      c.new.ensures,
      λ all. elim c.then-self.branch [
        | then-self-via-then-self w ↦ lost_before P (received f.asks) _ a (sent f.fills) f.kept _ came c.new.ensures (f.loss w.if-self.true).1 all
        | then-self-via-else-self+then-is_full w ↦ lost_full P (received f.asks) _ a (sent f.fills) f.kept _ came c.new.ensures (f.served w.if-self.false) (w.is_full.ensures.full w.if-is_full.true)
        | then-self-via-else-self+else-is_full+then-not-can_serve w ↦ absurd (lost_wrong P (received f.asks) _ a came (w.can_serve.ensures.not (search rules)) all)
      ],
    )

pub invariant_of-self-2-clause-true_pages : goal.invariant_of-self-2-clause-true_pages
invariant_of-self-2-clause-true_pages c =
    let f = c.args.self.now in
    let b : Buffer = record { round = c.pop_known-ask.result.round; number = c.pop_known-ask.result.number; page = c.fill_page.new.page } in
    all_grow (λ b. IsPageOf f.clip.bytes (entry_of b)) (sent f.fills ++ f.kept) _ b f.true_pages
    (ap (λ xs. sent f.fills ++ xs) c.push.ensures ∙ sym (append_assoc (sent f.fills) f.kept (b ∷ [])))
    (rw c.from.ensures at (ap (λ p. p.samples) c.fill_page.ensures.page))

pub invariant_of-self-2-clause-room : goal.invariant_of-self-2-clause-room
invariant_of-self-2-clause-room c =
    let f = c.args.self.now in
    let b : Buffer = record { round = c.pop_known-ask.result.round; number = c.pop_known-ask.result.number; page = c.fill_page.new.page } in
    all_grow (HasChannels f.clip.wave.channels) (sent f.fills ++ f.kept) _ b f.room
    (ap (λ xs. sent f.fills ++ xs) c.push.ensures ∙ sym (append_assoc (sent f.fills) f.kept (b ∷ [])))
    (ap (λ p. p.channels) c.fill_page.ensures.page)

pub invariant_of-self-2-clause-served : goal.invariant_of-self-2-clause-served
invariant_of-self-2-clause-served c ok =
    let f = c.args.self.now in
    let b : Buffer = record { round = c.pop_known-ask.result.round; number = c.pop_known-ask.result.number; page = c.fill_page.new.page } in
    served_grows (received f.asks) _ (sent f.fills ++ f.kept) _ c.pop_known-ask.result b (f.served ok) c.pop_known-ask.ensures.received.0
    (ap (λ xs. sent f.fills ++ xs) c.push.ensures ∙ sym (append_assoc (sent f.fills) f.kept (b ∷ []))) refl

pub invariant_of-self-2-clause-loss : goal.invariant_of-self-2-clause-loss
invariant_of-self-2-clause-loss c lost = absurd (true≢false (sym lost ∙ c.if-self.false))

pub returns-then-self-clause-can : goal.returns-then-self-clause-can
returns-then-self-clause-can c can =
    let f = c.args.self.now in
    let P = IsAskFor (page_count f.clip.wave.frames) f.clip.wave.channels in
    let first = c.pop_known-ask.ensures.received.1 in
    elim c.then-self.branch [
      | then-self-via-then-self w ↦ absurd (true≢false (sym w.if-self.true ∙ can.lost))
      | then-self-via-else-self+then-is_full w ↦ absurd (omega (arith, can.few, w.is_full.ensures.full w.if-is_full.true, ap length first))
      | then-self-via-else-self+else-is_full+then-not-can_serve w ↦ absurd (w.can_serve.ensures.not (search rules) (all_first P (known_items f.asks) _ _ first can.asks))
    ]
