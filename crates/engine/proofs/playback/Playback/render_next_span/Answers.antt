use Rattle.std.proofs.Common.{◌≡◌, ◌+◌, ◌-◌, ◌*◌, ◌≤◌, ◌∙◌, ap, arith}
use Rattle.std.proofs.lemmas.Nat.{mul-le}
use Rattle.std.proofs.lemmas.Result.{err_from_is_err_and}
use Rattle.engine.specs.declared.playback.Playback.{Playback}
use Rattle.engine.proofs.Needed.{reads_before}
use Rattle.engine.proofs.Rendered.{in_block_next, in_block_still, quiet_between}
use Rattle.engine.proofs.playback.Playback.render_next_span.Goals as goal

pub play_span-requires-clause-quiet : goal.play_span-requires-clause-quiet
play_span-requires-clause-quiet c =
    let p = c.args.self.now in
    quiet_between p c.args.start c.args.end p.time (p.time + (c.span_end.result - p.time)) c.requires.standing.from
    (omega (arith, c.span_end.ensures.within, c.span_end.ensures.after)) c.requires.standing.quiet

pub play_span-requires-clause-room : goal.play_span-requires-clause-room
play_span-requires-clause-room c =
    let p = c.args.self.now in
    let count = c.span_end.result - p.time in
    let done = p.time - c.args.start in
    let from = c.requires.standing.from in
    let room = c.requires.standing.room in
    let few : done + count ≤ c.args.end - c.args.start = omega (arith, from, c.span_end.ensures.within, c.span_end.ensures.after) in
    let places : (done + count) * p.channels ≤ (c.args.end - c.args.start) * p.channels = mul-le (done + count) p.channels (c.args.end - c.args.start) p.channels few (omega arith) in
    omega (arith, places, room)

pub returns-then-self-end-clause-standing : goal.returns-then-self-end-clause-standing
returns-then-self-end-clause-standing c =
    let p = c.args.self.now in
    let q = c.play_span.new.self in
    let r = c.edit.new.self in
    let did = c.in_ok-play_span.ensures in
    let made = c.edit.ensures.same in
    let count = c.span_end.result - p.time in
    let time : r.time ≡ p.time + count = ap (λ (x : Playback). x.time) made ∙ did.time in
    let less = c.if-self-end.true in
    in_block_next p r c.args.start c.args.end count c.args.out.now c.play_span.new.out c.requires.standing c.requires.some time
    (omega (arith, c.span_end.ensures.within, c.span_end.ensures.after))
    (ap (λ (x : Playback). x.scene.value) made ∙ did.scene)
    (ap (λ (x : Playback). x.channels) made ∙ did.channels)
    (ap (λ (x : Playback). x.clips.items) made ∙ did.clips)
    c.play_span.auto.out
    (λ before. c.edit.ensures.at)
    (λ end. absurd (let q_time = did.time in omega (arith, end, time, q_time, less)))
    did.rest did.here

pub returns-else-self-end-clause-standing : goal.returns-else-self-end-clause-standing
returns-else-self-end-clause-standing c =
    let p = c.args.self.now in
    let q = c.play_span.new.self in
    let did = c.in_ok-play_span.ensures in
    let count = c.span_end.result - p.time in
    let past = c.if-self-end.false in
    in_block_next p q c.args.start c.args.end count c.args.out.now c.play_span.new.out c.requires.standing c.requires.some did.time
    (omega (arith, c.span_end.ensures.within, c.span_end.ensures.after))
    did.scene did.channels did.clips c.play_span.auto.out
    (λ before. absurd (omega (arith, before, past)))
    (λ end. did.before)
    did.rest did.here

pub returns-in_err-play_span-clause-standing : goal.returns-in_err-play_span-clause-standing
returns-in_err-play_span-clause-standing c =
    let p = c.args.self.now in
    let q = c.play_span.new.self in
    let did = c.in_err-play_span.ensures in
    in_block_still p q c.args.start c.args.end c.args.out.now c.play_span.new.out c.requires.standing c.requires.some did.same_time
    did.scene did.channels did.clips c.play_span.auto.out did.at did.rest

pub returns-in_err-play_span-clause-need : goal.returns-in_err-play_span-clause-need
returns-in_err-play_span-clause-need c =
    let p = c.args.self.now in
    let need = c.in_err-play_span.field-0.0 in
    let did = c.in_err-play_span.ensures in
    let e = err_from_is_err_and c.from_residual.result c.from_residual.ensures.1 in
    rw (e.1, e.2) (
      reads_before p.clips.items p.scene.value p.time p.time (p.time + (c.span_end.result - p.time)) c.args.end need.resource need.page (omega arith)
          (omega (arith, c.span_end.ensures.within, c.span_end.ensures.after)) did.need.0,
      did.need.1,
    )
