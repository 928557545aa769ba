use Rattle.std.proofs.Common.{◌≡◌, ◌+◌, ◌*◌, length, sym, ◌∙◌, ap, subst, arith}
use Rattle.scene_model.specs.PlanData.{PlanData}
use Rattle.mix_fixed.specs.Kernels.{at}
use Rattle.mix_model.specs.Pulled.{endpoint}
use Rattle.engine.specs.declared.playback.Playback.{Playback}
use Rattle.engine.specs.Nodes.{AreKept}
use Rattle.engine.specs.Span.{AreInputs, input_at}
use Rattle.engine.proofs.StillPlayable.{span_still, still_marked, still_mixed, still_playable, still_rendered}
use Rattle.engine.proofs.playback.Playback.render_span.Goals as goal

pub mix_endpoint-requires-clause-playable : goal.mix_endpoint-requires-clause-playable
mix_endpoint-requires-clause-playable c =
    let did = c.in_ok-render_nodes.ensures in
    still_playable c.args.self.now c.render_nodes.new.self c.requires.playable
    (still_rendered c.args.self.now c.mark.new.self c.render_nodes.new.self c.mark.ensures.same did.same did.clips did.tapes did.room)

pub advance-requires-clause-playable : goal.advance-requires-clause-playable
advance-requires-clause-playable c =
    let did = c.in_ok-render_nodes.ensures in
    still_playable c.args.self.now c.mix_endpoint.new.self c.requires.playable
    (still_mixed c.args.self.now c.render_nodes.new.self c.mix_endpoint.new.self
    (still_rendered c.args.self.now c.mark.new.self c.render_nodes.new.self c.mark.ensures.same did.same did.clips did.tapes did.room)
    c.mix_endpoint.ensures.same c.mix_endpoint.ensures.room)

pub returns-clause-here : goal.returns-clause-here
returns-clause-here c = λ s span j below.
    let p = c.args.self.now in
    let m = c.mark.new.self in
    let q = c.render_nodes.new.self in
    let e = c.mix_endpoint.new.self in
    let count = c.args.count in
    let did = c.in_ok-render_nodes.ensures in
    let still = still_rendered p m q c.mark.ensures.same did.same did.clips did.tapes did.room in
    let mixed = still_mixed p q e still c.mix_endpoint.ensures.same c.mix_endpoint.ensures.room in
    let kept_m = did.kept s (span_still s p m count (still_marked p m c.requires.playable c.mark.ensures.same) span) in
    let kept = subst (λ (x : Playback). AreKept s (count * x.channels) (length x.order.items) x.order.items q.room.kept.items) (sym did.same) kept_m in
    let inputs : AreInputs s (count * q.channels) (endpoint q.stage) e.room.samples.items = c.mix_endpoint.ensures.inputs s (span_still s p q count still span) kept in
    let of_q : q.channels ≡ p.channels = ap (λ (x : Playback). x.channels) still.same in
    let of_e : e.channels ≡ p.channels = ap (λ (x : Playback). x.channels) mixed.same in
    let wide_q : count * q.channels ≡ count * p.channels = ap (λ k. count * k) of_q in
    let wide_e : count * e.channels ≡ count * p.channels = ap (λ k. count * k) of_e in
    ap (λ k. at c.put_front.new.out (c.args.done * k + j)) (sym of_e)
    ∙ c.put_front.ensures.here j (omega (arith, below, wide_e))
    ∙ ap (λ xs. at xs j) c.as_slice.ensures.value
    ∙ inputs j (omega (arith, below, wide_q))
    ∙ ap (λ (x : PlanData). input_at s (endpoint x) j) (ap (λ (x : Playback). x.stage) still.same)
