use Rattle.std.proofs.Common.{◌≡◌, ℕ, ◌+◌, ◌*◌, ◌<◌, List, length, refl, sym, ◌∙◌, ap, subst, arith}
use Rattle.std.specs.Prelude.{slice_index}
use Rattle.std.proofs.lemmas.Result.{err_from_is_err_and}
use Rattle.scene_model.specs.PlanData.{PlanData}
use Rattle.resource_mgr.proofs.Tapes.{laters_refl, laters_trans}
use Rattle.engine.specs.declared.playback.Playback.{Playback}
use Rattle.engine.specs.Nodes.{AreKept, IsSpanOf}
use Rattle.engine.specs.Room.{IsRoomFor}
use Rattle.engine.specs.Span.{Span}
use Rattle.engine.proofs.Needed.{needed_before}
use Rattle.engine.proofs.StillPlayable.{marks_too, playable_still}
use Rattle.engine.proofs.playback.Playback.render_nodes.Goals as goal

pub loop-k-init : goal.loop-k-init
loop-k-init c = record {
  same = refl;
  clips = refl;
  tapes = laters_refl c.args.self.now.tapes.items;
  room = c.requires.playable.room_is;
  kept = λ s span k below. absurd (omega (arith, below));
}

pub render_next-requires-clause-playable : goal.render_next-requires-clause-playable
render_next-requires-clause-playable c =
    let now = c.loop-k.invariant in
    playable_still c.args.self.now c.loop-k.self c.requires.playable (marks_too c.args.self.now c.loop-k.self now.same) now.clips now.tapes now.room

pub returns-in_err-render_next-clause-tapes : goal.returns-in_err-render_next-clause-tapes
returns-in_err-render_next-clause-tapes c =
    laters_trans c.args.self.now.tapes.items c.loop-k.self.tapes.items c.render_next.new.self.tapes.items c.loop-k.invariant.tapes c.in_err-render_next.ensures.tapes

pub returns-in_err-render_next-clause-need : goal.returns-in_err-render_next-clause-need
returns-in_err-render_next-clause-need c =
    let now = c.loop-k.invariant in
    let need = c.in_err-render_next.field-0.0 in
    let e = err_from_is_err_and c.from_residual.result c.from_residual.ensures.1 in
    rw (e.1, e.2)
    (needed_before c.args.self.now c.loop-k.self c.render_next.new.self.tapes.items c.args.count need.resource need.page need.shown now.same now.clips now.tapes c.in_err-render_next.ensures.need)

pub loop-k-preserved : goal.loop-k-preserved
loop-k-preserved c =
    let p = c.args.self.now in
    let q = c.loop-k.self in
    let new = c.render_next.new.self in
    let count = c.args.count in
    let now = c.loop-k.invariant in
    let did = c.in_ok-render_next.ensures in
    let n = slice_index c.as_slice.result.now c.loop-k.k in
    let here : slice_index q.order.items c.loop-k.k ≡ n = ap (λ (xs : List ℕ). slice_index xs c.loop-k.k) (sym c.as_slice.ensures.value) in
    let order : q.order.items ≡ p.order.items = ap (λ (x : Playback). x.order.items) now.same in
    let next = subst (λ (x : Playback). (s : Span) (k : ℕ) → IsSpanOf s x count → k < length x.order.items → slice_index x.order.items k ≡ n
    → AreKept s (count * x.channels) k x.order.items x.room.kept.items → AreKept s (count * x.channels) (k + 1) x.order.items new.room.kept.items) now.same did.next in
    record {
      same = did.same ∙ ap (λ (x : Playback). record x { room = new.room; clips = new.clips; tapes = new.tapes }) now.same;
      clips = did.clips ∙ now.clips;
      tapes = laters_trans p.tapes.items q.tapes.items new.tapes.items now.tapes did.tapes;
      room = subst (λ (x : PlanData). IsRoomFor x new.room) (ap (λ (x : Playback). x.stage) now.same) did.room;
      kept = λ s span. next s c.loop-k.k
          (record {
            plan_is = span.plan_is;
            time_is = span.time_is;
            channels_are = span.channels_are;
            steady = span.steady;
            clips_are = span.clips_are ∙ sym now.clips;
            cursors_are = span.cursors_are;
            frames_are = span.frames_are;
          })
          (omega (arith, c.loop-k-test.true, c.len-k-end.ensures)) (sym (ap (λ (xs : List ℕ). slice_index xs c.loop-k.k) order) ∙ here) (now.kept s span);
    }
