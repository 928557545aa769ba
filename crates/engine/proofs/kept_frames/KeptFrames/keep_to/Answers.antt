use Rattle.std.proofs.Common.{◌≡◌, ◌∙◌, ◌+◌, ◌-◌, ◌*◌, length, refl, sym, ap, subst, arith}
use Rattle.std.specs.Vec.{with_items}
use Rattle.std.proofs.lemmas.List.{with_items_is}
use Rattle.mix_fixed.specs.Kernels.{at, AreSamples}
use Rattle.scene_clips.specs.FilePages.{pages_to}
use Rattle.resource_mgr.proofs.Tapes.{same_bytes}
use Rattle.engine.proofs.CachedRuns.{kept_more}
use Rattle.engine.proofs.GivenPages.{given_there}
use Rattle.engine.proofs.kept_frames.KeptFrames.keep_to.Goals as goal

pub write_frames-requires-clause-there : goal.write_frames-requires-clause-there
write_frames-requires-clause-there c = λ n below.
    let clip = c.args.clip.now in
    let t = c.fetch.new.tape in
    given_there t clip.bytes c.given.result.now (pages_to clip.bytes clip.rate n)
    (same_bytes c.args.tape.now t c.in_ok-fetch.ensures.later ∙ c.requires.tape) c.given.ensures
    (c.in_ok-fetch.ensures.there n (omega (arith, below, c.if-end-first.false)))

pub returns-clause-kept : goal.returns-clause-kept
returns-clause-kept c =
    let clip = c.args.clip.now in
    let old = c.args.self.now in
    let new = c.write_frames.new.cells in
    let value = c.as_mut_slice-cells.ensures.value in
    let cells : (with_items old.cells new).items ≡ new = with_items_is old.cells new (omega (arith, c.write_frames.auto.cells, c.as_mut_slice-cells.ensures.len)) in
    kept_more clip old _ (c.args.end - old.frames) c.requires.kept refl (omega (arith, c.if-end-first.false)) (omega (arith, c.if-end-first.false, c.requires.room))
    (ap length cells ∙ c.write_frames.auto.cells ∙ ap length value)
    (λ j below. ap (λ xs. at xs j) cells ∙ c.write_frames.ensures.before j below ∙ ap (λ xs. at xs j) value)
    (λ j below. ap (λ xs. at xs (old.frames * clip.channels + j)) cells ∙ c.write_frames.ensures.here j below)
    (subst AreSamples (sym cells) c.write_frames.ensures.range)
