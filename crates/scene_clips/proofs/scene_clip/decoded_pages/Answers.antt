use Rattle.std.proofs.Common.{◌≡◌, ◌∙◌, ap, arith}
use Rattle.clip_decode.specs.Pages.{page_count}
use Rattle.scene_clips.proofs.FilePages.{frames_counted}
use Rattle.scene_clips.proofs.scene_clip.decoded_pages.Goals as goal

pub returns : goal.returns
returns c =
    let bytes = c.args.clip.now.bytes in
    let w = c.args.clip.now.wave in
    let end : c.pages-end.result ≡ page_count w.frames = c.pages-end.ensures ∙ ap (λ v. page_count v.frames) c.wave.ensures.value in
    rw (frames_counted bytes w c.wave.ensures.surveyed)
    (λ k below. c.loop.invariant.there k (omega (arith, below, end, c.loop-test.false)))
