use Rattle.std.proofs.Common.{◌≤◌, ◌∙◌, ◌++◌, ◌∷◌, [], All, map, length, sym, ap, subst}
use Rattle.std.proofs.lemmas.List.{map-append}
use Rattle.std.proofs.lemmas.List.Elements.{All-tail, All-push}
use Rattle.clip_decode.specs.ClipData.{ClipData}
use Rattle.clip_decode.specs.Limits.{most_sound_bytes}
use Rattle.exec_reel.specs.ClipPages.{page_total}
use Rattle.resource_mgr.specs.Tapes.{AreShown, clip_of, shown_to}
use Rattle.resource_mgr.specs.declared.tape.Tape.{Tape}
use Rattle.engine.proofs.rendering.tapes_of.Goals as goal

pub loop-clip-preserved : goal.loop-clip-preserved
loop-clip-preserved c =
    let tapes = c.loop-clip.tapes.items in
    let clips = c.loop-clip.yielded in
    let tape = c.in_ok-whole.field-0 in
    let is = c.in_ok-whole.ensures in
    record {
      short = All-tail (λ (x : ClipData). length x.bytes ≤ most_sound_bytes) _ _ (subst (All (λ (x : ClipData). length x.bytes ≤ most_sound_bytes)) c.in-Some.ensures.steps.0 c.loop-clip.invariant.short);
      made = ap (map clip_of) c.in_ok-push.ensures.items
          ∙ map-append clip_of tapes (tape ∷ [])
          ∙ ap (λ made. made ++ clip_of tape ∷ []) c.loop-clip.invariant.made
          ∙ ap (λ (x : ClipData). clips ++ x ∷ []) is.clip_is;
      shown = subst AreShown (sym c.in_ok-push.ensures.items)
          (All-push (λ (t : Tape). page_total (clip_of t) ≤ shown_to t) tapes tape c.loop-clip.invariant.shown (subst (λ (x : ClipData). page_total x ≤ shown_to tape) (sym is.clip_is) is.whole));
    }
