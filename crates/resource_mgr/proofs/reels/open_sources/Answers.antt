use Rattle.std.proofs.Common.{◌∙◌, ◌++◌, ◌∷◌, [], ◌≤◌, All, length, map, sym, ap, subst}
use Rattle.std.proofs.lemmas.List.{map-append}
use Rattle.std.proofs.lemmas.List.Elements.{All-push, All-same, All-tail}
use Rattle.clip_decode.specs.ClipData.{ClipData}
use Rattle.clip_decode.specs.Limits.{most_sound_bytes}
use Rattle.resource_mgr.specs.PageOrder.{ReelPages, IsDrawnTo, pages_of_source, pages_of_tape}
use Rattle.resource_mgr.specs.Tapes.{clip_of}
use Rattle.resource_mgr.proofs.reels.open_sources.Goals as goal

pub loop-clip-preserved : goal.loop-clip-preserved
loop-clip-preserved c =
    let clips = c.loop-clip.yielded in
    let sources = c.loop-clip.sources.items in
    let tapes = c.loop-clip.tapes.items in
    let source = c.in_ok-source.source in
    let tape = c.in_ok-source.tape in
    let e = c.in_ok-source.ensures in
    let one = c.in_ok-push.ensures.items in
    let other = c.in_ok-push-2.ensures.items in
    record {
      short = All-tail (λ (x : ClipData). length x.bytes ≤ most_sound_bytes) _ _ (subst (All (λ (x : ClipData). length x.bytes ≤ most_sound_bytes)) c.in-Some.ensures.steps.0 c.loop-clip.invariant.short);
      made = ap (map clip_of) other ∙ map-append clip_of tapes (tape ∷ [])
          ∙ ap (λ xs. xs ++ clip_of tape ∷ []) c.loop-clip.invariant.made
          ∙ ap (λ (x : ClipData). clips ++ x ∷ []) e.clip;
      pages = ap (map pages_of_source) one ∙ map-append pages_of_source sources (source ∷ [])
          ∙ ap (λ xs. xs ++ pages_of_source source ∷ []) c.loop-clip.invariant.pages
          ∙ ap (λ (x : ReelPages). map pages_of_tape tapes ++ x ∷ []) e.pages
          ∙ sym (ap (map pages_of_tape) other ∙ map-append pages_of_tape tapes (tape ∷ []));
      drawn = All-same (IsDrawnTo 0) _ _ one (All-push (IsDrawnTo 0) sources source c.loop-clip.invariant.drawn e.drawn);
    }
