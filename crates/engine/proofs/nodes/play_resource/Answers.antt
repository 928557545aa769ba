use Rattle.std.proofs.Common.{◌<◌, length, refl, sym, ◌∙◌, arith}
use Rattle.std.proofs.lemmas.Option.{slice_get_past}
use Rattle.scene_clips.specs.SceneClipData.{SceneClipData}
use Rattle.resource_mgr.proofs.Tapes.{laters_refl, laters_set}
use Rattle.engine.specs.Sounds.{IsPlayedAt}
use Rattle.engine.proofs.ResourceClips.{alike_at, missing_of, of_there, same_long, there_is}
use Rattle.engine.proofs.nodes.play_resource.Goals as goal

pub returns-then-k-clips-clause-tapes : goal.returns-then-k-clips-clause-tapes
returns-then-k-clips-clause-tapes c = laters_refl c.args.tapes.now

pub returns-then-k-clips-clause-played : goal.returns-then-k-clips-clause-played
returns-then-k-clips-clause-played c = rw (slice_get_past c.args.clips.now c.args.resource (omega (arith, c.if-k-clips.true))) tt

pub play-requires-clause-tape : goal.play-requires-clause-tape
play-requires-clause-tape c =
    alike_at c.args.tapes.now c.args.clips.now c.args.resource c.index-tapes-k.result c.index-clips-k.result c.requires.alike (omega (arith, c.if-k-clips.false))

pub play-requires-clause-cursor : goal.play-requires-clause-cursor
play-requires-clause-cursor c =
    (of_there (λ (x : SceneClipData). IsPlayedAt x c.args.cursor) c.args.clips.now c.args.resource c.index-clips-k.result (omega (arith, c.if-k-clips.false)) c.requires.clip).cursor_most

pub play-requires-clause-channels_least : goal.play-requires-clause-channels_least
play-requires-clause-channels_least c =
    (of_there (λ (x : SceneClipData). IsPlayedAt x c.args.cursor) c.args.clips.now c.args.resource c.index-clips-k.result (omega (arith, c.if-k-clips.false)) c.requires.clip).channels_least

pub play-requires-clause-channels_most : goal.play-requires-clause-channels_most
play-requires-clause-channels_most c =
    (of_there (λ (x : SceneClipData). IsPlayedAt x c.args.cursor) c.args.clips.now c.args.resource c.index-clips-k.result (omega (arith, c.if-k-clips.false)) c.requires.clip).channels_most

pub returns-in-Ok-clause-tapes : goal.returns-in-Ok-clause-tapes
returns-in-Ok-clause-tapes c = laters_set c.args.tapes.now c.args.resource c.index-tapes-k.result c.play.new.tape c.in-Ok.ensures.later

pub returns-in-Ok-clause-played : goal.returns-in-Ok-clause-played
returns-in-Ok-clause-played c = rw (there_is c.args.clips.now c.args.resource c.index-clips-k.result (omega (arith, c.if-k-clips.false))) c.in-Ok.ensures.played

pub returns-in-Ok-clause-silent : goal.returns-in-Ok-clause-silent
returns-in-Ok-clause-silent c = λ none.
    let some = sym none ∙ there_is c.args.clips.now c.args.resource c.index-clips-k.result (omega (arith, c.if-k-clips.false)) in
    absurd (cc)

pub returns-in-Err-clause-tapes : goal.returns-in-Err-clause-tapes
returns-in-Err-clause-tapes c = laters_set c.args.tapes.now c.args.resource c.index-tapes-k.result c.play.new.tape c.in-Err.ensures.missing.tape.later

pub returns-in-Err-clause-need : goal.returns-in-Err-clause-need
returns-in-Err-clause-need c =
    let inside : c.args.resource < length c.args.clips.now = omega (arith, c.if-k-clips.false) in
    let long = same_long c.args.tapes.now c.args.clips.now c.requires.alike in
    rw c.of_resource.ensures (
      refl,
      missing_of c.args.clips.now c.args.tapes.now c.args.looped c.args.cursor c.args.count c.args.resource c.index-clips-k.result c.index-tapes-k.result c.play.new.tape
          c.in-Err.missing.page c.in-Err.missing.shown inside (omega (arith, inside, long)) c.in-Err.ensures.missing,
    )
