use Rattle.std.proofs.Common.{◌≡◌, ◌+◌, ◌-◌, ◌*◌, ◌≤◌, ℤ, List, length, ◌∙◌, ap, arith}
use Rattle.std.specs.Prelude.{Result, Ok, Err, OnOk}
use Rattle.std.specs.Vec.{with_items}
use Rattle.std.proofs.lemmas.List.{with_items_is}
use borrow.Rule.Slice.PartMut.{put_mid, same_len_mid}
use Rattle.mix_fixed.specs.Kernels.{at}
use Rattle.scene_clips.proofs.Middle.{mid_inside}
use Rattle.engine.specs.Span.{kept_at}
use Rattle.engine.proofs.Middle.{mid_long}
use Rattle.engine.proofs.NodesKept.{few_places, kept_place}
use Rattle.engine.proofs.room.Room.play.Goals as goal

on_ok : {T E A B : Type 0} (r : Result T E) → (A → B) → OnOk r A → OnOk r B
on_ok (Ok x) f is = f is
on_ok (Err e) f is = is

pub returns-clause-played : goal.returns-clause-played
returns-clause-played c = on_ok c.play_sound.result (λ played j below.
    let n = c.args.n in
    let a = n * 1024 in
    let k = n * 1024 + 1024 - n * 1024 in
    let clip = c.args.clip.now in
    let old = c.as_mut_slice.result.now in
    let part = c.play_sound.new.out in
    let new = put_mid a k old part in
    let within : a + k ≤ length old = omega (arith, c.requires.room, ap (λ (xs : List ℤ). length xs) c.as_mut_slice.ensures.value) in
    let long : length part ≡ k = mid_long a k old part within c.play_sound.auto.out in
    let few = few_places c.args.frames clip.channels c.requires.few c.requires.channels_most in
    let items : (with_items c.args.self.now.kept new).items ≡ new = with_items_is c.args.self.now.kept new (omega (arith, same_len_mid a k old part c.play_sound.auto.out, c.as_mut_slice.ensures.len)) in
    ap (λ (xs : List ℤ). at (kept_at xs n) j) items
    ∙ kept_place new n j
    ∙ mid_inside a k old part j (omega (arith, within)) (omega (arith, below, few, long))
    ∙ played j below) c.play_sound.ensures.played
