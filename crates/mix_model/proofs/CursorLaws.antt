-- A cursor that stays where it is, and one that goes on at each frame.
use Rattle.std.proofs.Common.{◌≡◌, ℕ, zero, suc, ◌+◌, ◌%◌, ◌<◌, Bool, true, false, List, refl, sym, ◌∙◌, ap, arith}
use Rattle.std.specs.Prelude.{fold, min, nat_lt, if◌then◌else◌}
use Rattle.std.proofs.Math.Nat.{suc-mod, mod_self, mod-eq_of_lt, mod-lt}
use Rattle.std.proofs.lemmas.Bool.{ltb-true, ltb-false}
use Rattle.scene_clips.specs.SceneClipData.{SceneClipData}
use Rattle.scene_model.specs.SceneData.{SceneData}
use Rattle.scene_model.specs.Times.{edits_at, plan}
use Rattle.mix_model.specs.Laws.{NoneSeeks, PlaysOn}
use Rattle.mix_model.specs.Mix.{node_frames, cursor_after_edit, next_frame, cursor_before, cursor}
use Rattle.mix_model.specs.Pulled.{node, pulled}
use Rattle.mix_model.proofs.Frames.{cursor_more}
use Rattle.mix_model.proofs.SceneLaws.{cursor_after_edit_all}

pub stays : (clips : List SceneClipData) (s : SceneData) (n t : ℕ) → pulled (plan s t) t n ≡ false → NoneSeeks n (edits_at s.edits (t + 1)) → cursor clips s n (t + 1) ≡ cursor clips s n t
stays clips s n t still none =
    let frames = node_frames clips s n in
    cursor_after_edit_all n frames (cursor_before clips s n (t + 1)) (edits_at s.edits (t + 1)) none
    ∙ cursor_more clips s n t
    ∙ ap (λ (b : Bool). if b then next_frame frames (node (plan s t) n).looped (cursor clips s n t) else cursor clips s n t) still

-- places that begin at 0 and of which each is the next frame of the one before
goes : (clips : List SceneClipData) (s : SceneData) (n : ℕ) (looped : Bool) (place : ℕ → ℕ) → 0 ≡ place 0 → ((t : ℕ) → next_frame (node_frames clips s n) looped (place t) ≡ place (suc t))
    → (t : ℕ) → ((u : ℕ) → u < t → NoneSeeks n (edits_at s.edits u)) → ((u : ℕ) → u < t → pulled (plan s u) u n ≡ true) → ((u : ℕ) → u < t → (node (plan s u) n).looped ≡ looped)
    → cursor_before clips s n t ≡ place t
unfolding cursor_before
goes clips s n looped place start next zero none pulls loops = start
goes clips s n looped place start next (suc t) none pulls loops =
    let frames = node_frames clips s n in
    let c = fold (cursor_after_edit n frames) (cursor_before clips s n t) (edits_at s.edits t) in
    let rest = goes clips s n looped place start next t (λ u below. none u (omega arith)) (λ u below. pulls u (omega arith)) (λ u below. loops u (omega arith)) in
    ap (λ (b : Bool). if b then next_frame frames (node (plan s t) n).looped c else c) (pulls t (omega arith))
    ∙ ap (λ l. next_frame frames l c) (loops t (omega arith))
    ∙ ap (next_frame frames looped) (cursor_after_edit_all n frames (cursor_before clips s n t) (edits_at s.edits t) (none t (omega arith)) ∙ rest)
    ∙ next t

goes_on : (clips : List SceneClipData) (s : SceneData) (n t : ℕ) (looped : Bool) (place : ℕ → ℕ) → 0 ≡ place 0 → ((k : ℕ) → next_frame (node_frames clips s n) looped (place k) ≡ place (suc k)) → PlaysOn s n t looped → cursor clips s n t ≡ place t
goes_on clips s n t looped place start next plays =
    cursor_after_edit_all n (node_frames clips s n) (cursor_before clips s n t) (edits_at s.edits t) (plays.not_sought t (omega arith))
    ∙ goes clips s n looped place start next t (λ u below. plays.not_sought u (omega arith)) plays.is_pulled plays.looped_is

once_more : (frames t : ℕ) → next_frame frames false (min t frames) ≡ min (suc t) frames
once_more frames t = by_test (nat_lt (min t frames + 1) frames) refl
  where
    by_test : (b : Bool) → nat_lt (min t frames + 1) frames ≡ b → (if b then min t frames + 1 else frames) ≡ min (suc t) frames
    by_test true is = let less = ltb-true (min t frames + 1) frames is in omega arith
    by_test false is = let least = ltb-false (min t frames + 1) frames is in omega arith

pub around : (frames t : ℕ) → 0 < frames → next_frame frames true (t % frames) ≡ suc t % frames
around frames t some = by_test (nat_lt (t % frames + 1) frames) refl
  where
    by_test : (b : Bool) → nat_lt (t % frames + 1) frames ≡ b → (if b then t % frames + 1 else 0) ≡ suc t % frames
    by_test true is =
        let less = ltb-true (t % frames + 1) frames is in
        let same : t % frames + 1 ≡ suc (t % frames) = omega arith in
        same ∙ sym (suc-mod t frames ∙ mod-eq_of_lt (omega arith))
    by_test false is =
        let least = ltb-false (t % frames + 1) frames is in
        let below = mod-lt t some in
        let whole : suc (t % frames) ≡ frames = omega arith in
        sym (suc-mod t frames ∙ ap (λ k. k % frames) whole ∙ mod_self frames)

pub plays_once : (clips : List SceneClipData) (s : SceneData) (n t : ℕ) → PlaysOn s n t false → cursor clips s n t ≡ min t (node_frames clips s n)
plays_once clips s n t plays =
    goes_on clips s n t false (λ k. min k (node_frames clips s n)) (omega arith) (once_more (node_frames clips s n)) plays

pub plays_around : (clips : List SceneClipData) (s : SceneData) (n t : ℕ) → PlaysOn s n t true → 0 < node_frames clips s n → cursor clips s n t ≡ t % node_frames clips s n
plays_around clips s n t plays some =
    let frames = node_frames clips s n in
    goes_on clips s n t true (λ k. k % frames) (sym (mod-eq_of_lt some)) (λ k. around frames k some) plays
