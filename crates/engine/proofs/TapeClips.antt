-- The clips of tapes are those of their files.
use Rattle.std.proofs.Common.{◌≡◌, ℕ, List, [], ◌∷◌, map, refl, sym, ◌∙◌, ap}
use Rattle.std.proofs.lemmas.Simd.{map-map}
use Rattle.clip_decode.specs.ClipData.{ClipData}
use Rattle.scene_clips.specs.SceneClipData.{SceneClipData}
use Rattle.scene_model.specs.SceneData.{SceneData}
use Rattle.resource_mgr.specs.Tapes.{clip_of, files_of}
use Rattle.resource_mgr.specs.declared.tape.Tape.{Tape}
use Rattle.mix_model.specs.Mix.{clips_of}
use Rattle.engine.specs.TapeClips.{clip_of_tape}

clips_made : (s : SceneData) (tapes : List Tape) → map (clip_of_tape s.rate s.channels) tapes ≡ clips_of s (files_of tapes)
clips_made s [] = refl
clips_made s (t ∷ tapes) = ap (λ (xs : List SceneClipData). clip_of_tape s.rate s.channels t ∷ xs) (clips_made s tapes)

pub clips_are : (s q : SceneData) (tapes : List Tape) (clips : List SceneClipData) → q ≡ s → clips ≡ map (clip_of_tape q.rate q.channels) tapes → clips ≡ clips_of s (files_of tapes)
clips_are s q tapes clips same is = is ∙ ap (λ (x : SceneData). map (clip_of_tape x.rate x.channels) tapes) same ∙ clips_made s tapes

files_kept : (s : SceneData) (files : List (List ℕ)) → map (λ (c : SceneClipData). c.bytes) (clips_of s files) ≡ files
files_kept s [] = refl
files_kept s (file ∷ files) = ap (λ fs. file ∷ fs) (files_kept s files)

pub files_are : (s : SceneData) (tapes : List Tape) (clips : List SceneClipData) → clips ≡ clips_of s (files_of tapes) → files_of tapes ≡ map (λ (c : SceneClipData). c.bytes) clips
files_are s tapes clips is = sym (ap (map (λ (c : SceneClipData). c.bytes)) is ∙ files_kept s (files_of tapes))

pub whole_files : (clips : List ClipData) (tapes : List Tape) → map clip_of tapes ≡ clips → files_of tapes ≡ map (λ (c : ClipData). c.bytes) clips
whole_files clips tapes are = sym (map-map (λ (c : ClipData). c.bytes) clip_of tapes) ∙ ap (map (λ (c : ClipData). c.bytes)) are
