-- The samples of a block, span after span.
use Rattle.std.proofs.Common.{◌≡◌, ◌⊎◌, inl, inr, ℕ, ◌+◌, ◌-◌, ◌*◌, ◌/◌, ◌%◌, ◌<◌, ◌≤◌, ℤ, List, sym, ◌∙◌, ap, subst, arith}
use Rattle.std.proofs.Math.Nat.{add-mul-div_left, add-mul-mod_self_left}
use Rattle.std.proofs.lemmas.Bool.{cases_lt}
use Rattle.mix_fixed.specs.Kernels.{at}
use Rattle.scene_clips.specs.SceneClipData.{SceneClipData}
use Rattle.scene_model.specs.SceneData.{SceneData}
use Rattle.scene_model.specs.Times.{plan}
use Rattle.mix_model.specs.Mix.{frame_state}
use Rattle.mix_model.specs.Pulled.{endpoint}
use Rattle.mix_model.specs.Signals.{input}

-- the endpoint's input at a frame, in a channel
abbrev pub heard_at : List SceneClipData → SceneData → ℕ → ℕ → ℤ
heard_at clips s t channel = input (frame_state clips s t) channel (endpoint (plan s t))

-- these are the samples of so many frames from frame t on, behind `done` frames
abbrev pub AreHeard : List SceneClipData → SceneData → ℕ → ℕ → ℕ → ℕ → List ℤ → Type 0
AreHeard clips s t channels done count xs = (j : ℕ) → j < count * channels → at xs (done * channels + j) ≡ heard_at clips s (t + j / channels) (j % channels)

pub same_heard : (clips clips' : List SceneClipData) (s s' : SceneData) (t channels channels' done count : ℕ) (xs : List ℤ) → clips ≡ clips' → s ≡ s' → channels ≡ channels'
    → AreHeard clips s t channels done count xs → AreHeard clips' s' t channels' done count xs
same_heard clips clips' s s' t channels channels' done count xs of_clips of_scene of_channels are =
    subst (λ k. AreHeard clips' s' t k done count xs) of_channels (subst (λ (x : SceneData). AreHeard clips' x t channels done count xs) of_scene (subst (λ (cs : List SceneClipData). AreHeard cs s t channels done count xs) of_clips are))

pub heard_more : (clips : List SceneClipData) (s : SceneData) (from t channels done count : ℕ) (old new : List ℤ) → 0 < channels → t ≡ from + done
    → ((j : ℕ) → j < done * channels → at new j ≡ at old j) → AreHeard clips s t channels done count new
    → ((j : ℕ) → j < done * channels → at old j ≡ heard_at clips s (from + j / channels) (j % channels))
    → (j : ℕ) → j < (done + count) * channels → at new j ≡ heard_at clips s (from + j / channels) (j % channels)
heard_more clips s from t channels done count old new some here before are olds j below = by_place (cases_lt j (done * channels))
  where
    there : (k : ℕ) → k < count * channels → done * channels + k ≡ j → at new j ≡ heard_at clips s (from + j / channels) (j % channels)
    there k inside e =
        let split : j ≡ k + channels * done = omega (arith, e) in
        let frame : from + j / channels ≡ t + k / channels = let q : j / channels ≡ k / channels + done = ap (λ x. x / channels) split ∙ add-mul-div_left k done some in omega (arith, q, here) in
        let channel : j % channels ≡ k % channels = ap (λ x. x % channels) split ∙ add-mul-mod_self_left k channels done in
        ap (at new) (sym e) ∙ are k inside ∙ sym (ap (λ u. heard_at clips s u (j % channels)) frame ∙ ap (heard_at clips s (t + k / channels)) channel)

    by_place : (j < done * channels) ⊎ (done * channels ≤ j) → at new j ≡ heard_at clips s (from + j / channels) (j % channels)
    by_place (inl less) = before j less ∙ olds j less
    by_place (inr past) =
        let wide : (done + count) * channels ≡ done * channels + count * channels = omega arith in
        there (j - done * channels) (omega (arith, below, wide, past)) (omega (arith, past))
