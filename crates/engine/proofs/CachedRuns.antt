-- Frames that are copied from those that are kept of a clip, and more of them that are kept.
use Rattle.std.proofs.Common.{◌≡◌, ℕ, ◌+◌, ◌*◌, ◌/◌, ◌%◌, ◌<◌, ◌≤◌, length, ◌∙◌, ap, subst, arith}
use Rattle.std.proofs.Math.Nat.{add-mul-div_left, add-mul-mod_self_left}
use Rattle.std.proofs.lemmas.Nat.{mul-le}
use Rattle.mix_fixed.specs.Kernels.{at, AreSamples}
use Rattle.scene_clips.specs.SceneClipData.{SceneClipData}
use Rattle.scene_clips.specs.ClipFrames.{clip_sample}
use Rattle.scene_clips.proofs.Copies.{samples_more}
use Rattle.engine.specs.Cached.{IsCached}
use Rattle.engine.specs.declared.kept_frames.KeptFrames.{KeptFrames}

pub cached_cell : (c : SceneClipData) (kept : KeptFrames) (from count j : ℕ) → IsCached c kept → from + count ≤ kept.frames → j < count * c.channels
    → at kept.cells.items (from * c.channels + j) ≡ clip_sample c.bytes c.rate c.channels (from + j / c.channels) (j % c.channels)
cached_cell c kept from count j is within below =
    let ch = c.channels in
    let split : from * ch + j ≡ j + ch * from = omega arith in
    let wide : (from + count) * ch ≡ from * ch + count * ch = omega arith in
    let most : (from + count) * ch ≤ kept.frames * ch = mul-le (from + count) ch kept.frames ch within (omega arith) in
    let frame : (from * ch + j) / ch ≡ from + j / ch = ap (λ x. x / ch) split ∙ add-mul-div_left j from is.channels_least ∙ omega arith in
    let channel : (from * ch + j) % ch ≡ j % ch = ap (λ x. x % ch) split ∙ add-mul-mod_self_left j ch from in
    is.cells_are (from * ch + j) (omega (arith, below, wide, most))
    ∙ ap (λ t. clip_sample c.bytes c.rate ch t ((from * ch + j) % ch)) frame ∙ ap (clip_sample c.bytes c.rate ch (from + j / ch)) channel

pub kept_more : (c : SceneClipData) (old new : KeptFrames) (count : ℕ) → IsCached c old → new.most ≡ old.most → new.frames ≡ old.frames + count → old.frames + count ≤ old.most
    → length new.cells.items ≡ length old.cells.items
    → ((j : ℕ) → j < old.frames * c.channels → at new.cells.items j ≡ at old.cells.items j)
    → ((j : ℕ) → j < count * c.channels → at new.cells.items (old.frames * c.channels + j) ≡ clip_sample c.bytes c.rate c.channels (old.frames + j / c.channels) (j % c.channels))
    → AreSamples new.cells.items → IsCached c new
kept_more c old new count is most frames within long before here range =
    let ch = c.channels in
    let few = is.few in
    let there = is.there in
    let wide = is.long in
    let room : new.most * ch ≡ old.most * ch = ap (λ m. m * ch) most in
    record {
      few = omega (arith, most, few);
      there = omega (arith, most, there);
      within = omega (arith, most, frames, within);
      channels_least = is.channels_least;
      channels_most = is.channels_most;
      long = omega (arith, long, wide, room);
      cells_are = λ j below.
          let none : 0 + j / ch ≡ j / ch = omega arith in
          let behind : old.frames ≡ 0 + old.frames = omega arith in
          let inside : j < (old.frames + count) * ch = subst (λ n. j < n * ch) frames below in
          subst (λ n. at new.cells.items j ≡ clip_sample c.bytes c.rate ch n (j % ch)) none
          (samples_more (λ n k v. v ≡ clip_sample c.bytes c.rate ch n k) 0 ch old.frames count old.cells.items new.cells.items before
          (λ i low. subst (λ n. at new.cells.items (old.frames * ch + i) ≡ clip_sample c.bytes c.rate ch (n + i / ch) (i % ch)) behind (here i low))
          (λ i low. let zero_on : i / ch ≡ 0 + i / ch = omega arith in subst (λ n. at old.cells.items i ≡ clip_sample c.bytes c.rate ch n (i % ch)) zero_on (is.cells_are i low))
          j inside);
      range = range;
    }
