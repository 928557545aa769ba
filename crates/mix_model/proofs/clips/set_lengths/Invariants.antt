use Rattle.std.proofs.Common.{◌≡◌, ◌<◌, ◌≤◌, ℕ, List}
use Rattle.std.specs.Prelude.{slice_index}
use Rattle.scene_clips.specs.SceneClipData.{SceneClipData}
use Rattle.mix_model.specs.Mix.{AreFramesOf, node_frames}
use Rattle.mix_model.proofs.clips.set_lengths.Given as goal

abbrev pub invariant-loop-n : goal.invariant-loop-n
invariant-loop-n l = record {
  set : (clips : List SceneClipData) → AreFramesOf clips l.frames → (k : ℕ) → k < l.n → slice_index l.lengths k ≡ node_frames clips l.fn.scene k;
  rest : (k : ℕ) → l.n ≤ k → slice_index l.lengths k ≡ 0;
}
