-- Frames that follow one another, and what is written of them.
use Rattle.std.proofs.Common.{◌≡◌, ℕ, zero, suc, ◌+◌, ◌-◌, ◌%◌, ◌≤◌, ℤ, List, [], ◌∷◌, ◌++◌, map, replicate, refl, sym, ◌∙◌, ap, subst, append-nil, arith}
use Rattle.std.specs.Prelude.{All, Option, None, Some}
use Rattle.std.specs.List.{range_with_len}
use Rattle.std.specs.Option.{option_map}
use Rattle.std.proofs.lemmas.List.Concat.{flat_map-append}
use Rattle.std.proofs.lemmas.List.Elements.{All-append}
use Rattle.std.proofs.lemmas.List.FromFn.{length-map-range_with_len}
use Rattle.plain_data.proofs.Lists.{map_range-join}
use Rattle.mix_fixed.specs.Sound.{Is24, sat24}
use Rattle.clip_decode.specs.Frames.{interleaved}
use Rattle.scene_clips.specs.SceneClipData.{SceneClipData}
use Rattle.scene_model.specs.SceneData.{SceneData}
use Rattle.snd_io.specs.Answers.{IsPrefix, Writes}
use Rattle.snd_io.proofs.RunLemmas.{writes-then, writes-failed, writes-out_of_memory}
use Rattle.wave_write.specs.Header.{header, data_bytes}
use Rattle.wave_write.specs.Samples.{packed_sample, packed}
use Rattle.mix_model.specs.declared.blocks.Blocks.{Blocks}
use Rattle.mix_model.specs.declared.mix_fault.MixFault.{MixFault}
use Rattle.mix_model.specs.declared.mix_fault.MixFault.TheVariants.{SinkFault, OutOfMemory as NoMemory}
use Rattle.mix_model.specs.Mix.{frame_state, clips_of, frames_from, mix}
use Rattle.mix_model.specs.Output.{padding, wav}
use Rattle.mix_model.specs.Pulled.{endpoint}
use Rattle.mix_model.specs.Rendering.{data_of, frames_before, fault_answer}
use Rattle.mix_model.specs.Signals.{FrameState, input, frame}
use Rattle.mix_model.specs.Iteration.{iterate}

-- ---- frames that follow one another

pub frames-join : (clips : List SceneClipData) (s : SceneData) (t m n : ℕ) → frames_from clips s t (m + n) ≡ frames_from clips s t m ++ frames_from clips s (t + m) n
frames-join clips s t m n = map_range-join (λ (k : ℕ). frame (frame_state clips s k) s.channels) t m n

pub samples-join : (clips : List SceneClipData) (s : SceneData) (t count later : ℕ) → later ≡ t + count → interleaved (frames_from clips s 0 later) ≡ interleaved (frames_from clips s 0 t) ++ interleaved (frames_from clips s t count)
unfolding interleaved
samples-join clips s t count later e =
    let start : 0 + t ≡ t = omega arith in
    ap (λ k. interleaved (frames_from clips s 0 k)) e
    ∙ ap interleaved (frames-join clips s 0 t count)
    ∙ flat_map-append (λ (xs : List ℤ). xs) (frames_from clips s 0 t) (frames_from clips s (0 + t) count)
    ∙ ap (λ k. interleaved (frames_from clips s 0 t) ++ interleaved (frames_from clips s k count)) start

pub data-join : (clips : List SceneClipData) (s : SceneData) (t count later : ℕ) → later ≡ t + count → data_of s (frames_from clips s 0 later) ≡ data_of s (frames_from clips s 0 t) ++ data_of s (frames_from clips s t count)
data-join clips s t count later e =
    ap (packed s.width) (samples-join clips s t count later e)
    ∙ flat_map-append (packed_sample s.width) (interleaved (frames_from clips s 0 t)) (interleaved (frames_from clips s t count))

-- what was written so far is a prefix of all
pub data_rest : (s : SceneData) (clips : List SceneClipData) (b : Blocks) → b.player.clips.items ≡ clips → b.player.time ≤ s.length → IsPrefix (data_of s (frames_before s b)) (data_of s (frames_from clips s 0 s.length))
data_rest s clips b same within = (
  data_of s (frames_from clips s b.player.time (s.length - b.player.time)),
  data-join clips s b.player.time (s.length - b.player.time) s.length (omega arith)
      ∙ ap (λ cs. data_of s (frames_from cs s 0 b.player.time) ++ data_of s (frames_from clips s b.player.time (s.length - b.player.time))) (sym same),
)

-- ---- the samples have 24 bits

sat24_range : (x : ℤ) → Is24 (sat24 x)
sat24_range x = record { low = grind arith; high = grind arith }

input_24 : (m : FrameState) (channel n : ℕ) → Is24 (input m channel n)
unfolding input iterate
input_24 m channel n = sat24_range _

frame_24 : (m : FrameState) (channels : List ℕ) → All Is24 (map (λ channel. input m channel (endpoint m.plan)) channels)
frame_24 m [] k d inside = absurd (omega arith)
frame_24 m (c ∷ channels) zero d inside = input_24 m c (endpoint m.plan)
frame_24 m (c ∷ channels) (suc k) d inside = frame_24 m channels k d (omega arith)

frames_24 : (clips : List SceneClipData) (s : SceneData) (ts : List ℕ) → All Is24 (interleaved (map (λ t. frame (frame_state clips s t) s.channels) ts))
unfolding interleaved
frames_24 clips s [] = λ k d inside. absurd (omega arith)
frames_24 clips s (t ∷ ts) =
    All-append Is24 (frame (frame_state clips s t) s.channels) (interleaved (map (λ t. frame (frame_state clips s t) s.channels) ts)) (frame_24 (frame_state clips s t) (range_with_len 0 s.channels)) (frames_24 clips s ts)

pub samples_24 : (clips : List SceneClipData) (s : SceneData) (from count : ℕ) → All Is24 (interleaved (frames_from clips s from count))
samples_24 clips s from count = frames_24 clips s (range_with_len from count)

-- ---- the file

pub wav_is : (s : SceneData) (clips : List SceneClipData) → wav s (frames_from clips s 0 s.length) ≡ (header s.channels s.rate s.width s.length ++ data_of s (frames_from clips s 0 s.length)) ++ padding (data_bytes s.channels s.width s.length)
unfolding wav
wav_is s clips =
    let count = length-map-range_with_len (λ t. frame (frame_state clips s t) s.channels) 0 s.length in
    ap (λ n. header s.channels s.rate s.width n ++ data_of s (frames_from clips s 0 s.length) ++ padding (data_bytes s.channels s.width n)) count

pub mix_is : (s : SceneData) (files : List (List ℕ)) (clips : List SceneClipData) → clips ≡ clips_of s files → frames_from clips s 0 s.length ≡ mix s files
unfolding mix
mix_is s files clips same = ap (λ cs. frames_from cs s 0 s.length) same

pub padding-odd : (size : ℕ) → size % 2 ≡ 1 → padding size ≡ 0 ∷ []
padding-odd size odd = ap (λ n. replicate n 0) odd

pub padding-even : (size : ℕ) → (size % 2 ≡ 1 → ⊥) → padding size ≡ []
padding-even size even = let none : size % 2 ≡ 0 = omega arith in ap (λ n. replicate n 0) none

-- ---- what a sink has

pub nothing : (text : Option (List ℕ)) → text ≡ option_map (λ t. t ++ []) text
nothing None = refl
nothing (Some text) = ap Some (sym (append-nil text))

-- nothing follows a write that failed
pub stopped : (fault : MixFault) (first rest : List ℕ) (a b : Option (List ℕ)) → Writes (fault_answer fault) first a b → Writes (fault_answer fault) (first ++ rest) a b
stopped SinkFault first rest a b wrote = writes-failed first rest a b wrote
stopped NoMemory first rest a b wrote = writes-out_of_memory first rest a b wrote

-- a block that wasn't written whole, after those before it
pub stopped_block : (fault : MixFault) (first bytes joined whole : List ℕ) (a b c : Option (List ℕ)) → joined ≡ first ++ bytes → IsPrefix joined whole → b ≡ option_map (λ t. t ++ first) a → Writes (fault_answer fault) bytes b c → Writes (fault_answer fault) whole a c
stopped_block fault first bytes joined whole a b c e (rest, is) so_far wrote =
    subst (λ (all : List ℕ). Writes (fault_answer fault) all a c) (sym (is ∙ ap (λ xs. xs ++ rest) e))
    (stopped fault (first ++ bytes) rest a c (writes-then (fault_answer fault) first bytes a b c so_far wrote))
