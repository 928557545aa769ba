-- What effects make of frames that follow one another.
use Rattle.std.proofs.Common.{◌≡◌, ◌∙◌, ℕ, ◌+◌, ◌-◌, ◌*◌, ◌≤◌, ℤ, List, [], ◌∷◌, ◌++◌, length, refl, ap, ap₂, sym, append-nil, arith}
use Rattle.std.proofs.lemmas.List.Concat.{flat_map-append}
use Rattle.clip_decode.specs.Frames.{interleaved}
use Rattle.fx_nodes.specs.Effects.{chain_value}
use Rattle.fx_nodes.specs.declared.effect.Effect.{Effect}
use Rattle.fx_nodes.proofs.Chained.{chain_begins, length-chain_value}
use Rattle.mix_model.specs.Summary.{summary}
use Rattle.mix_model.specs.declared.summary.Summary.{Summary}
use Rattle.mix_model.proofs.HeadersRead.{length_file}
use Rattle.mix_model.proofs.PackedSamples.{length_packed}
use Rattle.scene_clips.specs.ClipFrames.{file_rate}
use Rattle.snd_io.specs.Answers.{IsPrefix}
use Rattle.wave_write.specs.Samples.{packed_sample, packed}
use Rattle.fx_nodes.specs.Stages.{effects_in}
use Rattle.fx_render.specs.declared.blocks.Blocks.{Blocks}
use Rattle.fx_render.specs.Blocks.{IsRendered}
use Rattle.fx_render.specs.Effected.{effected, effected_summary, effected_wav, file_bytes, stereo_frames}
use Rattle.fx_render.proofs.Frames.{stereo-join}

-- the frames before and behind one of a file
pub frames-joined : (bytes : List ℕ) (t count later : ℕ) → later ≡ t + count
    → interleaved (stereo_frames bytes 0 t) ++ interleaved (stereo_frames bytes t count) ≡ interleaved (stereo_frames bytes 0 later)
frames-joined bytes t count later e =
    let start : 0 + t ≡ t = omega arith in
    sym (ap (λ k. interleaved (stereo_frames bytes 0 k)) e ∙ stereo-join bytes 0 t count
    ∙ ap (λ k. interleaved (stereo_frames bytes 0 t) ++ interleaved (stereo_frames bytes k count)) start)

-- what a chain made of a block
pub block-joined : (bytes : List ℕ) (effects : List Effect) (t count later : ℕ) (heard made : List ℤ) → later ≡ t + count → heard ≡ interleaved (stereo_frames bytes t count)
    → chain_value effects (interleaved (stereo_frames bytes 0 t) ++ heard) ≡ chain_value effects (interleaved (stereo_frames bytes 0 t)) ++ made
    → effected bytes effects later ≡ effected bytes effects t ++ made
block-joined bytes effects t count later heard made e is joined =
    ap (chain_value effects) (sym (ap (λ (xs : List ℤ). interleaved (stereo_frames bytes 0 t) ++ xs) is ∙ frames-joined bytes t count later e)) ∙ joined

-- and its bytes
pub bytes-joined : (bytes : List ℕ) (effects : List Effect) (t later : ℕ) (made : List ℤ) → effected bytes effects later ≡ effected bytes effects t ++ made
    → packed 24 (effected bytes effects later) ≡ packed 24 (effected bytes effects t) ++ packed 24 made
bytes-joined bytes effects t later made joined = ap (packed 24) joined ∙ flat_map-append (packed_sample 24) (effected bytes effects t) made

pub summary-joined : (bytes : List ℕ) (effects : List Effect) (t later : ℕ) (made : List ℤ) (next : Summary) → effected bytes effects later ≡ effected bytes effects t ++ made
    → next ≡ summary (effected bytes effects t ++ made) (packed 24 (effected bytes effects t) ++ packed 24 made) → next ≡ effected_summary bytes effects later
summary-joined bytes effects t later made next joined is =
    rw (bytes-joined bytes effects t later made joined, joined) is

nothing : (xs : List ℤ) → length xs ≡ 0 → xs ≡ []
nothing [] none = refl
nothing (x ∷ xs) none = absurd (omega (arith, none))

-- before the first frame
pub no-frames : (bytes : List ℕ) (t : ℕ) → t ≡ 0 → interleaved (stereo_frames bytes 0 t) ≡ []
unfolding interleaved
no-frames bytes t start = rw start refl

pub no-samples : (bytes : List ℕ) (effects : List Effect) (t : ℕ) → t ≡ 0 → effected bytes effects t ≡ []
no-samples bytes effects t start = nothing (effected bytes effects t) (length-chain_value effects (interleaved (stereo_frames bytes 0 t)) ∙ ap length (no-frames bytes t start))

pub no-summary : (bytes : List ℕ) (effects : List Effect) (t : ℕ) → t ≡ 0 → summary [] [] ≡ effected_summary bytes effects t
no-summary bytes effects t start = ap (λ (xs : List ℤ). summary xs (packed 24 xs)) (sym (no-samples bytes effects t start))

-- what was written of the first frames is a prefix of all
pub bytes-begin : (bytes : List ℕ) (effects : List Effect) (t count : ℕ) → t ≤ count
    → IsPrefix (packed 24 (effected bytes effects t)) (packed 24 (effected bytes effects count))
bytes-begin bytes effects t count within =
    let begins = chain_begins effects (interleaved (stereo_frames bytes 0 t)) (interleaved (stereo_frames bytes t (count - t))) in
    let all = frames-joined bytes t (count - t) count (omega (arith, within)) in
    (packed 24 begins.0, bytes-joined bytes effects t count begins.0 (ap (chain_value effects) (sym all) ∙ begins.1))

-- the size of the file
pub wav-size : (bytes : List ℕ) (effects : List Effect) (count : ℕ) → length (interleaved (stereo_frames bytes 0 count)) ≡ 2 * count
    → length (effected_wav bytes effects count) ≡ file_bytes count
wav-size bytes effects count many =
    let samples = effected bytes effects count in
    let sound = packed 24 samples in
    let made : length samples ≡ 2 * count = length-chain_value effects (interleaved (stereo_frames bytes 0 count)) ∙ many in
    let packed_are : length sound ≡ length samples * 3 = length_packed 24 samples refl in
    let whole = length_file 2 (file_rate bytes) 24 count sound [] in
    let same : sound ++ [] ≡ sound = append-nil sound in
    omega (arith, made, packed_are, rw same at whole)

-- the bytes of one more block, behind those that were written, where the effects and the file are the first ones
pub bytes-more : (bytes bytes' : List ℕ) (effects effects' : List Effect) (t later : ℕ) (block more : List ℕ) → bytes' ≡ bytes → effects' ≡ effects
    → packed 24 (effected bytes' effects' later) ≡ packed 24 (effected bytes' effects' t) ++ block → more ≡ block
    → packed 24 (effected bytes effects later) ≡ packed 24 (effected bytes effects t) ++ more
bytes-more bytes bytes' effects effects' t later block more same_file same_effects is same = rw (← same, same_file, same_effects) at is

pub rendered-size : (count : ℕ) (old new : Blocks) → IsRendered count old new → length (effected_wav old.reader.clip.bytes (effects_in old.chain) count) ≡ file_bytes count
rendered-size count old new done =
    let bytes = old.reader.clip.bytes in
    let next = new.reader.next in
    let file : new.reader.clip.bytes ≡ bytes = ap (λ clip. clip.bytes) done.clip in
    let many : length (interleaved (stereo_frames bytes 0 count)) ≡ 2 * new.chain.taken =
    ap₂ (λ n b. length (interleaved (stereo_frames b 0 n))) (sym done.frames_are) (sym file) ∙ done.rendering.taken.0 in
    wav-size bytes (effects_in old.chain) count (omega (arith, many, done.rendering.frames, done.frames_are))
