-- The WAVE file of a scene, read by the rules of the reader.
use Rattle.std.proofs.Common.{◌≡◌, ℕ, ◌+◌, ◌*◌, ◌/◌, ◌<◌, ◌≤◌, List, [], ◌∷◌, ◌++◌, length, map, take, drop, get_or, ap, sym, refl, ◌∙◌, arith}
use Rattle.std.specs.Prelude.{ℤ, pos, Ok, All}
use Rattle.std.specs.Int.{int_div_euclid}
use Rattle.std.proofs.Math.Nat.{mul-div_cancel_left}
use Rattle.std.proofs.lemmas.List.{append_assoc, length-append, length-replicate, length-map, drop-drop, ext_get_or, get_or-map, map-id}
use Rattle.std.proofs.lemmas.List.Elements.{All-get_or}
use Rattle.std.proofs.lemmas.List.FromFn.{length-map-range_with_len, get_or-map-range_with_len}
use Rattle.std.proofs.lemmas.Nat.{mul-le}
use Rattle.clip_decode.specs.Containers.{container_of}
use Rattle.clip_decode.specs.Frames.{frame_by, frames_by, frames, interleaved}
use Rattle.clip_decode.specs.Pcm.{pcm_value, pcm_sample}
use Rattle.clip_decode.specs.Samples.{sample_of}
use Rattle.clip_decode.specs.Widened.{widened}
use Rattle.clip_decode.proofs.ImaParts.{place_below}
use Rattle.mix_fixed.specs.Sound.{Is24}
use Rattle.scene_model.specs.IsScene.{IsScene}
use Rattle.scene_model.specs.SceneData.{SceneData}
use Rattle.wave_read.specs.Wave.{wave}
use Rattle.wave_write.specs.Header.{header, frame_bytes, data_bytes, pad_bytes}
use Rattle.wave_write.specs.Samples.{packed_sample, packed}
use Rattle.mix_model.specs.Mix.{clips_of, mix}
use Rattle.mix_model.specs.Output.{padding, wav}
use Rattle.mix_model.specs.ReadBack.{AreFramesOf, written_wave}
use Rattle.mix_model.specs.Signals.{frame}
use Rattle.mix_model.proofs.HeadersRead.{IsWritable, wave_read_back, length_file}
use Rattle.mix_model.proofs.FrameSamples.{frames_count, frames_widths}
use Rattle.mix_model.proofs.PackedSamples.{length_interleaved, width_cases, length_packed, interleaved_at, packed_at, value_16, value_24}
use Rattle.mix_model.proofs.Written.{samples_24}

-- a scene's format is one of PCM
writable : (s : SceneData) → IsScene s → IsWritable s.channels s.rate s.width
writable s scene =
    let widths = width_cases s.width scene.width_is in
    record {
      channels_least = scene.channels_least;
      channels_most = omega (arith, scene.channels_most);
      rate_least = scene.rate_least;
      rate_most = scene.rate_most;
      width_whole = omega (arith, widths);
      width_least = omega (arith, widths);
      width_most = omega (arith, widths);
    }

-- the file by its parts
pub file_is : (s : SceneData) (written : List (List ℤ)) → AreFramesOf s written
    → wav s written
    ≡ header s.channels s.rate s.width s.length
    ++ (packed s.width (interleaved written) ++ padding (data_bytes s.channels s.width s.length))
unfolding wav
file_is s written are =
    append_assoc (header s.channels s.rate s.width (length written)) (packed s.width (interleaved written)) (padding (data_bytes s.channels s.width (length written)))
    ∙ ap (λ n. header s.channels s.rate s.width n ++ (packed s.width (interleaved written) ++ padding (data_bytes s.channels s.width n))) are.count

length_data : (s : SceneData) (written : List (List ℤ)) → IsScene s → AreFramesOf s written
    → length (packed s.width (interleaved written)) ≡ data_bytes s.channels s.width s.length
length_data s written scene are =
    let samples = length_interleaved s.channels written are.widths in
    let parts : s.length * s.channels * (s.width / 8) ≡ s.length * (s.channels * (s.width / 8)) = omega arith in
    length_packed s.width (interleaved written) scene.width_is
    ∙ rw (samples, are.count) parts

-- a scene's data fit a RIFF file
small_data : (s : SceneData) → IsScene s → data_bytes s.channels s.width s.length < 4294967296
small_data s scene =
    let limits = writable s scene in
    let bytes : frame_bytes s.channels s.width ≤ 2 * 4 =
    mul-le s.channels (s.width / 8) 2 4 scene.channels_most (omega (arith, limits.width_most)) in
    let all : data_bytes s.channels s.width s.length ≤ 16777216 * 8 =
    mul-le s.length (frame_bytes s.channels s.width) 16777216 8 scene.length_most bytes in
    omega (arith, all)

pub wave_is : (s : SceneData) (written : List (List ℤ)) → IsScene s → AreFramesOf s written
    → wave (wav s written) ≡ Ok (written_wave s)
wave_is s written scene are =
    let size = data_bytes s.channels s.width s.length in
    ap wave (file_is s written are)
    ∙ wave_read_back s.channels s.rate s.width s.length (packed s.width (interleaved written)) (padding size) (writable s scene)
    (small_data s scene) (length_data s written scene are) (length-replicate (pad_bytes size) 0)

-- ---- the samples

place_is : (k channels n c : ℕ) → 44 + n * (channels * k) + c * k ≡ 44 + k * (n * channels + c)
place_is k channels n c = omega arith

-- a sample is read from the bytes that were packed of it
sample_is : (s : SceneData) (written : List (List ℤ)) (n c : ℕ) → IsScene s → AreFramesOf s written → n < s.length → c < s.channels
    → sample_of (wav s written) (written_wave s) n c ≡ pcm_value (packed_sample s.width (get_or (interleaved written) (n * s.channels + c) (pos 0)))
unfolding sample_of pcm_sample container_of header
sample_is s written n c scene are below inside =
    let k = s.width / 8 in
    let align = frame_bytes s.channels s.width in
    let i = n * s.channels + c in
    let samples = interleaved written in
    let pad = padding (data_bytes s.channels s.width s.length) in
    let file = header s.channels s.rate s.width s.length ++ (packed s.width samples ++ pad) in
    let size_is : align / s.channels ≡ k = mul-div_cancel_left k {n = s.channels} scene.channels_least in
    let count : length samples ≡ s.length * s.channels = rw (← are.count) (length_interleaved s.channels written are.widths) in
    let there : i < length samples = rw count (place_below n c s.channels s.length below inside) in
    ap (λ bytes. sample_of bytes (written_wave s) n c) (file_is s written are)
    ∙ ap (λ size. pcm_value (take size (drop (44 + n * align + c * size) file))) size_is
    ∙ ap (λ place. pcm_value (take k (drop place file))) (place_is k s.channels n c)
    ∙ ap (λ bytes. pcm_value (take k bytes)) (sym (drop-drop (k * i) 44 file))
    ∙ ap pcm_value (packed_at s.width samples pad i scene.width_is there)

-- all frames are what the value of packed samples gives
frames_are : (f : ℤ → ℤ) (s : SceneData) (written : List (List ℤ)) → ((x : ℤ) → Is24 x → pcm_value (packed_sample s.width x) ≡ f x)
    → IsScene s → AreFramesOf s written → All Is24 (interleaved written) → frames (wav s written) ≡ map (map f) written
unfolding frames
frames_are f s written value scene are range =
    let sample = sample_of (wav s written) (written_wave s) in
    let frame_at : ℕ → List ℤ = λ n. frame_by (sample n) s.channels in
    let samples = interleaved written in
    let count : length samples ≡ s.length * s.channels = rw (← are.count) (length_interleaved s.channels written are.widths) in
    let one : (n c : ℕ) → n < s.length → c < s.channels → sample n c ≡ f (get_or (get_or written n []) c (pos 0)) =
    λ n c below inside.
    let there : n * s.channels + c < length samples = rw count (place_below n c s.channels s.length below inside) in
    sample_is s written n c scene are below inside
    ∙ value (get_or samples (n * s.channels + c) (pos 0)) (All-get_or Is24 samples (n * s.channels + c) (pos 0) there range)
    ∙ ap f (interleaved_at s.channels written n c are.widths (rw are.count below) inside) in
    let width : (n : ℕ) → n < s.length → length (get_or written n []) ≡ s.channels =
    λ n below. All-get_or (λ (xs : List ℤ). length xs ≡ s.channels) written n [] (rw are.count below) are.widths in
    let row_is : (n : ℕ) → n < s.length → frame_at n ≡ map f (get_or written n []) =
    λ n below.
    ext_get_or (pos 0) (frame_at n) (map f (get_or written n []))
    (length-map-range_with_len (sample n) 0 s.channels ∙ sym (length-map (get_or written n []) f ∙ width n below))
    (λ c lt.
    let inside : c < s.channels = omega (arith, lt, length-map-range_with_len (sample n) 0 s.channels) in
    get_or-map-range_with_len (sample n) 0 s.channels c c (pos 0) inside (omega arith)
    ∙ one n c below inside
    ∙ sym (get_or-map f (get_or written n []) c (pos 0) (pos 0) (rw (width n below) inside))) in
    rw (wave_is s written scene are)
    (ext_get_or [] (frames_by sample s.length s.channels) (map (map f) written)
    (length-map-range_with_len frame_at 0 s.length ∙ sym (length-map written (map f) ∙ are.count))
    (λ n lt.
    let below : n < s.length = omega (arith, lt, length-map-range_with_len frame_at 0 s.length) in
    get_or-map-range_with_len frame_at 0 s.length n n [] below (omega arith)
    ∙ row_is n below
    ∙ sym (get_or-map (map f) written n [] [] (rw are.count below))))

maps_alike : (frames : List (List ℤ)) → map (map (λ x. x)) frames ≡ frames
maps_alike [] = refl
maps_alike (frame ∷ frames) = ap (λ xs. xs ∷ map (map (λ x. x)) frames) (map-id frame) ∙ ap (λ rest. frame ∷ rest) (maps_alike frames)

pub frames_24 : (s : SceneData) (written : List (List ℤ)) → IsScene s → AreFramesOf s written → All Is24 (interleaved written)
    → s.width ≡ 24 → frames (wav s written) ≡ written
frames_24 s written scene are range is =
    frames_are (λ x. x) s written (λ x small. rw is (value_24 x small)) scene are range ∙ maps_alike written

pub frames_16 : (s : SceneData) (written : List (List ℤ)) → IsScene s → AreFramesOf s written → All Is24 (interleaved written)
    → s.width ≡ 16 → frames (wav s written) ≡ map (map (λ x. widened (int_div_euclid x (pos 256)))) written
frames_16 s written scene are range is =
    frames_are (λ x. widened (int_div_euclid x (pos 256))) s written (λ x small. rw is (value_16 x small)) scene are range

-- ---- the mix

mix_has_frames : (s : SceneData) (files : List (List ℕ)) → AreFramesOf s (mix s files)
unfolding mix
mix_has_frames s files =
    let clips = clips_of s files in
    record { count = frames_count clips s 0 s.length; widths = frames_widths clips s 0 s.length }

mix_has_24 : (s : SceneData) (files : List (List ℕ)) → All Is24 (interleaved (mix s files))
unfolding mix
mix_has_24 s files = samples_24 (clips_of s files) s 0 s.length

pub mix_wave : (s : SceneData) (files : List (List ℕ)) → IsScene s → wave (wav s (mix s files)) ≡ Ok (written_wave s)
mix_wave s files scene = wave_is s (mix s files) scene (mix_has_frames s files)

pub mix_frames : (s : SceneData) (files : List (List ℕ)) → IsScene s → s.width ≡ 24 → frames (wav s (mix s files)) ≡ mix s files
mix_frames s files scene is = frames_24 s (mix s files) scene (mix_has_frames s files) (mix_has_24 s files) is

-- the bytes of the file: the header, the data, and the pad byte if there is one
pub mix_bytes : (s : SceneData) (files : List (List ℕ)) (size : ℕ) → IsScene s → size ≡ data_bytes s.channels s.width s.length
    → length (wav s (mix s files)) ≡ 44 + size + length (padding size)
mix_bytes s files size scene is =
    let written = mix s files in
    let are = mix_has_frames s files in
    let sound = packed s.width (interleaved written) in
    let pad = padding (data_bytes s.channels s.width s.length) in
    let samples : length sound ≡ size = length_data s written scene are ∙ sym is in
    let end : length pad ≡ length (padding size) = ap (λ n. length (padding n)) (sym is) in
    let parts : length (sound ++ pad) ≡ length sound + length pad = length-append sound pad in
    ap length (file_is s written are) ∙ omega (arith, length_file s.channels s.rate s.width s.length sound pad, parts, samples, end)
