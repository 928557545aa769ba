-- The pages of a file, and the frames in them.
use Rattle.std.proofs.Common.{◌≡◌, ◌⊎◌, inl, inr, ℕ, zero, suc, ◌+◌, ◌-◌, ◌*◌, ◌/◌, ◌%◌, ◌<◌, ◌≤◌, min, List, [], ◌∷◌, ◌++◌, length, map, take, drop, replicate, ℤ, pos, get_or, Option, Some, None, refl, ap, sym, ◌∙◌, arith}
use Rattle.std.specs.Prelude.{Ok}
use Rattle.std.specs.List.{range_with_len}
use Rattle.std.proofs.Math.Nat.{mul-le-mul_right, div-add-mod', add-mul, mod-lt, lt_of_mul-lt-mul_right}
use Rattle.std.proofs.lemmas.Bool.{cases_lt}
use Rattle.std.proofs.lemmas.List.{ext_get_or, get_or-take, get_or-drop, get_or_append_left, get_or-append-add, get_or_default, length-drop, length-take-le}
use Rattle.std.proofs.lemmas.List.FromFn.{length-map-range_with_len, get_or-map-range_with_len}
use Rattle.clip_decode.specs.Frames.{frame_by, frames, interleaved}
use Rattle.clip_decode.specs.Pages.{page_frames, PageData}
use Rattle.clip_decode.specs.Samples.{sample_of}
use Rattle.clip_decode.proofs.PageLists.{page_by_number, length_joined, joined_at}
use Rattle.wave_read.specs.Wave.{wave}
use Rattle.wave_read.specs.declared.wave.Wave.{Wave}
use Rattle.scene_clips.specs.FilePages.{AreThere, file_page, frame_or_silence}

pub frames_counted : (bytes : List ℕ) (w : Wave) → wave bytes ≡ Ok w → length (frames bytes) ≡ w.frames
unfolding frames
frames_counted bytes w said = rw said (length-map-range_with_len (λ n. frame_by (sample_of bytes w n) w.channels) 0 w.frames)

frame_of : (bytes : List ℕ) (w : Wave) (n : ℕ) (d : List ℤ) → wave bytes ≡ Ok w → n < w.frames
    → get_or (frames bytes) n d ≡ frame_by (sample_of bytes w n) w.channels
unfolding frames
frame_of bytes w n d said below =
    rw said (get_or-map-range_with_len (λ k. frame_by (sample_of bytes w k) w.channels) 0 w.frames n n d below (omega arith))

-- a frame of those that are joined
module _ (f : ℕ → List ℤ) (ch : ℕ) (width : (n : ℕ) → length (f n) ≡ ch) where
  part_fits : (a n k : ℕ) → k < n → k * ch + ch ≤ length (interleaved (map f (range_with_len a n)))
  part_fits a n k below =
      let more : k + 1 ≤ n = omega arith in
      omega (arith, length_joined f ch width a n, mul-le-mul_right {m = k + 1} {n = n} ch more)

  joined_part : (a n k : ℕ) → k < n → take ch (drop (k * ch) (interleaved (map f (range_with_len a n)))) ≡ f (a + k)
  joined_part a n k below =
      let xs = interleaved (map f (range_with_len a n)) in
      let whole : length (take ch (drop (k * ch) xs)) ≡ ch =
      length-take-le ch (drop (k * ch) xs) (omega (arith, part_fits a n k below, length-drop (k * ch) xs)) in
      ext_get_or (pos 0) (take ch (drop (k * ch) xs)) (f (a + k)) (whole ∙ sym (width (a + k)))
      (λ c lt.
      let channel : c < ch = omega (arith, lt, whole) in
      get_or-take ch (drop (k * ch) xs) c (pos 0) channel ∙ get_or-drop (k * ch) xs c (pos 0)
      ∙ joined_at f ch width a n k c below channel)

module _ (bytes : List ℕ) (w : Wave) (frame : ℕ) (said : wave bytes ≡ Ok w) (below : frame < w.frames) where
  made : ℕ → List ℤ
  made m = frame_by (sample_of bytes w m) w.channels

  wide : (m : ℕ) → length (made m) ≡ w.channels
  unfolding made
  wide m = length-map-range_with_len (sample_of bytes w m) 0 w.channels

  held : ℕ
  held = min (w.frames - 8192 * (frame / 8192)) 8192

  inside : frame % 8192 < held
  unfolding held
  inside = omega arith

  listed : page_frames bytes (frame / 8192) ≡ map made (range_with_len (8192 * (frame / 8192)) held)
  unfolding made held
  listed = page_by_number bytes w (frame / 8192) said

  whole : length (interleaved (page_frames bytes (frame / 8192))) ≡ held * w.channels
  whole = rw listed (length_joined made w.channels wide (8192 * (frame / 8192)) held)

  pub frame_fits : frame % 8192 * w.channels + w.channels ≤ length (interleaved (page_frames bytes (frame / 8192)))
  frame_fits = rw listed (part_fits made w.channels wide (8192 * (frame / 8192)) held (frame % 8192) inside)

  -- the frame, as its page has it
  pub frame_in_page : take w.channels (drop (frame % 8192 * w.channels) (interleaved (page_frames bytes (frame / 8192))))
      ≡ frame_or_silence w.channels (frames bytes) frame
  unfolding made
  frame_in_page =
      let place : 8192 * (frame / 8192) + frame % 8192 ≡ frame = omega arith in
      rw listed (joined_part made w.channels wide (8192 * (frame / 8192)) held (frame % 8192) inside)
      ∙ ap made place ∙ sym (frame_of bytes w frame (replicate w.channels (pos 0)) said below)

  -- where its page has the samples of two frames from the frame on, the next frame stands there too
  two_held : frame % 8192 * w.channels + 2 * w.channels ≤ length (interleaved (page_frames bytes (frame / 8192))) → 0 < w.channels → frame % 8192 + 2 ≤ held
  two_held room some =
      let ch = w.channels in
      let rows : (frame % 8192 + 1) * ch < held * ch = omega (arith, room, whole, some, add-mul (frame % 8192) 1 ch) in
      let more : frame % 8192 + 1 < held = lt_of_mul-lt-mul_right ch rows in
      omega (arith, more)

  pub next_in_page : frame % 8192 * w.channels + 2 * w.channels ≤ length (interleaved (page_frames bytes (frame / 8192))) → 0 < w.channels
      → take w.channels (drop (frame % 8192 * w.channels + w.channels) (interleaved (page_frames bytes (frame / 8192))))
      ≡ frame_or_silence w.channels (frames bytes) (frame + 1)
  unfolding made held
  next_in_page room some =
      let ch = w.channels in
      let a = 8192 * (frame / 8192) in
      let k = frame % 8192 + 1 in
      let inside_page : k < held = omega (arith, two_held room some) in
      let place : frame % 8192 * ch + ch ≡ k * ch = omega (arith, add-mul (frame % 8192) 1 ch) in
      let there : a + k ≡ frame + 1 = omega arith in
      let last : frame + 1 < w.frames = omega (arith, inside_page, there) in
      ap (λ i. take ch (drop i (interleaved (page_frames bytes (frame / 8192))))) place
      ∙ rw listed (joined_part made ch wide a held k inside_page)
      ∙ ap made there ∙ sym (frame_of bytes w (frame + 1) (replicate ch (pos 0)) said last)

  -- the samples from the frame's first on
  pub rest_fits : frame % 8192 * w.channels ≤ length (interleaved (page_frames bytes (frame / 8192)))
  rest_fits = omega (arith, frame_fits)

  pub rest_holds : w.channels ≤ length (drop (frame % 8192 * w.channels) (interleaved (page_frames bytes (frame / 8192))))
  rest_holds = omega (arith, frame_fits, length-drop (frame % 8192 * w.channels) (interleaved (page_frames bytes (frame / 8192))))

  pub sample_in_page : (j : ℕ) → 0 < w.channels → j < length (drop (frame % 8192 * w.channels) (interleaved (page_frames bytes (frame / 8192))))
      → get_or (drop (frame % 8192 * w.channels) (interleaved (page_frames bytes (frame / 8192)))) j (pos 0)
      ≡ get_or (frame_or_silence w.channels (frames bytes) (frame + j / w.channels)) (j % w.channels) (pos 0)
  unfolding made held
  sample_in_page j some inside_page =
      let ch = w.channels in
      let a = 8192 * (frame / 8192) in
      let first = frame % 8192 in
      let k = first + j / ch in
      let long : first * ch + j < held * ch = omega (arith, inside_page, whole, length-drop (first * ch) (interleaved (page_frames bytes (frame / 8192)))) in
      let split : first * ch + j ≡ k * ch + j % ch = omega (arith, div-add-mod' j ch, add-mul first (j / ch) ch) in
      let channel : j % ch < ch = mod-lt j some in
      let below_held : k < held = lt_of_mul-lt-mul_right ch (omega (arith, long, split)) in
      let there : a + k ≡ frame + j / ch = omega arith in
      let last : frame + j / ch < w.frames = omega (arith, below_held, there) in
      get_or-drop (first * ch) (interleaved (page_frames bytes (frame / 8192))) j (pos 0)
      ∙ ap (λ i. get_or (interleaved (page_frames bytes (frame / 8192))) i (pos 0)) split
      ∙ rw listed (joined_at made ch wide a held k (j % ch) below_held channel)
      ∙ ap (λ i. get_or (made i) (j % ch) (pos 0)) there
      ∙ ap (λ f. get_or f (j % ch) (pos 0)) (sym (frame_of bytes w (frame + j / ch) (replicate ch (pos 0)) said last))

pub get_or_past : {X : Type 0} (xs : List X) (i : ℕ) (d : X) → length xs ≤ i → get_or xs i d ≡ d
get_or_past [] i d past = refl
get_or_past (x ∷ xs) zero d past = absurd (omega arith)
get_or_past (x ∷ xs) (suc i) d past = get_or_past xs i d (omega arith)

-- past the last frame there is silence
pub silence_past_end : (bytes : List ℕ) (w : Wave) (n : ℕ) → wave bytes ≡ Ok w → w.frames ≤ n
    → frame_or_silence w.channels (frames bytes) n ≡ replicate w.channels (pos 0)
silence_past_end bytes w n said past =
    get_or_past (frames bytes) n (replicate w.channels (pos 0)) (omega (arith, frames_counted bytes w said, past))

-- each frame of the file has its channels
pub frame_wide : (bytes : List ℕ) (w : Wave) (n : ℕ) → wave bytes ≡ Ok w → n < w.frames → length (frame_or_silence w.channels (frames bytes) n) ≡ w.channels
frame_wide bytes w n said below =
    ap length (frame_of bytes w n (replicate w.channels (pos 0)) said below) ∙ length-map-range_with_len (sample_of bytes w n) 0 w.channels

-- ---- pages that are there

pub there_inside : (bytes : List ℕ) (pages : List (Option PageData)) (k n : ℕ) → AreThere bytes pages n → k < n → k < length pages
there_inside bytes pages k n there below = by_length (cases_lt k (length pages))
  where
    by_length : (k < length pages) ⊎ (length pages ≤ k) → k < length pages
    by_length (inl inside) = inside
    by_length (inr past) = let none = sym (get_or_past pages k None past) ∙ there k below in absurd (cc)

pub found_page : (bytes : List ℕ) (pages : List (Option PageData)) (k n : ℕ) (found : Option PageData) → AreThere bytes pages n → k < n
    → found ≡ get_or pages k found → found ≡ Some (file_page bytes k)
found_page bytes pages k n found there below here =
    here ∙ get_or_default pages k found None (there_inside bytes pages k n there below) ∙ there k below

pub fewer_there : (bytes : List ℕ) (pages : List (Option PageData)) (m n : ℕ) → m ≤ n → AreThere bytes pages n → AreThere bytes pages m
fewer_there bytes pages m n few there k below = there k (omega (arith, few, below))

-- one more
pub more_there : (bytes : List ℕ) (pages : List (Option PageData)) (n : ℕ) (page : PageData) → length pages ≡ n → AreThere bytes pages n → page ≡ file_page bytes n
    → AreThere bytes (pages ++ Some page ∷ []) (n + 1)
more_there bytes pages n page count there is k below = by_place (cases_lt k n)
  where
    by_place : (k < n) ⊎ (n ≤ k) → get_or (pages ++ Some page ∷ []) k None ≡ Some (file_page bytes k)
    by_place (inl less) = get_or_append_left pages (Some page ∷ []) None k (omega (arith, count, less)) ∙ there k less
    by_place (inr past) =
        let same : k ≡ length pages + 0 = omega (arith, count, past, below) in
        let number : n ≡ k = omega (arith, past, below) in
        ap (λ i. get_or (pages ++ Some page ∷ []) i None) same ∙ get_or-append-add pages (Some page ∷ []) 0 None
        ∙ ap Some (is ∙ ap (file_page bytes) number)
