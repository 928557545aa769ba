-- The frames of a page, by the numbers of frame and channel, are those of the file's list.
use Rattle.std.proofs.Common.{◌≡◌, ℕ, zero, suc, ◌+◌, ◌-◌, ◌*◌, ◌/◌, ◌%◌, ◌<◌, ◌≤◌, min, List, ◌∷◌, ◌++◌, length, map, take, drop, ℤ, pos, get_or, refl, ap, sym, ◌∙◌, arith, length-append}
use Rattle.std.specs.Prelude.{Ok}
use Rattle.std.specs.List.{range_with_len, flat_map, take-map, drop-map}
use Rattle.std.proofs.Math.Nat.{mod-lt, div-lt_iff_lt-mul}
use Rattle.std.proofs.Math.Seq.{get_or-append_right, take-append_seam}
use Rattle.std.proofs.lemmas.Nat.{div-add-mod'}
use Rattle.std.proofs.lemmas.List.{ext_get_or, get_or_append_left, get_or-take, length-take}
use Rattle.std.proofs.lemmas.List.FromFn.{length-map-range_with_len, get_or-map-range_with_len}
use Rattle.wave_read.specs.Wave.{wave}
use Rattle.wave_read.specs.declared.wave.Wave.{Wave}
use Rattle.clip_decode.specs.Cells.{Written}
use Rattle.clip_decode.specs.Frames.{frame_by, frames, interleaved}
use Rattle.clip_decode.specs.Pages.{frames_per_page, page_frames, PageData}
use Rattle.clip_decode.specs.Samples.{sample_of}

take_range : (m a n : ℕ) → take m (range_with_len a n) ≡ range_with_len a (min n m)
take_range zero a n = let none : min n 0 ≡ 0 = omega arith in rw none refl
take_range (suc m) a zero = let none : min 0 (suc m) ≡ 0 = omega arith in rw none refl
take_range (suc m) a (suc n) =
    let more : min (suc n) (suc m) ≡ suc (min n m) = omega arith in
    rw more (ap (λ xs. a ∷ xs) (take_range m (a + 1) n))

drop_range : (m a n : ℕ) → drop m (range_with_len a n) ≡ range_with_len (a + m) (n - m)
drop_range zero a n =
    let same : a + 0 ≡ a = omega arith in
    let all : n - 0 ≡ n = omega arith in
    rw (same, all) refl
drop_range (suc m) a zero = let none : 0 - suc m ≡ 0 = omega arith in rw none refl
drop_range (suc m) a (suc n) =
    let place : a + 1 + m ≡ a + suc m = omega arith in
    let left : n - m ≡ suc n - suc m = omega arith in
    drop_range m (a + 1) n ∙ ap (λ b. range_with_len b (n - m)) place ∙ ap (range_with_len (a + suc m)) left

pub page_by_number : (bytes : List ℕ) (w : Wave) (k : ℕ) → wave bytes ≡ Ok w
    → page_frames bytes k
    ≡ map (λ n. frame_by (sample_of bytes w n) w.channels)
    (range_with_len (frames_per_page * k) (min (w.frames - frames_per_page * k) frames_per_page))
unfolding page_frames frames
page_by_number bytes w k said =
    let f : ℕ → List ℤ = λ n. frame_by (sample_of bytes w n) w.channels in
    rw said
    (ap (take frames_per_page) (drop-map f (frames_per_page * k) (range_with_len 0 w.frames))
    ∙ take-map f frames_per_page (drop (frames_per_page * k) (range_with_len 0 w.frames))
    ∙ ap (map f)
    (ap (take frames_per_page) (drop_range (frames_per_page * k) 0 w.frames)
    ∙ take_range frames_per_page (0 + frames_per_page * k) (w.frames - frames_per_page * k)
    ∙ ap (λ a. range_with_len a (min (w.frames - frames_per_page * k) frames_per_page)) (omega arith)))

-- frames of one width, one after the other
module _ (f : ℕ → List ℤ) (ch : ℕ) (width : (n : ℕ) → length (f n) ≡ ch) where
  pub length_joined : (a n : ℕ) → length (interleaved (map f (range_with_len a n))) ≡ n * ch
  unfolding interleaved
  length_joined a zero = omega arith
  length_joined a (suc n) =
      omega (arith, length-append (f a) (flat_map (λ x. x) (map f (range_with_len (a + 1) n))), length_joined (a + 1) n, width a)

  pub joined_at : (a n k c : ℕ) → k < n → c < ch
      → get_or (interleaved (map f (range_with_len a n))) (k * ch + c) (pos 0) ≡ get_or (f (a + k)) c (pos 0)
  unfolding interleaved
  joined_at a zero k c below channel = absurd (omega arith)
  joined_at a (suc n) zero c below channel =
      let rest = flat_map (λ x. x) (map f (range_with_len (a + 1) n)) in
      let place : 0 * ch + c ≡ c = omega arith in
      let first : a ≡ a + 0 = omega arith in
      ap (λ i. get_or (f a ++ rest) i (pos 0)) place
      ∙ get_or_append_left (f a) rest (pos 0) c (omega (arith, channel, width a))
      ∙ ap (λ m. get_or (f m) c (pos 0)) first
  joined_at a (suc n) (suc k) c below channel =
      let rest = flat_map (λ x. x) (map f (range_with_len (a + 1) n)) in
      let place : suc k * ch + c - length (f a) ≡ k * ch + c = omega (arith, width a) in
      let number : a + 1 + k ≡ a + suc k = omega arith in
      get_or-append_right (f a) rest (suc k * ch + c) (pos 0) (omega (arith, width a))
      ∙ ap (λ i. get_or rest i (pos 0)) place
      ∙ joined_at (a + 1) n k c (omega arith) channel
      ∙ ap (λ m. get_or (f m) c (pos 0)) number

pub page_written : (bytes : List ℕ) (w : Wave) (k n : ℕ) (cells : List ℤ) → wave bytes ≡ Ok w → 1 ≤ w.channels
    → n ≡ min (w.frames - frames_per_page * k) frames_per_page → n * w.channels ≤ length cells
    → Written w.channels n (λ f c. sample_of bytes w (frames_per_page * k + f) c) cells
    → take (n * w.channels) cells ≡ interleaved (page_frames bytes k)
page_written bytes w k n cells said some count room done =
    let ch = w.channels in
    let from = frames_per_page * k in
    let f : ℕ → List ℤ = λ m. frame_by (sample_of bytes w m) ch in
    let width : (m : ℕ) → length (f m) ≡ ch = λ m. length-map-range_with_len (sample_of bytes w m) 0 ch in
    let held : length (take (n * ch) cells) ≡ n * ch = omega (arith, room, length-take (n * ch) cells) in
    rw (page_by_number bytes w k said, ← count)
    (ext_get_or (pos 0) (take (n * ch) cells) (interleaved (map f (range_with_len from n)))
    (held ∙ sym (length_joined f ch width from n))
    (λ i lt.
    let inside : i < n * ch = omega (arith, lt, held) in
    let frame : i / ch < n = (div-lt_iff_lt-mul some).1 inside in
    let channel : i % ch < ch = mod-lt i some in
    let place : i / ch * ch + i % ch ≡ i = div-add-mod' i ch in
    get_or-take (n * ch) cells i (pos 0) inside
    ∙ ap (λ j. get_or cells j (pos 0)) (sym place)
    ∙ done.frames.each (i / ch) (i % ch) frame channel
    ∙ sym (get_or-map-range_with_len (sample_of bytes w (from + i / ch)) 0 ch (i % ch) (i % ch) (pos 0) channel (omega arith))
    ∙ sym (joined_at f ch width from n (i / ch) (i % ch) frame channel)
    ∙ ap (λ j. get_or (interleaved (map f (range_with_len from n))) j (pos 0)) place))

pub same_page : (p q : PageData) → p.channels ≡ q.channels → p.samples ≡ q.samples → p ≡ q
same_page p q channels samples =
    let made : ℕ → List ℤ → PageData = λ c s. record { channels = c; samples = s } in
    ap (λ c. made c p.samples) channels ∙ ap (made q.channels) samples

-- a list whose cells were all written is what was written
pub refilled : (len : ℕ) (new rest : List ℤ) → length new ≡ len → take len (new ++ rest) ≡ new
refilled len new rest full = rw (← full) (take-append_seam new rest)

-- where a sample of a page stands
pub page_sample : (bytes : List ℕ) (w : Wave) (k f c : ℕ) → wave bytes ≡ Ok w → f < frames_per_page
    → frames_per_page * k + f < w.frames → c < w.channels
    → get_or (interleaved (page_frames bytes k)) (f * w.channels + c) (pos 0) ≡ sample_of bytes w (frames_per_page * k + f) c
page_sample bytes w k f c said small below channel =
    let ch = w.channels in
    let from = frames_per_page * k in
    let n = min (w.frames - from) frames_per_page in
    let frame : ℕ → List ℤ = λ m. frame_by (sample_of bytes w m) ch in
    let width : (m : ℕ) → length (frame m) ≡ ch = λ m. length-map-range_with_len (sample_of bytes w m) 0 ch in
    rw (page_by_number bytes w k said)
    (joined_at frame ch width from n f c (omega arith) channel
    ∙ get_or-map-range_with_len (sample_of bytes w (from + f)) 0 ch c c (pos 0) channel (omega arith))
