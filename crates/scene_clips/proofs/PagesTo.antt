-- Which pages of its file a frame of a clip is made of.
use Rattle.std.proofs.Common.{◌≡◌, ◌⊎◌, inl, inr, ℕ, ◌+◌, ◌*◌, ◌/◌, ◌<◌, ◌≤◌, List, length, min, Option, ap, sym, ◌∙◌, arith}
use Rattle.std.specs.Prelude.{Ok}
use Rattle.std.proofs.Math.Nat.{mul-le-mul_right, mul-div_cancel, le_trans, div-mul-le_self}
use Rattle.std.proofs.lemmas.Bool.{cases_lt}
use Rattle.std.proofs.lemmas.Nat.{le-div}
use Rattle.clip_decode.specs.Frames.{frames}
use Rattle.clip_decode.specs.Pages.{page_count, PageData}
use Rattle.rate_fit.specs.Points.{point_at}
use Rattle.rate_fit.specs.declared.point.Point.{Point}
use Rattle.wave_read.specs.Wave.{wave}
use Rattle.wave_read.specs.declared.wave.Wave.{Wave}
use Rattle.scene_clips.specs.ClipFrames.{file_rate}
use Rattle.scene_clips.specs.FilePages.{AreThere, IsMadeOf, pages_through, pages_to}
use Rattle.scene_clips.proofs.FilePages.{fewer_there, frames_counted}
use Rattle.scene_clips.proofs.Rates.{rate_of}

page_within : (bytes : List ℕ) (w : Wave) (first n : ℕ) → wave bytes ≡ Ok w → n < w.frames → n ≤ first + 1 → n / 8192 + 1 ≤ pages_through bytes first
page_within bytes w first n said below near = let count = frames_counted bytes w said in omega (arith, below, near, count)

-- the page of one of the two frames of the file
pub frame_there : (bytes : List ℕ) (w : Wave) (pages : List (Option PageData)) (first n : ℕ) → wave bytes ≡ Ok w → n ≤ first + 1
    → AreThere bytes pages (pages_through bytes first) → n < w.frames → AreThere bytes pages (n / 8192 + 1)
frame_there bytes w pages first n said near there below =
    fewer_there bytes pages (n / 8192 + 1) (pages_through bytes first) (page_within bytes w first n said below near) there

pub few_through : (bytes : List ℕ) (first : ℕ) → pages_through bytes first ≤ page_count (length (frames bytes))
few_through bytes first = omega arith

pub some_through : (bytes : List ℕ) (w : Wave) (first : ℕ) → wave bytes ≡ Ok w → 0 < w.frames → 0 < pages_through bytes first
some_through bytes w first said some = let count = frames_counted bytes w said in omega (arith, some, count)

pub pages_ordered : (bytes : List ℕ) (rate m n : ℕ) → 0 < rate → m ≤ n → pages_to bytes rate m ≤ pages_to bytes rate n
pages_ordered bytes rate m n some less =
    let r = file_rate bytes in
    let places : m * r ≤ n * r = mul-le-mul_right {m = m} {n = n} r less in
    let first : m * r / rate ≤ n * r / rate = le-div (m * r / rate) (n * r) rate some (le_trans (div-mul-le_self (m * r) rate) places) in
    omega (arith, first)

-- by the frame of the file that a converter answers
pub through_is : (bytes : List ℕ) (w : Wave) (input_rate rate n : ℕ) (p : Point) → wave bytes ≡ Ok w → input_rate ≡ w.rate → p ≡ point_at input_rate rate n
    → pages_through bytes p.first ≡ pages_to bytes rate n
through_is bytes w input_rate rate n p said is point =
    ap (λ (q : Point). pages_through bytes q.first) point
    ∙ ap (λ r. pages_through bytes (point_at r rate n).first) (is ∙ sym (rate_of bytes w said))

-- where nothing is converted
pub unchanged_there : (bytes : List ℕ) (w : Wave) (pages : List (Option PageData)) (rate n : ℕ) → wave bytes ≡ Ok w → rate ≡ w.rate → 0 < w.rate
    → AreThere bytes pages (pages_to bytes rate n) → n < w.frames → AreThere bytes pages (n / 8192 + 1)
unchanged_there bytes w pages rate n said same some there below =
    let first : (point_at (file_rate bytes) rate n).first ≡ n =
    ap (λ r. n * r / rate) (rate_of bytes w said) ∙ ap (λ r. n * w.rate / r) same ∙ mul-div_cancel n {n = w.rate} some in
    frame_there bytes w pages (point_at (file_rate bytes) rate n).first n said (omega (arith, first)) there below

-- the last of these pages is one of those that the frame is made of
last_page : (first len k : ℕ) → first < len → k + 1 ≡ page_count (min (first + 2) len) → (k ≡ first / 8192) ⊎ ((first + 1 < len) × (k ≡ (first + 1) / 8192))
last_page first len k inside is = by_end (cases_lt (first + 1) len)
  where
    by_end : (first + 1 < len) ⊎ (len ≤ first + 1) → (k ≡ first / 8192) ⊎ ((first + 1 < len) × (k ≡ (first + 1) / 8192))
    by_end (inl less) = inr (less, omega (arith, is, less))
    by_end (inr past) = inl (omega (arith, is, past, inside))

pub made_of : (bytes : List ℕ) (w : Wave) (input_rate rate n k : ℕ) (p : Point) → wave bytes ≡ Ok w → input_rate ≡ w.rate → p ≡ point_at input_rate rate n
    → p.first < w.frames → k + 1 ≡ pages_to bytes rate n → IsMadeOf bytes rate n k
made_of bytes w input_rate rate n k p said is point inside last =
    let count = frames_counted bytes w said in
    let first : p.first ≡ (point_at (file_rate bytes) rate n).first =
    ap (λ (q : Point). q.first) point ∙ ap (λ r. (point_at r rate n).first) (is ∙ sym (rate_of bytes w said)) in
    last_page (point_at (file_rate bytes) rate n).first (length (frames bytes)) k (omega (arith, inside, count, first)) last
