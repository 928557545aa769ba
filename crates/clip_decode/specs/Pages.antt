-- Pages, the parts of 8192 frames in which a file is decoded. Their size is this project's choice.
use Rattle.std.specs.Prelude.{ℕ, ◌*◌, ℤ, List, take, drop}
use Rattle.std.specs.Int.{div_ceil}
use Rattle.clip_decode.specs.Frames.{frames}

abbrev pub frames_per_page : ℕ
frames_per_page = 8192

-- how many pages so many frames fill: their number divided by 8192, rounded up
abbrev pub page_count : ℕ → ℕ
page_count frames = div_ceil frames frames_per_page

-- the frames of page k: 8192 of them from frame 8192 * k on, or as many as are left
unfoldable pub page_frames : List ℕ → ℕ → List (List ℤ)
page_frames bytes k = take frames_per_page (drop (frames_per_page * k) (frames bytes))

-- a page, as contracts see it: the channels that it was made for, and the samples that it holds, interleaved
pub record PageData : Type 0 where
  pub channels : ℕ
  pub samples : List ℤ
