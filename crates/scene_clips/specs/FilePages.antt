-- The pages of a file of which the first are at hand, and how many of them are needed.
use Rattle.std.specs.Prelude.{◌≡◌, ◌⊎◌, ℕ, ◌+◌, ◌/◌, ◌<◌, ℤ, pos, List, Option, Some, None, length, min, replicate, slice_index_or}
use Rattle.clip_decode.specs.Frames.{frames, interleaved}
use Rattle.clip_decode.specs.Pages.{PageData, frames_per_page, page_count, page_frames}
use Rattle.rate_fit.specs.Points.{point_at}
use Rattle.scene_clips.specs.ClipFrames.{file_rate}
use Rattle.scene_clips.specs.Unchanged.{file_channels}

-- page k of a file, in the file's channels
abbrev pub file_page : List ℕ → ℕ → PageData
file_page bytes k = record { channels = file_channels bytes; samples = interleaved (page_frames bytes k) }

-- the first so many pages of a file are there, each at the place of its number
abbrev pub AreThere : List ℕ → List (Option PageData) → ℕ → Type 0
AreThere bytes pages count = (k : ℕ) → k < count → slice_index_or pages k None ≡ Some (file_page bytes k)

-- frame n of those of so many channels. Past the end it is one of 0, as is the frame that the last one is blended with
abbrev pub frame_or_silence : ℕ → List (List ℤ) → ℕ → List ℤ
frame_or_silence channels frames n = slice_index_or frames n (replicate channels (pos 0))

-- how many of the first pages have a frame of the file and the next one, if the file has one
abbrev pub pages_through : List ℕ → ℕ → ℕ
pages_through bytes first = page_count (min (first + 2) (length (frames bytes)))

-- Frame n at the scene's rate is made of the frame of the file at or before it and of the next one, if the file has one. So
-- many of the first pages have both.
abbrev pub pages_to : List ℕ → ℕ → ℕ → ℕ
pages_to bytes rate n = pages_through bytes (point_at (file_rate bytes) rate n).first

-- frame n at the scene's rate is made of page k: the one of the two frames stands there, or the other
abbrev pub IsMadeOf : List ℕ → ℕ → ℕ → ℕ → Type 0
IsMadeOf bytes rate n k =
    let first = (point_at (file_rate bytes) rate n).first in
    (k ≡ first / frames_per_page) ⊎ ((first + 1 < length (frames bytes)) × (k ≡ (first + 1) / frames_per_page))
