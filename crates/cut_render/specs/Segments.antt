-- Pieces of a sound, by the frames that they have.
use Rattle.std.specs.Prelude.{ℕ, ◌≤◌, List, sum_by, All}
use Rattle.cut_render.specs.declared.segment.Segment.{Segment}

-- the most segments of a cut
abbrev pub most_segments : ℕ
most_segments = 64

-- the last frame at which a segment begins
abbrev pub last_place : ℕ
last_place = 140737488355327

-- the most frames of a segment, and of all segments of a cut
abbrev pub most_frames : ℕ
most_frames = 16777216

-- the frames of all segments
abbrev pub total_frames : List Segment → ℕ
total_frames segments = sum_by (λ segment. segment.count) segments

-- segments that can be cut: none begins too late, and they have no more frames than are written
pub record CanBeCut (segments : List Segment) : Type 0 where
  pub places : All (λ (segment : Segment). segment.place ≤ last_place) segments
  pub frames : total_frames segments ≤ most_frames
