-- The pages that a tape has at hand are those of the file of its clip.
use Rattle.std.proofs.Common.{◌≡◌, ℕ, ◌<◌, List, get_or, Option, Some, None, sym, ◌∙◌, ap}
use Rattle.clip_decode.specs.Frames.{interleaved}
use Rattle.clip_decode.specs.Pages.{PageData, page_frames}
use Rattle.exec_reel.specs.ClipPages.{page_of}
use Rattle.scene_clips.specs.FilePages.{AreThere, file_page}
use Rattle.scene_clips.specs.Unchanged.{channels_said}
use Rattle.resource_mgr.specs.Tapes.{HasPages, bytes_of, clip_of}
use Rattle.resource_mgr.specs.declared.tape.Tape.{Tape}

pub given_there : (t : Tape) (bytes : List ℕ) (pages : List (Option PageData)) (count : ℕ) → bytes_of t ≡ bytes
    → ((n k : ℕ) → HasPages n t → k < n → get_or pages k None ≡ Some (page_of (clip_of t) k)) → HasPages count t → AreThere bytes pages count
given_there t bytes pages count same given has k below =
    given count k has below
    ∙ ap (λ said. Some (record { channels = channels_said said; samples = interleaved (page_frames (bytes_of t) k) })) (sym t.surveyed)
    ∙ ap (λ b. Some (file_page b k)) same
