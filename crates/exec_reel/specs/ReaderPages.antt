-- The pages that a reader has taken.
use Rattle.std.specs.Prelude.{◌≡◌, ℕ, ◌<◌, cond, List, length, Option, Some, None}
use mathlib.Core.Option.{some}
use lib.ListN.{get_elem?}
use Rattle.clip_decode.specs.ClipData.{ClipData}
use Rattle.clip_decode.specs.Pages.{PageData}
use Rattle.exec_reel.specs.ClipPages.{page_total, page_of}
use Rattle.exec_reel.specs.Rule.{is_among}

-- as many places as that, none of which has a page
pub record AreNone (count : ℕ) (pages : List (Option PageData)) : Type 0 where
  pub count_is : length pages ≡ count
  pub each : (j : ℕ) → j < count → get_elem? pages j ≡ some None

-- the place of page j: the page, where it was taken
abbrev pub kept_at : ClipData → List ℕ → ℕ → Option PageData
kept_at clip taken j = cond (is_among j taken) (Some (page_of clip j)) None

pub record KeepsPages (clip : ClipData) (taken : List ℕ) (pages : List (Option PageData)) : Type 0 where
  pub count : length pages ≡ page_total clip
  pub each : (j : ℕ) → j < page_total clip → get_elem? pages j ≡ some (kept_at clip taken j)
