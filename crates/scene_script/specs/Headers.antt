-- The top level of a script.
use Rattle.std.specs.Prelude.{ℕ, ℤ, pos, negsuc, ◌==◌, if◌then◌else◌, codes, List, [], ◌∷◌, Result, Ok, Err}
use Rattle.toml.specs.Data.{Members}
use Rattle.scene_model.specs.IsScene.{is_width}
use Rattle.scene_model.specs.Limits as limits
use Rattle.scene_script.specs.declared.fault.SceneFault.{SceneFault}
use Rattle.scene_script.specs.declared.fault.SceneFault.TheVariants.{Version, Limit}
use Rattle.scene_script.specs.declared.fault.Which.TheVariants as which
use Rattle.scene_script.specs.declared.fault.TableKind.TheVariants as kinds
use Rattle.scene_script.specs.declared.place.Place.{Place}
use Rattle.scene_script.specs.Checked.{◌>>=◌}
use Rattle.scene_script.specs.Fields.{place, bounds, integer_at, number_at, known_keys}

-- the numbers at the top
pub record Header : Type 0 where
  pub rate : ℕ
  pub channels : ℕ
  pub width : ℕ
  pub length : ℕ

-- the top level as a whole
abbrev pub top : Place
top = place kinds.Scene 0

-- its keys
abbrev pub top_keys : List (List ℕ)
top_keys =
    codes "version" ∷ codes "rate" ∷ codes "channels" ∷ codes "width" ∷ codes "length"
    ∷ codes "resource" ∷ codes "node" ∷ codes "bus" ∷ codes "edit" ∷ []

-- version 1
abbrev pub version_of : ℤ → Result (Unit {0}) SceneFault
version_of (pos n) = if n == limits.version then Ok tt else Err (Version (pos n))
version_of (negsuc n) = Err (Version (negsuc n))

unfoldable pub version : Members → Result (Unit {0}) SceneFault
version ms = integer_at top (codes "version") ms >>= version_of

-- 16 or 24 bits
abbrev pub width_of : ℤ → Result ℕ SceneFault
width_of (pos n) = if is_width n then Ok n else Err (Limit which.Width (pos n) (pos 24))
width_of (negsuc n) = Err (Limit which.Width (negsuc n) (pos 24))

unfoldable pub width_at : Members → Result ℕ SceneFault
width_at ms = integer_at top (codes "width") ms >>= width_of

-- the numbers, in the order of the form
unfoldable pub numbers : Members → Result Header SceneFault
numbers ms = do
  rate ← number_at top (codes "rate") (bounds which.Rate 1 limits.most_rate) ms
  channels ← number_at top (codes "channels") (bounds which.Channels 1 limits.most_channels) ms
  width ← width_at ms
  length ← number_at top (codes "length") (bounds which.Length 0 limits.most_frames) ms
  Ok (record { rate = rate; channels = channels; width = width; length = length })

-- there is no key but those
unfoldable pub known_top : Members → Result (Unit {0}) SceneFault
known_top ms = known_keys top top_keys ms

-- the version, then no key that isn't known, then the numbers
unfoldable pub header : Members → Result Header SceneFault
header ms = do
  is_version ← version ms
  is_known ← known_top ms
  numbers ms
