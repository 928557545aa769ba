-- The rows of `resource`.
use Rattle.std.specs.Prelude.{ℕ, ◌+◌, pos, if◌then◌else◌, codes, List, [], ◌∷◌, length, Result, Ok, Err}
use Rattle.std.specs.List.{list_any}
use Rattle.std.specs.Str.{bytes_eq}
use Rattle.toml.specs.Data.{Members}
use Rattle.scene_model.specs.declared.resource.Resource.{Resource}
use Rattle.scene_model.specs.Limits as limits
use Rattle.scene_script.specs.declared.fault.SceneFault.{SceneFault}
use Rattle.scene_script.specs.declared.fault.SceneFault.TheVariants.{DoubleName}
use Rattle.scene_script.specs.declared.fault.Which.TheVariants as which
use Rattle.scene_script.specs.declared.fault.TableKind.TheVariants as kinds
use Rattle.scene_script.specs.declared.place.Place.{Place}
use Rattle.scene_script.specs.Checked.{◌>>=◌, each}
use Rattle.scene_script.specs.Fields.{place, bounds, within, text_at, name_at, known_keys}
use Rattle.scene_script.specs.TableRows.{rows_at}

-- the name of a sound file has 1 to 255 bytes
abbrev pub file_of : List ℕ → Result (List ℕ) SceneFault
file_of text = within (bounds which.FileName 1 limits.most_file_name_bytes) (pos (length text)) >>= λ bytes. Ok text

-- the name of the sound file
unfoldable pub file_at : Place → Members → Result (List ℕ) SceneFault
file_at p ms = text_at p (codes "file") ms >>= file_of

-- no earlier resource has the name
unfoldable pub new_resource : Place → List Resource → List ℕ → Result (Unit {0}) SceneFault
new_resource p before name =
    if list_any (λ (r : Resource). bytes_eq r.name name) before then Err (DoubleName p.table p.row) else Ok tt

-- the resource of a row, by those of the rows before it
unfoldable pub resource_row : List Resource → Members → Result Resource SceneFault
resource_row before ms = let p = place kinds.Resource (length before + 1) in do
  is_known ← known_keys p (codes "name" ∷ codes "file" ∷ []) ms
  name ← name_at p (codes "name") ms
  file ← file_at p ms
  is_new ← new_resource p before name
  Ok (record { name = name; file = file })

-- the resources of rows, in order
abbrev pub resource_rows : List Members → Result (List Resource) SceneFault
resource_rows rows = each resource_row [] rows

-- the resources of a script
unfoldable pub resources : Members → Result (List Resource) SceneFault
resources ms = rows_at kinds.Resource (codes "resource") which.Resources limits.most_resources ms >>= resource_rows
