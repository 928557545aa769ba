-- The names by which rows refer to resources and nodes.
use Rattle.std.specs.Prelude.{ℕ, if◌then◌else◌, codes, List, length, Option, None, Some, Result, Ok, Err}
use Rattle.std.specs.List.{position}
use Rattle.std.specs.Str.{bytes_eq}
use Rattle.toml.specs.Data.{Members}
use Rattle.scene_model.specs.declared.node.Node.{Node}
use Rattle.scene_model.specs.declared.resource.Resource.{Resource}
use Rattle.scene_script.specs.declared.fault.SceneFault.{SceneFault}
use Rattle.scene_script.specs.declared.fault.SceneFault.TheVariants.{UnknownName}
use Rattle.scene_script.specs.declared.place.Place.{Place}
use Rattle.scene_script.specs.Checked.{◌>>=◌}
use Rattle.scene_script.specs.Fields.{name_at}

-- the word for the endpoint, which no node has for its name
abbrev pub endpoint : List ℕ
endpoint = codes "endpoint"

-- the number of the resource or the node of that name, where there is one
abbrev pub resource_named : List Resource → List ℕ → Option ℕ
resource_named resources name = position (λ (r : Resource). bytes_eq r.name name) resources

abbrev pub node_named : List Node → List ℕ → Option ℕ
node_named nodes name = position (λ (n : Node). bytes_eq n.name name) nodes

-- the same for a target, which may be the endpoint
abbrev pub target_named : List Node → List ℕ → Option ℕ
target_named nodes name = if bytes_eq name endpoint then Some (length nodes) else node_named nodes name

-- the number of what the name at a key refers to, and none where no row has the name
unfoldable pub resource_at : Place → List Resource → List ℕ → Members → Result (Option ℕ) SceneFault
resource_at p resources key ms = name_at p key ms >>= λ name. Ok (resource_named resources name)

unfoldable pub node_at : Place → List Node → List ℕ → Members → Result (Option ℕ) SceneFault
node_at p nodes key ms = name_at p key ms >>= λ name. Ok (node_named nodes name)

unfoldable pub target_at : Place → List Node → List ℕ → Members → Result (Option ℕ) SceneFault
target_at p nodes key ms = name_at p key ms >>= λ name. Ok (target_named nodes name)

-- a row has the name
abbrev pub known_name : Place → Option ℕ → Result ℕ SceneFault
known_name p None = Err (UnknownName p.table p.row)
known_name p (Some n) = Ok n
