-- The scene of a script, or its first fault.
use Rattle.std.specs.Prelude.{ℕ, List, Option, None, Some, Result, Ok, Err, if◌then◌else◌}
use Rattle.std.specs.Str.{is_utf8}
use Rattle.toml.specs.Data.{Members}
use Rattle.toml.specs.Parse.{parse_document}
use Rattle.scene_model.specs.Limits as limits
use Rattle.scene_model.specs.SceneData.{SceneData}
use Rattle.scene_script.specs.declared.fault.SceneFault.{SceneFault}
use Rattle.scene_script.specs.declared.fault.SceneFault.TheVariants.{NotToml}
use Rattle.scene_script.specs.BusRows as bus_rows
use Rattle.scene_script.specs.Checked.{◌>>=◌}
use Rattle.scene_script.specs.EditRows as edit_rows
use Rattle.scene_script.specs.Headers as headers
use Rattle.scene_script.specs.Wiring.{wired}
use Rattle.scene_script.specs.NodeRows as node_rows
use Rattle.scene_script.specs.ResourceRows as resource_rows

-- what the grammar of TOML makes of a text, if anything
abbrev pub parsed : Option Members → Result Members SceneFault
parsed None = Err NotToml
parsed (Some ms) = Ok ms

-- the table of a TOML document, whose text is UTF-8
unfoldable pub document : List ℕ → Result Members SceneFault
document text = parsed (if is_utf8 text then parse_document text else None)

-- The top level, then the rows of each kind, by those of the kinds before; and then the edits of all of them are made. The
-- first fault in this order is the answer.
unfoldable pub scene_of : Members → Result SceneData SceneFault
scene_of ms = do
  header ← headers.header ms
  resources ← resource_rows.resources ms
  nodes ← node_rows.nodes resources ms
  buses ← bus_rows.buses nodes ms
  edits ← edit_rows.edits nodes ms
  is_wired ← wired nodes buses edits
  Ok (record { version = limits.version; rate = header.rate; channels = header.channels; width = header.width; length = header.length; resources = resources; nodes = nodes; buses = buses; edits = edits })

-- the scene of a text
unfoldable pub scene : List ℕ → Result SceneData SceneFault
scene text = document text >>= scene_of
