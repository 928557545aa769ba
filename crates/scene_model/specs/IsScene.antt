-- What is true of every scene.
use Rattle.std.specs.Prelude.{◌≡◌, ◌≤◌, ℕ, Bool, true, ◌&&◌, ◌||◌, ◌==◌, nat_le, nat_lt, length, IsTrue, Option, None, Some}
use Rattle.std.specs.List.{list_all}
use Rattle.scene_model.specs.declared.resource.Resource.{Resource}
use Rattle.scene_model.specs.declared.node.Node.{Node}
use Rattle.scene_model.specs.declared.node.NodeKind.{NodeKind}
use Rattle.scene_model.specs.declared.node.NodeKind.TheVariants.{Sound, Group, Splitter}
use Rattle.scene_model.specs.declared.bus_row.BusRow.{BusRow}
use Rattle.scene_model.specs.declared.edit.Edit.{Edit}
use Rattle.scene_model.specs.declared.edit.Edit.TheVariants.{Attach, Detach, SetGain, Start, Stop, From, Until, Seek, Loop}
use Rattle.scene_model.specs.declared.edit.EditRow.{EditRow}
use Rattle.scene_model.specs.Buses.{bus_count}
use Rattle.scene_model.specs.Limits as limits
use Rattle.scene_model.specs.Names.{is_name, is_file_name}
use Rattle.scene_model.specs.SceneData.{SceneData}

abbrev pub is_width : ℕ → Bool
is_width bits = bits == 16 || bits == 24

-- a frame of the scene's clock that a row may name
abbrev pub is_time : ℕ → Bool
is_time frame = nat_le frame limits.most_frames

abbrev pub is_resource : Resource → Bool
is_resource r = is_name r.name && is_file_name r.file

-- a sound's resource is one of these many, and a splitter has 2 to 4 outputs
abbrev pub is_kind : ℕ → NodeKind → Bool
is_kind resources (Sound resource looped) = nat_lt resource resources
is_kind resources Group = true
is_kind resources (Splitter outputs) =
    nat_le limits.least_splitter_outputs outputs && nat_le outputs limits.most_splitter_outputs

abbrev pub is_node : ℕ → Node → Bool
is_node resources n = is_name n.name && is_kind resources n.kind && is_time n.from && is_time n.until

-- no node at all, the number of a node, or that of the endpoint, which has the next number
abbrev pub is_target : ℕ → Option ℕ → Bool
is_target nodes None = true
is_target nodes (Some to) = nat_le to nodes

abbrev pub is_bus_row : ℕ → BusRow → Bool
is_bus_row nodes b = nat_lt b.node nodes && is_target nodes b.to

-- the node is one of these many, and the value is in its range
abbrev pub is_edit : ℕ → Edit → Bool
is_edit nodes (Attach node out to) = nat_lt node nodes && is_target nodes (Some to)
is_edit nodes (Detach node out) = nat_lt node nodes
is_edit nodes (SetGain node out gain) = nat_lt node nodes
is_edit nodes (Start node) = nat_lt node nodes
is_edit nodes (Stop node) = nat_lt node nodes
is_edit nodes (From node value) = nat_lt node nodes && is_time value
is_edit nodes (Until node value) = nat_lt node nodes && is_time value
is_edit nodes (Seek node place) = nat_lt node nodes && nat_le place limits.last_place
is_edit nodes (Loop node on) = nat_lt node nodes

abbrev pub is_edit_row : ℕ → EditRow → Bool
is_edit_row nodes e = is_time e.at && nat_le e.editor limits.last_editor && is_edit nodes e.edit

pub record IsScene (s : SceneData) : Type 0 where
  pub version_is : s.version ≡ limits.version
  pub rate_least : 1 ≤ s.rate
  pub rate_most : s.rate ≤ limits.most_rate
  pub channels_least : 1 ≤ s.channels
  pub channels_most : s.channels ≤ limits.most_channels
  pub width_is : IsTrue (is_width s.width)
  pub length_most : s.length ≤ limits.most_frames
  pub resources_most : length s.resources ≤ limits.most_resources
  pub nodes_most : length s.nodes ≤ limits.most_nodes
  pub outputs_most : bus_count s.nodes ≤ limits.most_buses
  pub bus_rows_most : length s.buses ≤ limits.most_bus_rows
  pub edits_most : length s.edits ≤ limits.most_edits
  pub resources_are : IsTrue (list_all is_resource s.resources)
  pub nodes_are : IsTrue (list_all (is_node (length s.resources)) s.nodes)
  pub bus_rows_are : IsTrue (list_all (is_bus_row (length s.nodes)) s.buses)
  pub edits_are : IsTrue (list_all (is_edit_row (length s.nodes)) s.edits)
