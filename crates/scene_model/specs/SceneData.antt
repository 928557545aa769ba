-- What a contract sees of a scene: its fields, with each list as a list.
use Rattle.std.specs.Prelude.{ℕ, List}
use Rattle.scene_model.specs.declared.resource.Resource.{Resource}
use Rattle.scene_model.specs.declared.node.Node.{Node}
use Rattle.scene_model.specs.declared.bus_row.BusRow.{BusRow}
use Rattle.scene_model.specs.declared.edit.EditRow.{EditRow}

pub record SceneData : Type 0 where
  pub version : ℕ
  pub rate : ℕ
  pub channels : ℕ
  pub width : ℕ
  pub length : ℕ
  pub resources : List Resource
  pub nodes : List Node
  pub buses : List BusRow
  pub edits : List EditRow
