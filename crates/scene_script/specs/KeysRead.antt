-- What is true of keys that were read: they are in their ranges.
use Rattle.std.specs.Prelude.{◌≤◌, ◌<◌, ℕ, IsTrue, IfSome}
use Rattle.scene_model.specs.IsScene.{is_width}
use Rattle.scene_model.specs.Limits as limits
use Rattle.scene_script.specs.declared.bus_rows.BusKeys.{BusKeys}
use Rattle.scene_script.specs.declared.bus_rows.To.{To}
use Rattle.scene_script.specs.declared.bus_rows.To.TheVariants.{Nowhere, Named}
use Rattle.scene_script.specs.declared.edit_keys.EditKeys.{EditKeys}
use Rattle.scene_script.specs.declared.node_keys.OwnKeys.{OwnKeys}
use Rattle.scene_script.specs.declared.node_keys.OwnKeys.TheVariants as own
use Rattle.scene_script.specs.declared.op_word.OpWord.{OpWord}
use Rattle.scene_script.specs.EditRows.{most_value}
use Rattle.scene_script.specs.Headers.{Header}

-- the numbers at the top
pub record IsHeader (h : Header) : Type 0 where
  pub rate_least : 1 ≤ h.rate
  pub rate_most : h.rate ≤ limits.most_rate
  pub channels_least : 1 ≤ h.channels
  pub channels_most : h.channels ≤ limits.most_channels
  pub width_is : IsTrue (is_width h.width)
  pub length_most : h.length ≤ limits.most_frames

-- the resource is one of these many, and the outputs are as many as a splitter has
abbrev pub IsOwn : ℕ → OwnKeys → Type 0
IsOwn resources (own.Sound resource looped) = IfSome resource (λ n. n < resources)
IsOwn resources own.Group = Unit {0}
IsOwn resources (own.Splitter outputs) =
    (limits.least_splitter_outputs ≤ outputs) × (outputs ≤ limits.most_splitter_outputs)

-- a target is one of these many nodes, or the endpoint, which has the next number
abbrev pub IsTo : ℕ → To → Type 0
IsTo nodes Nowhere = Unit {0}
IsTo nodes (Named to) = IfSome to (λ n. n ≤ nodes)

-- the keys of a bus row of that many nodes
pub record IsBusKeys (nodes : ℕ) (b : BusKeys) : Type 0 where
  pub node_is : IfSome b.node (λ n. n < nodes)
  pub to_is : IsTo nodes b.to

-- the keys of an edit of that op, of that many nodes
pub record IsEditKeys (nodes : ℕ) (w : OpWord) (k : EditKeys) : Type 0 where
  pub at_most : k.at ≤ limits.most_frames
  pub node_is : IfSome k.node (λ n. n < nodes)
  pub to_is : IfSome k.to (λ n. n ≤ nodes)
  pub value_most : IfSome (most_value w) (λ greatest. k.value ≤ greatest)
  pub editor_most : k.editor ≤ limits.last_editor
