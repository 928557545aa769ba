-- The items of an array of the program beside those that contracts see.
use Rattle.std.proofs.Common.{◌≡◌, ◌∙◌, ℕ, ℤ, List, [], ◌∷◌, map, refl, ap}
use Rattle.std.specs.List.{position}
use Rattle.toml.specs.declared.value.Value.{Value}
use Rattle.toml.specs.Data.{Data}
use Rattle.toml.specs.View.{view, items_view}
use Rattle.scene_script.specs.declared.fault.Which.{Which}
use Rattle.scene_script.specs.FaultPlaces.{is_row, row_has, number_behind, first_row}
use Rattle.scene_script.proofs.Keys.{position_seen}
use Rattle.scene_script.specs.TableRows.{item_list}

pub item_list_of : (values : List Value) → item_list (items_view values) ≡ map view values
item_list_of [] = refl
item_list_of (v ∷ values) = ap (λ (ds : List Data). view v ∷ ds) (item_list_of values)

-- The place of the first row that has the number that was found, seen in the array of the program and in that of contracts.
pub first_place_of : (w : Which) (found : ℤ) (items : List Value) (n : ℕ) → n ≡ number_behind (position (λ item. is_row (row_has w found) (view item)) items) → n ≡ first_row w found (map view items)
unfolding first_row
first_place_of w found items n is = is ∙ ap number_behind (position_seen view (is_row (row_has w found)) items)
