-- The rows of `bus`.
use Rattle.std.specs.Prelude.{ℕ, ◌+◌, codes, List, [], ◌∷◌, length, Option, None, Some, Result, Ok}
use Rattle.toml.specs.Data.{Data, Members, get_member}
use Rattle.scene_model.specs.declared.bus_row.BusRow.{BusRow}
use Rattle.scene_model.specs.declared.node.Node.{Node}
use Rattle.scene_model.specs.Limits as limits
use Rattle.scene_script.specs.declared.fault.SceneFault.{SceneFault}
use Rattle.scene_script.specs.declared.fault.Which.TheVariants as which
use Rattle.scene_script.specs.declared.fault.TableKind.TheVariants as kinds
use Rattle.scene_script.specs.declared.bus_rows.To.{To}
use Rattle.scene_script.specs.declared.bus_rows.To.TheVariants.{Nowhere, Named}
use Rattle.scene_script.specs.declared.bus_rows.BusKeys.{BusKeys}
use Rattle.scene_script.specs.declared.place.Place.{Place}
use Rattle.scene_script.specs.Checked.{◌>>=◌, each}
use Rattle.scene_script.specs.Fields.{place, bounds, number_or, output_at, known_keys}
use Rattle.scene_script.specs.Limits as script_limits
use Rattle.scene_script.specs.Names.{node_at, target_at, known_name}
use Rattle.scene_script.specs.TableRows.{rows_at}

-- the target that the row names, if it names one
abbrev pub to_of : Place → List Node → Members → Option Data → Result To SceneFault
to_of p nodes ms None = Ok Nowhere
to_of p nodes ms (Some d) = target_at p nodes (codes "to") ms >>= λ to. Ok (Named to)

-- the target at `to`
unfoldable pub to_at : Place → List Node → Members → Result To SceneFault
to_at p nodes ms = to_of p nodes ms (get_member (codes "to") ms)

-- the keys, in order
unfoldable pub bus_keys : Place → List Node → Members → Result BusKeys SceneFault
bus_keys p nodes ms = do
  node ← node_at p nodes (codes "node") ms
  out ← output_at p ms
  to ← to_at p nodes ms
  gain ← number_or p (codes "gain") (bounds which.Gain 0 script_limits.most_named_gain) limits.unity_gain ms
  Ok (record { node = node; out = out; to = to; gain = gain })

-- the name of the target is that of a row or of the endpoint, if there is one
abbrev pub known_to : Place → To → Result (Option ℕ) SceneFault
known_to p Nowhere = Ok None
known_to p (Named to) = known_name p to >>= λ n. Ok (Some n)

-- the row, where the names are those of rows
unfoldable pub known_bus : Place → BusKeys → Result BusRow SceneFault
known_bus p b = do
  node ← known_name p b.node
  to ← known_to p b.to
  Ok (record { node = node; out = b.out; to = to; gain = b.gain })

-- there is no key but those of a bus row
unfoldable pub known_bus_keys : Place → Members → Result (Unit {0}) SceneFault
known_bus_keys p ms = known_keys p (codes "node" ∷ codes "out" ∷ codes "to" ∷ codes "gain" ∷ []) ms

-- the bus row of a row, by those before it, of which only the number matters
unfoldable pub bus_row : List Node → List BusRow → Members → Result BusRow SceneFault
bus_row nodes before ms = let p = place kinds.Bus (length before + 1) in do
  is_known ← known_bus_keys p ms
  keys ← bus_keys p nodes ms
  known_bus p keys

-- the bus rows of rows, in order
abbrev pub bus_rows : List Node → List Members → Result (List BusRow) SceneFault
bus_rows nodes rows = each (bus_row nodes) [] rows

-- the bus rows of a script
unfoldable pub buses : List Node → Members → Result (List BusRow) SceneFault
buses nodes ms = rows_at kinds.Bus (codes "bus") which.BusRows limits.most_bus_rows ms >>= bus_rows nodes
