-- The rows of one kind.
use Rattle.std.specs.Prelude.{ℕ, pos, List, [], ◌∷◌, length, Result, Ok, Err}
use Rattle.toml.specs.Data.{Data, array, table, Items, item, no_items, Members, get_member}
use Rattle.scene_script.specs.declared.fault.SceneFault.{SceneFault}
use Rattle.scene_script.specs.declared.fault.SceneFault.TheVariants.{WrongKind}
use Rattle.scene_script.specs.declared.fault.Which.{Which}
use Rattle.scene_script.specs.declared.fault.TableKind.{TableKind}
use Rattle.scene_script.specs.declared.place.Place.{Place}
use Rattle.scene_script.specs.Checked.{◌>>=◌, each}
use Rattle.scene_script.specs.Fields.{place, bounds, within, default_or}

-- the items of an array as a list
abbrev pub item_list : Items → List Data
item_list no_items = []
item_list (item d items) = d ∷ item_list items

-- the table that a value is
abbrev pub table_of : Place → Data → Result Members SceneFault
table_of p (table ms) = Ok ms
table_of p _ = Err (WrongKind p.table p.row)

-- each of the values is a table
abbrev pub all_tables : Place → List Data → Result (List Members) SceneFault
all_tables p ds = each (λ before d. table_of p d) [] ds

-- an array of tables
abbrev pub tables_of : Place → Data → Result (List Members) SceneFault
tables_of p (array items) = all_tables p (item_list items)
tables_of p _ = Err (WrongKind p.table p.row)

-- there are no more rows than allowed
abbrev pub at_most : Which → ℕ → List Members → Result (List Members) SceneFault
at_most which most rows = within (bounds which 0 most) (pos (length rows)) >>= λ count. Ok rows

-- the rows at a key, which is an array of tables of at most that many; none where the key is absent
unfoldable pub rows_at : TableKind → List ℕ → Which → ℕ → Members → Result (List Members) SceneFault
rows_at kind key which most ms =
    default_or [] (tables_of (place kind 0)) (get_member key ms) >>= at_most which most
