-- Where the fault of a script stands: in which row, at which key and in which line.
use Rattle.std.specs.Prelude.{ℕ, ℤ, pos, ◌+◌, ◌-◌, ◌==◌, Bool, false, ◌&&◌, ◌||◌, int_lt, if◌then◌else◌, codes, List, [], length, position, slice_get, Option, None, Some, Result, Ok, Err}
use Rattle.std.specs.Ordering.{int_eq}
use Rattle.std.specs.List.{list_any}
use Rattle.std.specs.Option.{option_and_then, option_map_or}
use Rattle.std.specs.Str.{bytes_eq}
use Rattle.toml.specs.Data.{Data, array, Members, get_member, as_str, as_integer, as_table}
use Rattle.scene_script.specs.declared.fault.SceneFault.{SceneFault}
use Rattle.scene_script.specs.declared.fault.SceneFault.TheVariants.{NotToml, Version, MissingKey, WrongKind, UnknownKey, UnknownName, DoubleName, Limit, EditRefused}
use Rattle.scene_script.specs.declared.fault.TableKind.{TableKind}
use Rattle.scene_script.specs.declared.fault.TableKind.TheVariants as tables
use Rattle.scene_script.specs.declared.fault.Which.{Which}
use Rattle.scene_script.specs.declared.fault.Which.TheVariants as which
use Rattle.scene_script.specs.declared.fault_keys.RowForm.{RowForm}
use Rattle.scene_script.specs.declared.fault_keys.RowForm.TheVariants as rows
use Rattle.scene_script.specs.declared.fault_place.FaultPlace.{FaultPlace}
use Rattle.scene_script.specs.declared.fault_rows.RowPlace.{RowPlace}
use Rattle.scene_script.specs.declared.op_word.OpWord.{OpWord}
use Rattle.scene_script.specs.EditRows.{op_at, most_value}
use Rattle.scene_script.specs.FaultKeys.{row_form, missing_key, unfit_key, unknown_key, is_text_of}
use Rattle.scene_script.specs.FaultText.{table_text}
use Rattle.scene_script.specs.Fields.{place}
use Rattle.scene_script.specs.Lines.{row_line}
use Rattle.scene_script.specs.Script.{document}
use Rattle.scene_script.specs.TableRows.{item_list}

-- the items of a value that is an array
abbrev pub items_in : Option Data → List Data
items_in (Some (array items)) = item_list items
items_in _ = []

-- the rows of a table
abbrev pub items_at : TableKind → Members → List Data
items_at t ms = items_in (get_member (table_text t) ms)

-- the row of that number, from 1
abbrev pub numbered : ℕ → List Data → Option Members
numbered n ds = if n == 0 then None else option_and_then as_table (slice_get ds (n - 1))

-- the row of that number of a table, and the top level for the scene
unfoldable pub row_at : TableKind → ℕ → Members → Option Members
row_at tables.Scene n ms = Some ms
row_at tables.Resource n ms = numbered n (items_at tables.Resource ms)
row_at tables.Node n ms = numbered n (items_at tables.Node ms)
row_at tables.Bus n ms = numbered n (items_at tables.Bus ms)
row_at tables.Edit n ms = numbered n (items_at tables.Edit ms)

-- the integer and the text at a key
abbrev pub integer_in : List ℕ → Members → Option ℤ
integer_in key ms = option_and_then as_integer (get_member key ms)

abbrev pub text_in : List ℕ → Members → Option (List ℕ)
text_in key ms = option_and_then as_str (get_member key ms)

-- a value that is a table passes
abbrev pub is_row : (Members → Bool) → Data → Bool
is_row test d = option_map_or test (as_table d) false

-- a row has that number at a key
abbrev pub has_number : List ℕ → ℤ → Members → Bool
has_number key found ms = option_map_or (λ z. int_eq z found) (integer_in key ms) false

-- a row has a file name of that many bytes
abbrev pub has_file_of : ℤ → Members → Bool
has_file_of found ms = option_map_or (λ (name : List ℕ). int_eq (pos (length name)) found) (text_in (codes "file") ms) false

-- the number is below 0, or above the greatest value of the op
abbrev pub is_beyond : ℤ → Option ℕ → Bool
is_beyond found None = false
is_beyond found (Some most) = int_lt found (pos 0) || int_lt (pos most) found

abbrev pub most_of : Result OpWord SceneFault → Option ℕ
most_of (Ok word) = most_value word
most_of (Err f) = None

-- a row has that value, which its op doesn't allow
unfoldable pub has_value : ℤ → Members → Bool
has_value found ms = has_number (codes "value") found ms && is_beyond found (most_of (op_at (place tables.Edit 0) ms))

-- A row has the number that was found, which is out of its limits.
unfoldable pub row_has : Which → ℤ → Members → Bool
row_has which.FileName found ms = has_file_of found ms
row_has which.Outputs found ms = has_number (codes "outputs") found ms
row_has which.From found ms = has_number (codes "from") found ms
row_has which.Until found ms = has_number (codes "until") found ms
row_has which.Out found ms = has_number (codes "out") found ms
row_has which.Gain found ms = has_number (codes "gain") found ms
row_has which.At found ms = has_number (codes "at") found ms
row_has which.Value found ms = has_value found ms
row_has which.Editor found ms = has_number (codes "editor") found ms
row_has which.Rate found ms = false
row_has which.Channels found ms = false
row_has which.Width found ms = false
row_has which.Length found ms = false
row_has which.Resources found ms = false
row_has which.Nodes found ms = false
row_has which.Buses found ms = false
row_has which.BusRows found ms = false
row_has which.Edits found ms = false
row_has which.LiveLength found ms = false

-- the number behind a place, or 0
abbrev pub number_behind : Option ℕ → ℕ
number_behind None = 0
number_behind (Some n) = n + 1

-- the number of the first row that has it, from 1, or 0
unfoldable pub first_row : Which → ℤ → List Data → ℕ
first_row w found ds = number_behind (position (is_row (row_has w found)) ds)

-- a row of a table
abbrev pub row_place : TableKind → ℕ → RowPlace
row_place t n = record { table = t; row = n }

-- the first row of a table that has it
unfoldable pub first_place : TableKind → Which → ℤ → Members → RowPlace
first_place t w found ms = row_place t (first_row w found (items_at t ms))

-- the bus row with that output, or else the first edit row with it
unfoldable pub out_place : ℤ → Members → RowPlace → RowPlace
out_place found ms p = if p.row == 0 then first_place tables.Edit which.Out found ms else p

-- Where a number that is out of its limits stands: in the first row that has it, at the top level, or in a table as a whole.
unfoldable pub limit_place : Which → ℤ → Members → RowPlace
limit_place which.Rate found ms = row_place tables.Scene 0
limit_place which.Channels found ms = row_place tables.Scene 0
limit_place which.Width found ms = row_place tables.Scene 0
limit_place which.Length found ms = row_place tables.Scene 0
limit_place which.Resources found ms = row_place tables.Resource 0
limit_place which.FileName found ms = first_place tables.Resource which.FileName found ms
limit_place which.Nodes found ms = row_place tables.Node 0
limit_place which.Outputs found ms = first_place tables.Node which.Outputs found ms
limit_place which.From found ms = first_place tables.Node which.From found ms
limit_place which.Until found ms = first_place tables.Node which.Until found ms
limit_place which.Buses found ms = row_place tables.Node 0
limit_place which.BusRows found ms = row_place tables.Bus 0
limit_place which.Edits found ms = row_place tables.Edit 0
limit_place which.Out found ms = out_place found ms (first_place tables.Bus which.Out found ms)
limit_place which.Gain found ms = first_place tables.Bus which.Gain found ms
limit_place which.At found ms = first_place tables.Edit which.At found ms
limit_place which.Value found ms = first_place tables.Edit which.Value found ms
limit_place which.Editor found ms = first_place tables.Edit which.Editor found ms
limit_place which.LiveLength found ms = row_place tables.Scene 0

-- the row of a fault
unfoldable pub place_of : SceneFault → Members → RowPlace
place_of NotToml ms = row_place tables.Scene 0
place_of (Version n) ms = row_place tables.Scene 0
place_of (MissingKey t n) ms = row_place t n
place_of (WrongKind t n) ms = row_place t n
place_of (UnknownKey t n) ms = row_place t n
place_of (UnknownName t n) ms = row_place t n
place_of (DoubleName t n) ms = row_place t n
place_of (Limit w found limit) ms = limit_place w found ms
place_of (EditRefused t n reply) ms = row_place t n

-- the key of a number that has a limit
unfoldable pub limit_key : Which → Option (List ℕ)
limit_key which.Rate = Some (codes "rate")
limit_key which.Channels = Some (codes "channels")
limit_key which.Width = Some (codes "width")
limit_key which.Length = Some (codes "length")
limit_key which.Resources = None
limit_key which.FileName = Some (codes "file")
limit_key which.Nodes = None
limit_key which.Outputs = Some (codes "outputs")
limit_key which.From = Some (codes "from")
limit_key which.Until = Some (codes "until")
limit_key which.Buses = None
limit_key which.BusRows = None
limit_key which.Edits = None
limit_key which.Out = Some (codes "out")
limit_key which.Gain = Some (codes "gain")
limit_key which.At = Some (codes "at")
limit_key which.Value = Some (codes "value")
limit_key which.Editor = Some (codes "editor")
limit_key which.LiveLength = Some (codes "length")

-- some node row has that name
abbrev pub has_name : List ℕ → Members → Bool
has_name name row = is_text_of (λ text. bytes_eq text name) (text_in (codes "name") row)

abbrev pub is_node_name : List Data → List ℕ → Bool
is_node_name nodes name = list_any (is_row (has_name name)) nodes

-- the key of the name that no row has: that of a bus or an edit is `node` where no node row has its name, and else `to`
unfoldable pub nameless_key : List Data → TableKind → Members → Option (List ℕ)
nameless_key nodes tables.Scene row = None
nameless_key nodes tables.Resource row = None
nameless_key nodes tables.Node row = Some (codes "resource")
nameless_key nodes tables.Bus row = Some (if is_text_of (is_node_name nodes) (text_in (codes "node") row) then codes "to" else codes "node")
nameless_key nodes tables.Edit row = Some (if is_text_of (is_node_name nodes) (text_in (codes "node") row) then codes "to" else codes "node")

-- the key of a fault in its row
unfoldable pub key_in : SceneFault → List Data → TableKind → Members → Option (List ℕ)
key_in NotToml nodes t row = None
key_in (Version n) nodes t row = Some (codes "version")
key_in (MissingKey _ _) nodes t row = missing_key t row
key_in (WrongKind _ _) nodes t row = unfit_key t row
key_in (UnknownKey _ _) nodes t row = unknown_key t row
key_in (UnknownName _ _) nodes t row = nameless_key nodes t row
key_in (DoubleName _ _) nodes t row = Some (codes "name")
key_in (Limit w found limit) nodes t row = limit_key w
key_in (EditRefused _ _ reply) nodes t row = None

-- the form of the rows of a table of which none is meant
abbrev pub table_form : TableKind → RowForm
table_form tables.Scene = rows.Scene
table_form tables.Resource = rows.Resource
table_form tables.Node = rows.Node
table_form tables.Bus = rows.Bus
table_form tables.Edit = rows.Edit

-- where a fault stands whose row is that, or whose table as a whole
unfoldable pub place_with : List ℕ → SceneFault → Members → RowPlace → Option Members → FaultPlace
place_with text fault ms p None = record {
  table = p.table;
  row = p.row;
  form = table_form p.table;
  key = None;
  line = row_line p.table (length (items_at p.table ms)) p.row text;
}
place_with text fault ms p (Some row) = record {
  table = p.table;
  row = p.row;
  form = row_form p.table row;
  key = key_in fault (items_at tables.Node ms) p.table row;
  line = row_line p.table (length (items_at p.table ms)) p.row text;
}

-- where a fault stands in a document
unfoldable pub place_in : List ℕ → SceneFault → Members → FaultPlace
place_in text fault ms = place_with text fault ms (place_of fault ms) (row_at (place_of fault ms).table (place_of fault ms).row ms)

-- where a fault stands in a text, where that is a document
abbrev pub place_said : List ℕ → SceneFault → Result Members SceneFault → Option FaultPlace
place_said text fault (Ok ms) = Some (place_in text fault ms)
place_said text fault (Err f) = None

unfoldable pub fault_place : List ℕ → SceneFault → Option FaultPlace
fault_place text fault = place_said text fault (document text)
