-- The texts of faults and errors. Numbers are decimal.
use Rattle.std.specs.Prelude.{ℕ, List, ◌++◌, codes}
use Rattle.std.specs.Fmt.{decimal, signed_decimal}
use Rattle.scene_model.specs.ReplyText.{reply_text}
use Rattle.scene_script.specs.declared.fault.SceneFault.{SceneFault}
use Rattle.scene_script.specs.declared.fault.SceneFault.TheVariants.{NotToml, Version, MissingKey, WrongKind, UnknownKey, UnknownName, DoubleName, Limit, EditRefused}
use Rattle.scene_script.specs.declared.fault.TableKind.{TableKind}
use Rattle.scene_script.specs.declared.fault.TableKind.TheVariants as tables
use Rattle.scene_script.specs.declared.fault.Which.{Which}
use Rattle.scene_script.specs.declared.fault.Which.TheVariants as which
use Rattle.scene_script.specs.declared.script_error.ScriptError.{ScriptError}
use Rattle.scene_script.specs.declared.script_error.ScriptError.TheVariants as errors

-- the names of tables
abbrev pub table_text : TableKind → List ℕ
table_text tables.Scene = codes "scene"
table_text tables.Resource = codes "resource"
table_text tables.Node = codes "node"
table_text tables.Bus = codes "bus"
table_text tables.Edit = codes "edit"

-- the names of numbers that have a limit
abbrev pub which_text : Which → List ℕ
which_text which.Rate = codes "Rate"
which_text which.Channels = codes "Channels"
which_text which.Width = codes "Width"
which_text which.Length = codes "Length"
which_text which.Resources = codes "Resources"
which_text which.FileName = codes "FileName"
which_text which.Nodes = codes "Nodes"
which_text which.Outputs = codes "Outputs"
which_text which.From = codes "From"
which_text which.Until = codes "Until"
which_text which.Buses = codes "Buses"
which_text which.BusRows = codes "BusRows"
which_text which.Edits = codes "Edits"
which_text which.Out = codes "Out"
which_text which.Gain = codes "Gain"
which_text which.At = codes "At"
which_text which.Value = codes "Value"
which_text which.Editor = codes "Editor"
which_text which.LiveLength = codes "LiveLength"

-- a fault's name, its table and its row, each after a space
abbrev pub in_row : List ℕ → TableKind → ℕ → List ℕ
in_row name table row = name ++ codes " " ++ table_text table ++ codes " " ++ decimal row

-- the name of a fault and then its fields, each after a space
abbrev pub fault_text : SceneFault → List ℕ
fault_text NotToml = codes "NotToml"
fault_text (Version n) = codes "Version " ++ signed_decimal n
fault_text (MissingKey table row) = in_row (codes "MissingKey") table row
fault_text (WrongKind table row) = in_row (codes "WrongKind") table row
fault_text (UnknownKey table row) = in_row (codes "UnknownKey") table row
fault_text (UnknownName table row) = in_row (codes "UnknownName") table row
fault_text (DoubleName table row) = in_row (codes "DoubleName") table row
fault_text (Limit which found limit) =
    codes "Limit " ++ which_text which ++ codes " " ++ signed_decimal found ++ codes " " ++ signed_decimal limit
fault_text (EditRefused table row reply) = in_row (codes "EditRefused") table row ++ codes " " ++ reply_text reply

-- the text of why a text gives no scene
abbrev pub error_text : ScriptError → List ℕ
error_text (errors.Fault fault) = fault_text fault
error_text errors.OutOfMemory = codes "out of memory"
