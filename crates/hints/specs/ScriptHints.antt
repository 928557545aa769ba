-- What is said to a person of a fault of a script.
use Rattle.std.specs.Prelude.{ℕ, ◌==◌, if◌then◌else◌, codes, List, [], ◌++◌, Option, None, Some}
use Rattle.std.specs.Fmt.{decimal, signed_decimal}
use Rattle.std.specs.Str.{bytes_eq}
use Rattle.scene_model.specs.declared.reply.Reply.{Reply}
use Rattle.scene_model.specs.declared.reply.Reply.TheVariants as replies
use Rattle.scene_script.specs.declared.fault.SceneFault.{SceneFault}
use Rattle.scene_script.specs.declared.fault.SceneFault.TheVariants.{NotToml, Version, MissingKey, WrongKind, UnknownKey, UnknownName, DoubleName, Limit, EditRefused}
use Rattle.scene_script.specs.declared.fault.TableKind.{TableKind}
use Rattle.scene_script.specs.declared.fault.TableKind.TheVariants as tables
use Rattle.scene_script.specs.declared.fault.Which.{Which}
use Rattle.scene_script.specs.declared.fault.Which.TheVariants as which
use Rattle.scene_script.specs.declared.fault_keys.RowForm.{RowForm}
use Rattle.scene_script.specs.declared.fault_keys.RowForm.TheVariants as rows
use Rattle.scene_script.specs.declared.fault_place.FaultPlace.{FaultPlace}
use Rattle.scene_script.specs.FaultText.{table_text}

-- what a row of a form is
unfoldable pub noun : RowForm → List ℕ
noun rows.Scene = codes "a scene"
noun rows.Resource = codes "a resource"
noun rows.Node = codes "a node"
noun rows.Sound = codes "a sound"
noun rows.Group = codes "a group"
noun rows.Splitter = codes "a splitter"
noun rows.Bus = codes "a bus"
noun rows.Edit = codes "an edit"
noun rows.Attach = codes "this op"
noun rows.Detach = codes "this op"
noun rows.Gain = codes "this op"
noun rows.Switch = codes "this op"
noun rows.Value = codes "this op"

-- the keys that it may have
unfoldable pub keys_text : RowForm → List ℕ
keys_text rows.Scene = codes "version, rate, channels, width, length, resource, node, bus, edit"
keys_text rows.Resource = codes "name, file"
keys_text rows.Node = codes "kind"
keys_text rows.Sound = codes "kind, name, resource, loop, started, from, until"
keys_text rows.Group = codes "kind, name, started, from, until"
keys_text rows.Splitter = codes "kind, name, outputs, started, from, until"
keys_text rows.Bus = codes "node, out, to, gain"
keys_text rows.Edit = codes "op"
keys_text rows.Attach = codes "op, at, node, out, to, editor"
keys_text rows.Detach = codes "op, at, node, out, editor"
keys_text rows.Gain = codes "op, at, node, out, value, editor"
keys_text rows.Switch = codes "op, at, node, editor"
keys_text rows.Value = codes "op, at, node, value, editor"

-- the values that a key may have
unfoldable pub wanted : List ℕ → List ℕ
wanted key =
    if bytes_eq key (codes "kind") then codes "sound, group or splitter"
    else (if bytes_eq key (codes "op") then codes "attach, detach, gain, start, stop, from, until, seek or loop"
    else (if bytes_eq key (codes "file") then codes "a text"
    else (if bytes_eq key (codes "loop") then codes "true or false"
    else (if bytes_eq key (codes "started") then codes "true or false"
    else (if bytes_eq key (codes "name") then codes "a text of 1 to 64 letters, digits, `_`, `-` and `.`"
    else (if bytes_eq key (codes "resource") then codes "a text of 1 to 64 letters, digits, `_`, `-` and `.`"
    else (if bytes_eq key (codes "node") then codes "a text of 1 to 64 letters, digits, `_`, `-` and `.`"
    else (if bytes_eq key (codes "to") then codes "a text of 1 to 64 letters, digits, `_`, `-` and `.`"
    else codes "a whole number"))))))))

-- what a number counts, where it is no value of a key
unfoldable pub counted : Which → Option (List ℕ)
counted which.Rate = None
counted which.Channels = None
counted which.Width = None
counted which.Length = None
counted which.Resources = Some (codes " rows")
counted which.FileName = Some (codes " bytes at \"file\"")
counted which.Nodes = Some (codes " rows")
counted which.Outputs = None
counted which.From = None
counted which.Until = None
counted which.Buses = Some (codes " outputs of its rows together")
counted which.BusRows = Some (codes " rows")
counted which.Edits = Some (codes " rows")
counted which.Out = None
counted which.Gain = None
counted which.At = None
counted which.Value = None
counted which.Editor = None
counted which.LiveLength = None

-- the numbers that are allowed
unfoldable pub range_text : Which → List ℕ
range_text which.Rate = codes "1 to 768000 Hz are"
range_text which.Channels = codes "1 or 2 is"
range_text which.Width = codes "16 or 24 is"
range_text which.Length = codes "0 to 16777216 frames are"
range_text which.Resources = codes "at most 64 are"
range_text which.FileName = codes "1 to 255 are"
range_text which.Nodes = codes "at most 128 are"
range_text which.Outputs = codes "2 to 4 are"
range_text which.From = codes "0 to 16777216 frames are"
range_text which.Until = codes "0 to 16777216 frames are"
range_text which.Buses = codes "at most 256 are"
range_text which.BusRows = codes "at most 256 are"
range_text which.Edits = codes "at most 4096 are"
range_text which.Out = codes "0 to 255 is"
range_text which.Gain = codes "0 to 1048576 is"
range_text which.At = codes "0 to 16777216 frames are"
range_text which.Value = codes "0 to 1048576 for a gain, 0 to 16777216 for a time, 0 to 140737488355327 for a place and 0 or 1 for a loop is"
range_text which.Editor = codes "0 to 3 is"
range_text which.LiveLength = codes "fewer are"

-- why an edit isn't made, and what to do
unfoldable pub reply_hint : Reply → List ℕ
reply_hint replies.Done = codes "is done"
reply_hint replies.NoSuchBus = codes "names an output that its node doesn't have: a sound and a group have output 0, a splitter 0 up to one less than its outputs"
reply_hint replies.NoInput = codes "leads to a sound, which has no input: attach to a group, a splitter or the endpoint"
reply_hint (replies.AlreadyAttached to) = codes "attaches an output that is attached already: detach it first, or use a splitter"
reply_hint (replies.Cycle node) = codes "leads back to its own node: break the ring"
reply_hint replies.NotAttached = codes "detaches an output that isn't attached there: look at the edits before it"
reply_hint replies.GainTooLarge = codes "has a gain above 1048576, which is 16.0: lower it"
reply_hint replies.NotSound = codes "names a group or a splitter, where only a sound has a place to play from"

-- the number of a line behind a colon
abbrev pub line_text : Option ℕ → List ℕ
line_text None = []
line_text (Some n) = codes ":" ++ decimal n

-- a row, a table as a whole, or the top level
abbrev pub numbered_row : List ℕ → ℕ → List ℕ
numbered_row table n =
    if n == 0 then codes "[[" ++ table ++ codes "]]" else codes "row " ++ decimal n ++ codes " of [[" ++ table ++ codes "]]"

abbrev pub row_text : TableKind → ℕ → List ℕ
row_text tables.Scene n = codes "the top level"
row_text tables.Resource n = numbered_row (codes "resource") n
row_text tables.Node n = numbered_row (codes "node") n
row_text tables.Bus n = numbered_row (codes "bus") n
row_text tables.Edit n = numbered_row (codes "edit") n

-- the file, the line and the row
unfoldable pub head_text : List ℕ → FaultPlace → List ℕ
head_text name p = name ++ line_text p.line ++ codes ": " ++ row_text p.table p.row

-- the key, where the fault has one
abbrev pub key_text : Option (List ℕ) → List ℕ
key_text None = []
key_text (Some key) = key

-- a value of another form than that of its key, or a table that isn't written as rows
abbrev pub misfit_text : Option (List ℕ) → List ℕ
misfit_text None = codes " isn't a list of rows: write the name of the table in two brackets, as [[node]], above each row"
misfit_text (Some key) = codes " needs another value at \"" ++ key ++ codes "\": " ++ wanted key

-- a number that is out of its limits, at a key or as a count
abbrev pub number_text : List ℕ → Option (List ℕ) → List ℕ
number_text key None = codes " at \"" ++ key ++ codes "\""
number_text key (Some what) = what

-- what is wrong there
unfoldable pub what_text : FaultPlace → SceneFault → List ℕ
what_text p NotToml = codes " isn't TOML"
what_text p (Version n) = codes " has the version " ++ signed_decimal n ++ codes ", and only version 1 is read"
what_text p (MissingKey _ _) = codes " lacks the key \"" ++ key_text p.key ++ codes "\" (" ++ keys_text p.form ++ codes ")"
what_text p (WrongKind _ _) = misfit_text p.key
what_text p (UnknownKey _ _) =
    codes " has the key \"" ++ key_text p.key ++ codes "\", which " ++ noun p.form ++ codes " doesn't have (" ++ keys_text p.form ++ codes ")"
what_text p (UnknownName _ _) = codes " names at \"" ++ key_text p.key ++ codes "\" what no row of that name is"
what_text p (DoubleName _ _) = codes " has the name of an earlier row, or that of the endpoint: give it another one"
what_text p (Limit w found limit) =
    codes " has " ++ signed_decimal found ++ number_text (key_text p.key) (counted w) ++ codes ", where " ++ range_text w ++ codes " allowed"
what_text p (EditRefused _ _ reply) = codes " " ++ reply_hint reply

-- What is said of a fault of a script: the file, the line where it is known, the row, and what is wrong there.
unfoldable pub script_text : List ℕ → FaultPlace → SceneFault → List ℕ
script_text name p fault = head_text name p ++ what_text p fault ++ codes "\n"
