-- The keys at which the faults of rows stand.
use Rattle.std.specs.Prelude.{ℕ, Bool, false, not, ◌&&◌, if◌then◌else◌, codes, List, [], ◌∷◌, find, is_some, is_none, Option, None, Some, Result, Ok, Err}
use Rattle.std.specs.List.{list_any}
use Rattle.std.specs.Str.{bytes_eq}
use Rattle.toml.specs.Data.{Data, Members, get_member, as_str, as_integer, as_bool}
use Rattle.scene_model.specs.Names.{is_name}
use Rattle.scene_script.specs.declared.fault.SceneFault.{SceneFault}
use Rattle.scene_script.specs.declared.fault_keys.ValueForm.{ValueForm}
use Rattle.scene_script.specs.declared.fault_keys.ValueForm.TheVariants as forms
use Rattle.scene_script.specs.declared.fault.TableKind.{TableKind}
use Rattle.scene_script.specs.declared.fault.TableKind.TheVariants as tables
use Rattle.scene_script.specs.declared.fault_keys.RowForm.{RowForm}
use Rattle.scene_script.specs.declared.fault_keys.RowForm.TheVariants as rows
use Rattle.scene_script.specs.declared.node_keys.KindWord.{KindWord}
use Rattle.scene_script.specs.declared.node_keys.KindWord.TheVariants as kinds
use Rattle.scene_script.specs.declared.op_word.OpWord.{OpWord}
use Rattle.scene_script.specs.declared.op_word.OpWord.TheVariants as ops
use Rattle.scene_script.specs.EditRows as edit_rows
use Rattle.scene_script.specs.Fields.{place, member_keys}
use Rattle.scene_script.specs.Headers.{top_keys}
use Rattle.scene_script.specs.NodeRows as node_rows

-- the key is one of these
abbrev pub is_among : List (List ℕ) → List ℕ → Bool
is_among keys key = list_any (λ k. bytes_eq k key) keys

-- the form of a row by its kind or its op, where that is a known word
abbrev pub node_form : Result KindWord SceneFault → RowForm
node_form (Ok kinds.Sound) = rows.Sound
node_form (Ok kinds.Group) = rows.Group
node_form (Ok kinds.Splitter) = rows.Splitter
node_form (Err f) = rows.Node

abbrev pub edit_form : Result OpWord SceneFault → RowForm
edit_form (Ok ops.Attach) = rows.Attach
edit_form (Ok ops.Detach) = rows.Detach
edit_form (Ok ops.Gain) = rows.Gain
edit_form (Ok ops.Start) = rows.Switch
edit_form (Ok ops.Stop) = rows.Switch
edit_form (Ok ops.From) = rows.Value
edit_form (Ok ops.Until) = rows.Value
edit_form (Ok ops.Seek) = rows.Value
edit_form (Ok ops.Loop) = rows.Value
edit_form (Err f) = rows.Edit

unfoldable pub row_form : TableKind → Members → RowForm
row_form tables.Scene ms = rows.Scene
row_form tables.Resource ms = rows.Resource
row_form tables.Node ms = node_form (node_rows.word_at (place tables.Node 0) ms)
row_form tables.Bus ms = rows.Bus
row_form tables.Edit ms = edit_form (edit_rows.op_at (place tables.Edit 0) ms)

-- the keys that a row of a form may have, in the order of reading
unfoldable pub keys_of : RowForm → List (List ℕ)
keys_of rows.Scene = top_keys
keys_of rows.Resource = codes "name" ∷ codes "file" ∷ []
keys_of rows.Node = codes "kind" ∷ []
keys_of rows.Sound = node_rows.keys_of kinds.Sound
keys_of rows.Group = node_rows.keys_of kinds.Group
keys_of rows.Splitter = node_rows.keys_of kinds.Splitter
keys_of rows.Bus = codes "node" ∷ codes "out" ∷ codes "to" ∷ codes "gain" ∷ []
keys_of rows.Edit = codes "op" ∷ []
keys_of rows.Attach = edit_rows.attach_keys
keys_of rows.Detach = edit_rows.detach_keys
keys_of rows.Gain = edit_rows.gain_keys
keys_of rows.Switch = edit_rows.node_alone_keys
keys_of rows.Value = edit_rows.value_keys

-- those that have a default
unfoldable pub optional_keys : TableKind → List (List ℕ)
optional_keys tables.Scene = codes "resource" ∷ codes "node" ∷ codes "bus" ∷ codes "edit" ∷ []
optional_keys tables.Resource = []
optional_keys tables.Node = codes "loop" ∷ codes "started" ∷ codes "from" ∷ codes "until" ∷ []
optional_keys tables.Bus = codes "out" ∷ codes "to" ∷ codes "gain" ∷ []
optional_keys tables.Edit = codes "out" ∷ codes "editor" ∷ []

-- the words for the kinds of nodes and for the ops
abbrev pub kind_words : List (List ℕ)
kind_words = codes "sound" ∷ codes "group" ∷ codes "splitter" ∷ []

abbrev pub op_words : List (List ℕ)
op_words =
    codes "attach" ∷ codes "detach" ∷ codes "gain" ∷ codes "start" ∷ codes "stop"
    ∷ codes "from" ∷ codes "until" ∷ codes "seek" ∷ codes "loop" ∷ []

-- the form of the values of a key
unfoldable pub form_of : List ℕ → ValueForm
form_of key =
    if bytes_eq key (codes "kind") then forms.Kind
    else (if bytes_eq key (codes "op") then forms.Op
    else (if bytes_eq key (codes "file") then forms.Words
    else (if bytes_eq key (codes "loop") then forms.Flag
    else (if bytes_eq key (codes "started") then forms.Flag
    else (if bytes_eq key (codes "name") then forms.Name
    else (if bytes_eq key (codes "resource") then forms.Name
    else (if bytes_eq key (codes "node") then forms.Name
    else (if bytes_eq key (codes "to") then forms.Name else forms.Number))))))))

-- the text passes
abbrev pub is_text_of : (List ℕ → Bool) → Option (List ℕ) → Bool
is_text_of test None = false
is_text_of test (Some text) = test text

-- the value is of that form
abbrev pub fits : ValueForm → Data → Bool
fits forms.Kind d = is_text_of (is_among kind_words) (as_str d)
fits forms.Op d = is_text_of (is_among op_words) (as_str d)
fits forms.Words d = is_some (as_str d)
fits forms.Flag d = is_some (as_bool d)
fits forms.Name d = is_text_of is_name (as_str d)
fits forms.Number d = is_some (as_integer d)

-- a row has the key, with a value that isn't of its form
abbrev pub is_unfit_value : ValueForm → Option Data → Bool
is_unfit_value form None = false
is_unfit_value form (Some d) = not (fits form d)

abbrev pub is_unfit : Members → List ℕ → Bool
is_unfit ms key = is_unfit_value (form_of key) (get_member key ms)

-- a row lacks the key, which has no default
abbrev pub is_missing : TableKind → Members → List ℕ → Bool
is_missing t ms key = is_none (get_member key ms) && not (is_among (optional_keys t) key)

-- the first key in the order of reading that a row lacks and that has no default
unfoldable pub missing_key : TableKind → Members → Option (List ℕ)
missing_key t ms = find (is_missing t ms) (keys_of (row_form t ms))

-- the first one whose value is of another form
unfoldable pub unfit_key : TableKind → Members → Option (List ℕ)
unfit_key t ms = find (is_unfit ms) (keys_of (row_form t ms))

-- the first key of a row, in the order of bytes, that it may not have
unfoldable pub unknown_key : TableKind → Members → Option (List ℕ)
unknown_key t ms = find (λ key. not (is_among (keys_of (row_form t ms)) key)) (member_keys ms)
