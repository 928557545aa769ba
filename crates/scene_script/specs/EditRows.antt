-- The rows of `edit`.
use Rattle.std.specs.Prelude.{ℕ, ◌+◌, ◌==◌, if◌then◌else◌, codes, List, [], ◌∷◌, length, Option, None, Some, Result, Ok, Err}
use Rattle.std.specs.Str.{bytes_eq}
use Rattle.toml.specs.Data.{Members}
use Rattle.scene_model.specs.declared.edit.Edit.{Edit}
use Rattle.scene_model.specs.declared.edit.Edit.TheVariants as edit
use Rattle.scene_model.specs.declared.edit.EditRow.{EditRow}
use Rattle.scene_model.specs.declared.node.Node.{Node}
use Rattle.scene_model.specs.Limits as limits
use Rattle.scene_script.specs.declared.fault.SceneFault.{SceneFault}
use Rattle.scene_script.specs.declared.fault.SceneFault.TheVariants.{WrongKind}
use Rattle.scene_script.specs.declared.fault.Which.TheVariants as which
use Rattle.scene_script.specs.declared.fault.TableKind.TheVariants as kinds
use Rattle.scene_script.specs.declared.op_word.OpWord.{OpWord}
use Rattle.scene_script.specs.declared.op_word.OpWord.TheVariants as op
use Rattle.scene_script.specs.declared.edit_keys.EditKeys.{EditKeys}
use Rattle.scene_script.specs.declared.place.Place.{Place}
use Rattle.scene_script.specs.Checked.{◌>>=◌, each}
use Rattle.scene_script.specs.Fields.{place, bounds, number_at, number_or, output_at, text_at, known_keys}
use Rattle.scene_script.specs.Limits as script_limits
use Rattle.scene_script.specs.Names.{node_at, target_at, known_name}
use Rattle.scene_script.specs.TableRows.{rows_at}

-- the op that a word stands for
abbrev pub op_of : Place → List ℕ → Result OpWord SceneFault
op_of p text =
    if bytes_eq text (codes "attach") then Ok op.Attach
    else (if bytes_eq text (codes "detach") then Ok op.Detach
    else (if bytes_eq text (codes "gain") then Ok op.Gain
    else (if bytes_eq text (codes "start") then Ok op.Start
    else (if bytes_eq text (codes "stop") then Ok op.Stop
    else (if bytes_eq text (codes "from") then Ok op.From
    else (if bytes_eq text (codes "until") then Ok op.Until
    else (if bytes_eq text (codes "seek") then Ok op.Seek
    else (if bytes_eq text (codes "loop") then Ok op.Loop else Err (WrongKind p.table p.row)))))))))

-- the word at `op`
unfoldable pub op_at : Place → Members → Result OpWord SceneFault
op_at p ms = text_at p (codes "op") ms >>= op_of p

-- the keys of each op: those of a bus by its output, with its target or its gain; a node alone; a node and a value
abbrev pub attach_keys : List (List ℕ)
attach_keys = codes "op" ∷ codes "at" ∷ codes "node" ∷ codes "out" ∷ codes "to" ∷ codes "editor" ∷ []

abbrev pub detach_keys : List (List ℕ)
detach_keys = codes "op" ∷ codes "at" ∷ codes "node" ∷ codes "out" ∷ codes "editor" ∷ []

abbrev pub gain_keys : List (List ℕ)
gain_keys = codes "op" ∷ codes "at" ∷ codes "node" ∷ codes "out" ∷ codes "value" ∷ codes "editor" ∷ []

abbrev pub node_alone_keys : List (List ℕ)
node_alone_keys = codes "op" ∷ codes "at" ∷ codes "node" ∷ codes "editor" ∷ []

abbrev pub value_keys : List (List ℕ)
value_keys = codes "op" ∷ codes "at" ∷ codes "node" ∷ codes "value" ∷ codes "editor" ∷ []

-- the same by the op
abbrev pub keys_of : OpWord → List (List ℕ)
keys_of op.Attach = attach_keys
keys_of op.Detach = detach_keys
keys_of op.Gain = gain_keys
keys_of op.Start = node_alone_keys
keys_of op.Stop = node_alone_keys
keys_of op.From = value_keys
keys_of op.Until = value_keys
keys_of op.Seek = value_keys
keys_of op.Loop = value_keys

-- there is no key but those of the op
unfoldable pub known_of : Place → OpWord → Members → Result (Unit {0}) SceneFault
known_of p w ms = known_keys p (keys_of w) ms

-- the op, and then that there is no key that it doesn't have
unfoldable pub op_word : Place → Members → Result OpWord SceneFault
op_word p ms = do
  w ← op_at p ms
  is_known ← known_of p w ms
  Ok w

-- an op's key for its target, where it has one
abbrev pub to_at : Place → List Node → OpWord → Members → Result (Option ℕ) SceneFault
to_at p nodes op.Attach ms = target_at p nodes (codes "to") ms
to_at p nodes _ ms = Ok None

-- the greatest value of an op, where it has one
abbrev pub most_value : OpWord → Option ℕ
most_value op.Gain = Some script_limits.most_named_gain
most_value op.From = Some limits.most_frames
most_value op.Until = Some limits.most_frames
most_value op.Seek = Some limits.last_place
most_value op.Loop = Some 1
most_value _ = None

-- the value up to the greatest one, and 0 where the op has none
abbrev pub value_up_to : Place → Option ℕ → Members → Result ℕ SceneFault
value_up_to p None ms = Ok 0
value_up_to p (Some greatest) ms = number_at p (codes "value") (bounds which.Value 0 greatest) ms

-- the value of an op
unfoldable pub value_at : Place → OpWord → Members → Result ℕ SceneFault
value_at p w ms = value_up_to p (most_value w) ms

-- The keys, in order. An output is 0 where the op has none.
unfoldable pub edit_keys : Place → List Node → OpWord → Members → Result EditKeys SceneFault
edit_keys p nodes w ms = do
  at ← number_at p (codes "at") (bounds which.At 0 limits.most_frames) ms
  node ← node_at p nodes (codes "node") ms
  out ← output_at p ms
  to ← to_at p nodes w ms
  value ← value_at p w ms
  editor ← number_or p (codes "editor") (bounds which.Editor 0 limits.last_editor) 0 ms
  Ok (record { at = at; node = node; out = out; to = to; value = value; editor = editor })

-- the edit that an op stands for, at that node, where its target is known
abbrev pub edit_of : Place → OpWord → EditKeys → ℕ → Result Edit SceneFault
edit_of p op.Attach k node = known_name p k.to >>= λ to. Ok (edit.Attach node k.out to)
edit_of p op.Detach k node = Ok (edit.Detach node k.out)
edit_of p op.Gain k node = Ok (edit.SetGain node k.out k.value)
edit_of p op.Start k node = Ok (edit.Start node)
edit_of p op.Stop k node = Ok (edit.Stop node)
edit_of p op.From k node = Ok (edit.From node k.value)
edit_of p op.Until k node = Ok (edit.Until node k.value)
edit_of p op.Seek k node = Ok (edit.Seek node k.value)
edit_of p op.Loop k node = Ok (edit.Loop node (k.value == 1))

-- the row, where the names are those of rows
unfoldable pub known_edit : Place → OpWord → EditKeys → Result EditRow SceneFault
known_edit p w k = do
  node ← known_name p k.node
  made ← edit_of p w k node
  Ok (record { at = k.at; editor = k.editor; edit = made })

-- the edit of a row, by those before it, of which only the number matters
unfoldable pub edit_row : List Node → List EditRow → Members → Result EditRow SceneFault
edit_row nodes before ms = let p = place kinds.Edit (length before + 1) in do
  w ← op_word p ms
  keys ← edit_keys p nodes w ms
  known_edit p w keys

-- the edits of rows, in order
abbrev pub edit_rows : List Node → List Members → Result (List EditRow) SceneFault
edit_rows nodes rows = each (edit_row nodes) [] rows

-- the edits of a script, in the order of rows
unfoldable pub edits : List Node → Members → Result (List EditRow) SceneFault
edits nodes ms = rows_at kinds.Edit (codes "edit") which.Edits limits.most_edits ms >>= edit_rows nodes
