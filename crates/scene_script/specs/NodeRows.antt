-- The rows of `node`.
use Rattle.std.specs.Prelude.{ℕ, ◌+◌, pos, true, false, ◌||◌, if◌then◌else◌, codes, List, [], ◌∷◌, length, Result, Ok, Err}
use Rattle.std.specs.List.{list_any}
use Rattle.std.specs.Str.{bytes_eq}
use Rattle.toml.specs.Data.{Members}
use Rattle.scene_model.specs.declared.node.Node.{Node}
use Rattle.scene_model.specs.declared.node.NodeKind.{NodeKind}
use Rattle.scene_model.specs.declared.node.NodeKind.TheVariants as node
use Rattle.scene_model.specs.declared.resource.Resource.{Resource}
use Rattle.scene_model.specs.Buses.{bus_count}
use Rattle.scene_model.specs.Limits as limits
use Rattle.scene_script.specs.declared.fault.SceneFault.{SceneFault}
use Rattle.scene_script.specs.declared.fault.SceneFault.TheVariants.{WrongKind, DoubleName}
use Rattle.scene_script.specs.declared.fault.Which.TheVariants as which
use Rattle.scene_script.specs.declared.fault.TableKind.TheVariants as kinds
use Rattle.scene_script.specs.declared.node_keys.KindWord.{KindWord}
use Rattle.scene_script.specs.declared.node_keys.KindWord.TheVariants as word
use Rattle.scene_script.specs.declared.node_keys.OwnKeys.{OwnKeys}
use Rattle.scene_script.specs.declared.node_keys.OwnKeys.TheVariants as own
use Rattle.scene_script.specs.declared.node_keys.Activity.{Activity}
use Rattle.scene_script.specs.declared.place.Place.{Place}
use Rattle.scene_script.specs.Checked.{◌>>=◌, each}
use Rattle.scene_script.specs.Fields.{place, within, bounds, number_at, number_or, flag_or, text_at, name_at, known_keys}
use Rattle.scene_script.specs.Names.{endpoint, resource_at, known_name}
use Rattle.scene_script.specs.TableRows.{rows_at}

-- the kind that a word stands for
abbrev pub word_of : Place → List ℕ → Result KindWord SceneFault
word_of p text =
    if bytes_eq text (codes "sound") then Ok word.Sound
    else (if bytes_eq text (codes "group") then Ok word.Group
    else (if bytes_eq text (codes "splitter") then Ok word.Splitter else Err (WrongKind p.table p.row)))

-- the word at `kind`
unfoldable pub word_at : Place → Members → Result KindWord SceneFault
word_at p ms = text_at p (codes "kind") ms >>= word_of p

-- the keys of each kind of node
abbrev pub keys_of : KindWord → List (List ℕ)
keys_of word.Sound =
    codes "kind" ∷ codes "name" ∷ codes "resource" ∷ codes "loop" ∷ codes "started" ∷ codes "from" ∷ codes "until" ∷ []
keys_of word.Group = codes "kind" ∷ codes "name" ∷ codes "started" ∷ codes "from" ∷ codes "until" ∷ []
keys_of word.Splitter =
    codes "kind" ∷ codes "name" ∷ codes "outputs" ∷ codes "started" ∷ codes "from" ∷ codes "until" ∷ []

-- there is no key but those of the kind
unfoldable pub known_of : Place → KindWord → Members → Result (Unit {0}) SceneFault
known_of p w ms = known_keys p (keys_of w) ms

-- the kind, and then that there is no key that it doesn't have
unfoldable pub kind_word : Place → Members → Result KindWord SceneFault
kind_word p ms = do
  w ← word_at p ms
  is_known ← known_of p w ms
  Ok w

-- a sound's resource and whether it starts again at the end
unfoldable pub sound_keys : Place → List Resource → Members → Result OwnKeys SceneFault
sound_keys p resources ms = do
  resource ← resource_at p resources (codes "resource") ms
  looped ← flag_or p (codes "loop") false ms
  Ok (own.Sound resource looped)

-- a splitter's number of outputs
unfoldable pub splitter_keys : Place → Members → Result OwnKeys SceneFault
splitter_keys p ms = do
  outputs ← number_at p (codes "outputs") (bounds which.Outputs limits.least_splitter_outputs limits.most_splitter_outputs) ms
  Ok (own.Splitter outputs)

-- the same by the kind
abbrev pub own_keys : Place → List Resource → KindWord → Members → Result OwnKeys SceneFault
own_keys p resources word.Sound ms = sound_keys p resources ms
own_keys p resources word.Group ms = Ok own.Group
own_keys p resources word.Splitter ms = splitter_keys p ms

-- when the node is active
unfoldable pub activity : Place → Members → Result Activity SceneFault
activity p ms = do
  started ← flag_or p (codes "started") true ms
  from ← number_or p (codes "from") (bounds which.From 0 limits.most_frames) 0 ms
  until ← number_or p (codes "until") (bounds which.Until 0 limits.most_frames) limits.most_frames ms
  Ok (record { started = started; from = from; until = until })

-- the name isn't that of the endpoint, nor has an earlier node it
unfoldable pub new_node : Place → List Node → List ℕ → Result (Unit {0}) SceneFault
new_node p before name =
    if bytes_eq name endpoint || list_any (λ (n : Node). bytes_eq n.name name) before
    then Err (DoubleName p.table p.row) else Ok tt

-- the kind of the node, where its resource is known
abbrev pub kind_of : Place → OwnKeys → Result NodeKind SceneFault
kind_of p (own.Sound resource looped) = known_name p resource >>= λ n. Ok (node.Sound n looped)
kind_of p own.Group = Ok node.Group
kind_of p (own.Splitter outputs) = Ok (node.Splitter outputs)

-- the node of a row, by those of the rows before it
unfoldable pub node_row : List Resource → List Node → Members → Result Node SceneFault
node_row resources before ms = let p = place kinds.Node (length before + 1) in do
  w ← kind_word p ms
  name ← name_at p (codes "name") ms
  own ← own_keys p resources w ms
  active ← activity p ms
  is_new ← new_node p before name
  kind ← kind_of p own
  Ok (record { name = name; kind = kind; started = active.started; from = active.from; until = active.until })

-- the nodes of rows, in order
abbrev pub node_rows : List Resource → List Members → Result (List Node) SceneFault
node_rows resources rows = each (node_row resources) [] rows

-- the nodes have no more output buses than allowed
abbrev pub few_buses : List Node → Result (Unit {0}) SceneFault
few_buses nodes = within (bounds which.Buses 0 limits.most_buses) (pos (bus_count nodes)) >>= λ buses. Ok tt

-- the nodes of a script
unfoldable pub nodes : List Resource → Members → Result (List Node) SceneFault
nodes resources ms = do
  rows ← rows_at kinds.Node (codes "node") which.Nodes limits.most_nodes ms
  read ← node_rows resources rows
  is_few ← few_buses read
  Ok read
