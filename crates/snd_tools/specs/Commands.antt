-- The words after the program's name, as a command. Words are counted from 0.
use Rattle.std.specs.Prelude.{ℕ, ◌+◌, Bool, ◌&&◌, ◌||◌, ◌==◌, nat_le, if◌then◌else◌, List, [], ◌∷◌, length, codes, Option, Some, None, Result, Ok, Err}
use Rattle.std.specs.List.{list_all}
use Rattle.std.specs.Char.{is_ascii_alphanumeric}
use Rattle.std.specs.Str.{bytes_eq}
use Rattle.plain_data.specs.Numbers.{number}
use Rattle.fx_nodes.specs.Effects.{most_effects}
use Rattle.fx_nodes.specs.Words.{effect_of_word}
use Rattle.fx_nodes.specs.declared.effect.Effect.{Effect}
use Rattle.fx_render.specs.Effected.{most_frames}
use Rattle.scene_model.specs.Limits as limits

-- the bytes of a path
abbrev pub most_path_bytes : ℕ
most_path_bytes = 255

-- the bytes of PREFIX
abbrev pub most_prefix_bytes : ℕ
most_prefix_bytes = 64

-- the path of a file: 1 to 255 bytes
abbrev pub is_path : List ℕ → Bool
is_path word = nat_le 1 (length word) && nat_le (length word) most_path_bytes

-- an ASCII letter or digit, `_`, `-`, `.` or `/`
abbrev pub is_prefix_byte : ℕ → Bool
is_prefix_byte b = is_ascii_alphanumeric b || b == 95 || b == 45 || b == 46 || b == 47

abbrev pub has_only_prefix_bytes : List ℕ → Bool
has_only_prefix_bytes word = list_all is_prefix_byte word

-- what the names of generated files begin with: 1 to 64 bytes of that form
abbrev pub is_prefix : List ℕ → Bool
is_prefix word = nat_le 1 (length word) && nat_le (length word) most_prefix_bytes && has_only_prefix_bytes word

-- NUMBER of `gen`
abbrev pub most_number_digits : ℕ
most_number_digits = 10

abbrev pub most_number : ℕ
most_number = 4294967295

-- WORKERS of `render`
abbrev pub most_workers_digits : ℕ
most_workers_digits = 2

abbrev pub most_workers : ℕ
most_workers = 16

-- COUNT of `fx`
abbrev pub most_count_digits : ℕ
most_count_digits = 8

-- FRAME of `sceneview`
abbrev pub most_frame_digits : ℕ
most_frame_digits = 8

-- The programs, each with commands of its own.
pub data Program : Type 0 where
  Scenetool : Program
  Scenerender : Program
  Sceneview : Program

pub data Command : Type 0 where
  -- mix SCENE OUT
  Mix : List ℕ → List ℕ → Command
  -- info FILE
  Info : List ℕ → Command
  -- gen NUMBER PREFIX
  Gen : ℕ → List ℕ → Command
  -- fx FILE OUT COUNT EFFECT ..
  Fx : List ℕ → List ℕ → ℕ → List Effect → Command
  -- render SCENE OUT WORKERS
  Render : List ℕ → List ℕ → ℕ → Command
  -- SCENE FRAME
  View : List ℕ → ℕ → Command

-- The words after `mix`, or the place of the first word that doesn't fit. A missing or an extra word comes before the
-- others, from left to right.
abbrev pub mix_words : List (List ℕ) → Result Command ℕ
mix_words [] = Err 1
mix_words (scene ∷ []) = Err 2
mix_words (scene ∷ out ∷ []) = if is_path scene then (if is_path out then Ok (Mix scene out) else Err 2) else Err 1
mix_words (scene ∷ out ∷ extra ∷ more) = Err 3

-- the words after `info`, in the same way
abbrev pub info_words : List (List ℕ) → Result Command ℕ
info_words [] = Err 1
info_words (file ∷ []) = if is_path file then Ok (Info file) else Err 1
info_words (file ∷ extra ∷ more) = Err 2

-- the words after `gen`, in the same way
abbrev pub gen_command : Option ℕ → List ℕ → Result Command ℕ
gen_command None prefix = Err 1
gen_command (Some n) prefix = if is_prefix prefix then Ok (Gen n prefix) else Err 2

abbrev pub gen_words : List (List ℕ) → Result Command ℕ
gen_words [] = Err 1
gen_words (word ∷ []) = Err 2
gen_words (word ∷ prefix ∷ []) = gen_command (number most_number_digits most_number word) prefix
gen_words (word ∷ prefix ∷ extra ∷ more) = Err 3

-- The effects that words write, in their order, or the place of the first word that writes none. The first of the words has
-- the place `place`.
abbrev pub effect_then : ℕ → Option Effect → Result (List Effect) ℕ → Result (List Effect) ℕ
effect_then place None more = Err place
effect_then place (Some effect) (Err later) = Err later
effect_then place (Some effect) (Ok effects) = Ok (effect ∷ effects)

abbrev pub effects_from : ℕ → List (List ℕ) → Result (List Effect) ℕ
effects_from place [] = Ok []
effects_from place (word ∷ words) = effect_then place (effect_of_word word) (effects_from (place + 1) words)

-- the words after `fx`, in the same way: at least one effect, and no more than a chain has
abbrev pub fx_command : List ℕ → List ℕ → Option ℕ → Result (List Effect) ℕ → Result Command ℕ
fx_command file out None effects = Err 3
fx_command file out (Some count) (Err place) = Err place
fx_command file out (Some count) (Ok effects) = Ok (Fx file out count effects)

abbrev pub fx_parts : List ℕ → List ℕ → List ℕ → List (List ℕ) → Result Command ℕ
fx_parts file out word effects =
    if is_path file
    then (if is_path out then fx_command file out (number most_count_digits most_frames word) (effects_from 4 effects) else Err 2)
    else Err 1

abbrev pub fx_words : List (List ℕ) → Result Command ℕ
fx_words [] = Err 1
fx_words (file ∷ []) = Err 2
fx_words (file ∷ out ∷ []) = Err 3
fx_words (file ∷ out ∷ word ∷ []) = Err 4
fx_words (file ∷ out ∷ word ∷ effect ∷ more) =
    if nat_le (length (effect ∷ more)) most_effects then fx_parts file out word (effect ∷ more) else Err (4 + most_effects)

-- the words after `render`, in the same way
abbrev pub render_command : List ℕ → List ℕ → Option ℕ → Result Command ℕ
render_command scene out None = Err 3
render_command scene out (Some workers) = Ok (Render scene out workers)

abbrev pub render_words : List (List ℕ) → Result Command ℕ
render_words [] = Err 1
render_words (scene ∷ []) = Err 2
render_words (scene ∷ out ∷ []) = Err 3
render_words (scene ∷ out ∷ word ∷ []) =
    if is_path scene
    then (if is_path out then render_command scene out (number most_workers_digits most_workers word) else Err 2)
    else Err 1
render_words (scene ∷ out ∷ word ∷ extra ∷ more) = Err 4

-- the words of `sceneview`, in the same way: the frame is 0 where there is no word for it
abbrev pub view_command : List ℕ → Option ℕ → Result Command ℕ
view_command scene None = Err 1
view_command scene (Some frame) = Ok (View scene frame)

abbrev pub view_words : List (List ℕ) → Result Command ℕ
view_words [] = Err 0
view_words (scene ∷ []) = if is_path scene then Ok (View scene 0) else Err 0
view_words (scene ∷ word ∷ []) = if is_path scene then view_command scene (number most_frame_digits limits.most_frames word) else Err 0
view_words (scene ∷ word ∷ extra ∷ more) = Err 2

-- the command of a program, or the place of the first word that doesn't fit
abbrev pub command : Program → List (List ℕ) → Result Command ℕ
command Scenetool [] = Err 0
command Scenetool (word ∷ words) =
    if bytes_eq word (codes "mix") then mix_words words else
    if bytes_eq word (codes "info") then info_words words else
    if bytes_eq word (codes "gen") then gen_words words else
    if bytes_eq word (codes "fx") then fx_words words else
    Err 0
command Scenerender [] = Err 0
command Scenerender (word ∷ words) = if bytes_eq word (codes "render") then render_words words else Err 0
command Sceneview words = view_words words
