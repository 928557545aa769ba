-- What a row has at a key, or why not.
use Rattle.std.specs.Prelude.{ℕ, ℤ, pos, negsuc, Bool, nat_lt, if◌then◌else◌, List, [], ◌∷◌, Option, Some, None, Result, Ok, Err, codes}
use Rattle.std.specs.List.{list_all, list_any}
use Rattle.std.specs.Str.{bytes_eq}
use Rattle.toml.specs.Data.{Data, string, integer, boolean, Members, member, no_members, get_member}
use Rattle.scene_model.specs.Names.{is_name}
use Rattle.scene_script.specs.declared.bounds.Bounds.{Bounds}
use Rattle.scene_script.specs.declared.fault.SceneFault.{SceneFault}
use Rattle.scene_script.specs.declared.fault.SceneFault.TheVariants.{MissingKey, WrongKind, UnknownKey, Limit}
use Rattle.scene_script.specs.declared.fault.Which.{Which}
use Rattle.scene_script.specs.declared.fault.Which.TheVariants as which
use Rattle.scene_script.specs.declared.fault.TableKind.{TableKind}
use Rattle.scene_script.specs.declared.place.Place.{Place}
use Rattle.scene_script.specs.Checked.{◌>>=◌}

-- a row by its table and its number there, from 1; 0 is the table as a whole
abbrev pub place : TableKind → ℕ → Place
place table row = record { table = table; row = row }

-- the limits of a number
abbrev pub bounds : Which → ℕ → ℕ → Bounds
bounds number least most = record { which = number; least = least; most = most }

-- the number, where it is in those bounds
abbrev pub within : Bounds → ℤ → Result ℕ SceneFault
within b (pos n) =
    if nat_lt b.most n then Err (Limit b.which (pos n) (pos b.most))
    else (if nat_lt n b.least then Err (Limit b.which (pos n) (pos b.least)) else Ok n)
within b (negsuc n) = Err (Limit b.which (negsuc n) (pos b.least))

-- the value of a key that has no default
abbrev pub needed : Place → Option Data → Result Data SceneFault
needed p None = Err (MissingKey p.table p.row)
needed p (Some d) = Ok d

-- the integer, the flag or the text that a value is
abbrev pub integer_of : Place → Data → Result ℤ SceneFault
integer_of p (integer z) = Ok z
integer_of p _ = Err (WrongKind p.table p.row)

abbrev pub flag_of : Place → Data → Result Bool SceneFault
flag_of p (boolean b) = Ok b
flag_of p _ = Err (WrongKind p.table p.row)

abbrev pub text_of : Place → Data → Result (List ℕ) SceneFault
text_of p (string text) = Ok text
text_of p _ = Err (WrongKind p.table p.row)

-- the text has the form of a name
abbrev pub named : Place → List ℕ → Result (List ℕ) SceneFault
named p text = if is_name text then Ok text else Err (WrongKind p.table p.row)

-- the number that a value is
abbrev pub number_of : Place → Bounds → Data → Result ℕ SceneFault
number_of p b d = integer_of p d >>= within b

-- the name that a value is
abbrev pub name_of : Place → Data → Result (List ℕ) SceneFault
name_of p d = text_of p d >>= named p

-- the value, or the default where the key is absent
abbrev pub default_or : {A : Type 0} → A → (Data → Result A SceneFault) → Option Data → Result A SceneFault
default_or default read None = Ok default
default_or default read (Some d) = read d

-- the number at a key
unfoldable pub number_at : Place → List ℕ → Bounds → Members → Result ℕ SceneFault
number_at p key b ms = needed p (get_member key ms) >>= number_of p b

-- the integer at a key, of whatever size
unfoldable pub integer_at : Place → List ℕ → Members → Result ℤ SceneFault
integer_at p key ms = needed p (get_member key ms) >>= integer_of p

-- the number at a key, or the default
unfoldable pub number_or : Place → List ℕ → Bounds → ℕ → Members → Result ℕ SceneFault
number_or p key b default ms = default_or default (number_of p b) (get_member key ms)

-- the number of an output, 0 where it is absent
unfoldable pub output_at : Place → Members → Result ℕ SceneFault
output_at p ms = number_or p (codes "out") (bounds which.Out 0 255) 0 ms

-- the flag at a key, or the default
unfoldable pub flag_or : Place → List ℕ → Bool → Members → Result Bool SceneFault
flag_or p key default ms = default_or default (flag_of p) (get_member key ms)

-- the text at a key
unfoldable pub text_at : Place → List ℕ → Members → Result (List ℕ) SceneFault
text_at p key ms = needed p (get_member key ms) >>= text_of p

-- the name at a key
unfoldable pub name_at : Place → List ℕ → Members → Result (List ℕ) SceneFault
name_at p key ms = needed p (get_member key ms) >>= name_of p

-- the keys of a table, in order
abbrev pub member_keys : Members → List (List ℕ)
member_keys no_members = []
member_keys (member key value rest) = key ∷ member_keys rest

-- there is no key but the known ones
abbrev pub has_only_keys : List (List ℕ) → Members → Bool
has_only_keys known ms = list_all (λ key. list_any (λ k. bytes_eq k key) known) (member_keys ms)

-- else one of its keys isn't known
unfoldable pub known_keys : Place → List (List ℕ) → Members → Result (Unit {0}) SceneFault
known_keys p known ms = if has_only_keys known ms then Ok tt else Err (UnknownKey p.table p.row)
