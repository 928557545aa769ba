-- The form of the names of resources and nodes, and of the names of sound files.
use Rattle.std.specs.Prelude.{ℕ, Bool, ◌||◌, ◌&&◌, ◌==◌, nat_le, List, length}
use Rattle.std.specs.List.{list_all}
use Rattle.std.specs.Char.{is_ascii_alphanumeric}
use Rattle.scene_model.specs.Limits.{most_name_bytes, most_file_name_bytes}

-- an ASCII letter or digit, `_`, `-` or `.`
abbrev pub is_name_byte : ℕ → Bool
is_name_byte b = is_ascii_alphanumeric b || b == 95 || b == 45 || b == 46

abbrev pub has_only_name_bytes : List ℕ → Bool
has_only_name_bytes text = list_all is_name_byte text

-- 1 to 64 bytes of that form
abbrev pub is_name : List ℕ → Bool
is_name text = nat_le 1 (length text) && nat_le (length text) most_name_bytes && has_only_name_bytes text

-- 1 to 255 bytes
abbrev pub is_file_name : List ℕ → Bool
is_file_name text = nat_le 1 (length text) && nat_le (length text) most_file_name_bytes
