-- A list of entries is looked through from its front, and its first entry can be extended.
use Rattle.std.proofs.Common.{◌≡◌, ◌≢◌, ℕ, List, [], ◌∷◌, ◌++◌, Some, sym, string_bytes, None, length, arith}
use Rattle.std.specs.FinMap.{get, get-empty}
use Rattle.snd_io.specs.declared.entries.Entry.{Entry}
use Rattle.snd_io.proofs.FileLemmas.{get-put_file, get-put_other, extend_file-put_file}
use Rattle.snd_io.specs.Fakes.{files_of, ExtendsFirst}

-- the entry that is met has the name
pub get-found : (entry : Entry) (rest : List Entry) (name : List ℕ) → string_bytes entry.name ≡ name → get (files_of (entry ∷ rest)) name ≡ Some entry.bytes.items
get-found entry rest name same = rw (← same) (get-put_file (string_bytes entry.name) entry.bytes.items (files_of rest))

-- the entry that is met has another name
pub get-passed : (entry : Entry) (rest : List Entry) (name : List ℕ) → string_bytes entry.name ≢ name → get (files_of (entry ∷ rest)) name ≡ get (files_of rest) name
get-passed entry rest name differs =
    get-put_other (string_bytes entry.name) name entry.bytes.items (files_of rest) (λ same. differs (sym same))

-- no entry is left
pub get-past_end : (entries : List Entry) (name : List ℕ) → length entries ≡ 0 → get (files_of entries) name ≡ None
get-past_end [] name none = get-empty _ name
get-past_end (entry ∷ rest) name none = absurd (omega arith)

-- the first entry got more bytes, and is first again
pub extends_first : (entry longer : Entry) (rest before after : List Entry) (bytes : List ℕ)
    → before ≡ entry ∷ rest → after ≡ longer ∷ rest → string_bytes longer.name ≡ string_bytes entry.name → longer.bytes.items ≡ entry.bytes.items ++ bytes
    → ExtendsFirst bytes before after
extends_first entry longer rest before after bytes is_before is_after same_name more_bytes =
    rw (is_before, is_after, same_name, more_bytes) (sym (extend_file-put_file (string_bytes entry.name) entry.bytes.items bytes (files_of rest)))
