-- What the TOML reader answers, as the document that a text is.
use Rattle.std.proofs.Common.{◌≡◌, ℕ, List, Bool, true, false, Some, None, Ok, Err, refl, ap}
use Rattle.std.specs.Prelude.{if◌then◌else◌}
use Rattle.std.specs.Str.{IsUtf8, is_utf8}
use Rattle.std.proofs.lemmas.Str.{is_utf8-from_IsUtf8, IsUtf8-from_is_utf8}
use Rattle.toml.specs.Data.{Members}
use Rattle.toml.specs.Parse.{parse_document}
use Rattle.scene_script.specs.declared.fault.SceneFault.TheVariants.{NotToml}
use Rattle.scene_script.specs.Script.{document, parsed}

-- a text of which the grammar makes a table
pub document_read : (text : List ℕ) (table : Members) → IsUtf8 text → parse_document text ≡ Some table → document text ≡ Ok table
unfolding document
document_read text table utf8 read = rw (is_utf8-from_IsUtf8 text utf8, read) refl

-- a text that isn't UTF-8, or of which the grammar makes nothing
pub document_refused : (text : List ℕ) → (IsUtf8 text → parse_document text ≡ None) → document text ≡ Err NotToml
unfolding document
document_refused text refused = ap parsed (by_test (is_utf8 text) refl)
  where
    by_test : (utf8 : Bool) → is_utf8 text ≡ utf8 → (if utf8 then parse_document text else None) ≡ None
    by_test true is = refused (IsUtf8-from_is_utf8 text is)
    by_test false is = refl
