-- The text of a page that isn't loaded.
use Rattle.std.specs.Prelude.{ℕ, List, codes}

abbrev pub not_loaded_text : List ℕ
not_loaded_text = codes "not loaded"
