-- A text or a table that a call lends, beside what is said of it.
use Rattle.std.specs.Borrow.{Bor}
use Rattle.std.specs.Prelude.{◌≡◌, ℕ, List, Result, Ok, Err, String}
use Rattle.std.specs.BTreeMap.{BTreeMap}
use Rattle.std.specs.declared.alloc.Global.{Global}
use Rattle.toml.specs.declared.value.Value.{Value}
use Rattle.toml.specs.Data.{Members}
use Rattle.toml.specs.View.{table_view}
use Rattle.scene_script.specs.declared.fault.SceneFault.{SceneFault}

-- the text is the one that is said, or the fault is
abbrev pub Reads : Result (Bor (List ℕ)) SceneFault → Result (List ℕ) SceneFault → Type 0
Reads (Ok text) said = said ≡ Ok text.now
Reads (Err f) said = said ≡ Err f

-- the table has the members that are said, or the fault is
abbrev pub ReadsTable : Result (Bor (BTreeMap (String Global) Value)) SceneFault → Result Members SceneFault → Type 0
ReadsTable (Ok t) said = said ≡ Ok (table_view t.now)
ReadsTable (Err f) said = said ≡ Err f
