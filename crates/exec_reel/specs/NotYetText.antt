-- The text of a page that isn't shown yet.
use Rattle.std.specs.Prelude.{ℕ, List, ◌++◌, codes}
use Rattle.std.specs.Fmt.{decimal}
use Rattle.exec_reel.specs.declared.not_yet.NotYet.{NotYet}

abbrev pub not_yet_text : NotYet → List ℕ
not_yet_text early = codes "not yet: shown " ++ decimal early.shown
