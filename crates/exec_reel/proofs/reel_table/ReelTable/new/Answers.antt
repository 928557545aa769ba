use Rattle.std.proofs.Common.{◌∷◌, [], ap, arith}
use Rattle.exec_reel.proofs.Opens.{opens}
use Rattle.exec_reel.proofs.reel_table.ReelTable.new.Goals as goal

pub new-requires : goal.new-requires
new-requires c =
    let a = c.requires.pages in
    let filled = c.from-filled.result in
    opens c.args.opening (filled ∷ filled ∷ []) c.args.cells.items (omega arith) (let b = c.requires.filled in omega arith) (ap (λ n. n ∷ n ∷ []) c.from-filled.ensures) c.requires.cells
