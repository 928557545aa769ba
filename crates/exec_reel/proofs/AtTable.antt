-- What the table asks of a step, from what the rule allows.
use Rattle.std.proofs.Common.{◌≡◌, ℕ, ◌<◌, sym, subst, arith}
use Rattle.atomic_table.specs.Seated.{TableId}
use Rattle.atomic_table.specs.Table.{Me, Allows, Splits}
use Rattle.exec_reel.specs.declared.cell.Cell.{Cell}
use Rattle.exec_reel.specs.declared.view.View.{View}
use Rattle.exec_reel.specs.declared.reel_table.ReelTable.{ReelTable}
use Rattle.exec_reel.specs.Rule.{Kept}

-- a step on a word
pub at_table : (t : ReelTable) (seat : TableId) (id : ℕ) (me : Me Cell View) (i : ℕ) (f : ℕ → ℕ) (told : ℕ → ℕ → Me Cell View → Type 0)
    → seat ≡ t.table.shared.table_id → i < 2 → ((slots : ℕ) → Allows (Kept t.opening) slots id me i f (told slots))
    → (seat ≡ t.table.shared.table_id) × (i < t.table.shared.table_id.words) × Allows (Kept t.table.shared.key) t.table.shared.table_id.slots id me i f (told t.table.shared.table_id.slots)
at_table t seat id me i f told at low allows =
    let words = t.words in
    (at, omega arith, subst (λ k. Allows (Kept k) t.table.shared.table_id.slots id me i f (told t.table.shared.table_id.slots)) (sym t.keyed) (allows t.table.shared.table_id.slots))

-- a split
pub split_at_table : (t : ReelTable) (seat : TableId) (id : ℕ) (v left right : View) → seat ≡ t.table.shared.table_id → Splits (Kept t.opening) id v left right
    → (seat ≡ t.table.shared.table_id) × (0 < t.table.shared.table_id.words) × Splits (Kept t.table.shared.key) id v left right
split_at_table t seat id v left right at splits =
    let words = t.words in
    (at, omega arith, subst (λ k. Splits (Kept k) id v left right) (sym t.keyed) splits)
