-- What a table asks of a step, from what the rule allows. The proof of each function that makes a step goes through this lemma.
use Rattle.std.proofs.Common.{◌≡◌, ℕ, ◌+◌, ◌*◌, ◌<◌, sym, ap, ◌∙◌, subst₂, arith, Option}
use Rattle.std.specs.Arc.{arc_value}
use Rattle.atomic_table.specs.Seated.{TableId}
use Rattle.atomic_table.specs.Table.{Me, Allows}
use Rattle.bus_list.specs.declared.view.View.{View}
use Rattle.bus_list.specs.declared.table.ListTable.{ListTable}
use Rattle.bus_list.specs.Rule.{TableInvariant}

module _ {F : Type 0} where
  -- A step on the word i of the list's table, by the seat `id`. What it tells, `told`, may name the number of slots.
  pub at_table : {key : ℕ} {here mine : TableId} {i : ℕ} (list : ListTable F) (id : ℕ) (me : Me (Option F) (View F)) (f : ℕ → ℕ) (told : ℕ → ℕ → Me (Option F) (View F) → Type 0)
      → key ≡ list.buses → here ≡ (arc_value list.table).shared.table_id → mine ≡ (arc_value list.table).shared.table_id → i < 3 * list.buses + 3
      → Allows (TableInvariant list.buses) list.buses id me i f (told list.buses)
      → (mine ≡ here) × (i < here.words) × Allows (TableInvariant key) here.slots id me i f (told here.slots)
  at_table {here = here} {i = i} list id me f told keyed same at low allows =
      let size = ap (λ (t : TableId). t.words) same ∙ list.words in (
        at ∙ sym same,
        omega arith,
        subst₂ (λ k n. Allows (TableInvariant k) n id me i f (told n)) (sym keyed) (sym (ap (λ (t : TableId). t.slots) same ∙ list.slots)) allows,
      )
