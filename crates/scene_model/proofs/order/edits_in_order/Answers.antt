use Rattle.std.proofs.Common.{rules, arith, ◌≡◌, ◌++◌, sym, ◌∙◌, append-nil}
use Rattle.std.proofs.lemmas.Fn.{always_returns_same}
use Rattle.std.proofs.lemmas.List.{at_drop_all}
use Rattle.std.proofs.lemmas.List.Sorted.{IsNonDecreasingBy-from_sort_by_key}
use Rattle.scene_model.specs.declared.order.NumberedEdit.{NumberedEdit}
use Rattle.scene_model.specs.Order.{numbered}
use Rattle.scene_model.proofs.Sorting.{sorted_in_order}
use Rattle.scene_model.proofs.order.edits_in_order.Goals as goal

pub returns : goal.returns
returns c =
    let rows = c.args.rows.now in
    let placed = c.loop-number.edits.items in
    let whole : placed ≡ numbered 0 rows = sym (append-nil placed) ∙ sym (at_drop_all (λ es. placed ++ numbered c.loop-number.number es) rows c.loop-number.number (omega arith)) ∙ c.loop-number.invariant in
    c.new.ensures
    ∙ sorted_in_order rows placed c.sort_by_key.new.self.items whole
    (IsNonDecreasingBy-from_sort_by_key (λ (e : NumberedEdit). e.row.at) c.sort_by_key.new.self.items c.in_ok-sort_by_key.ensures.sorted (λ a r q k. search rules))
    (c.sort_by_key.ensures.stable (λ (e : NumberedEdit). e.row.at) (always_returns_same _ _ _ (λ a r q k. search rules)))
