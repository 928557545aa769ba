use Rattle.std.proofs.Common.{Option, None, ◌≡◌, sym, ap, ◌∙◌, subst, replicate, set, ◌*◌}
use Rattle.atomic_table.specs.Table.{opening}
use Rattle.bus_list.specs.Rule.{first_view, first_words, TableInvariant}
use Rattle.bus_list.proofs.Sides.{opens}
use Rattle.bus_list.proofs.table.ListTable.open.Goals as goal

pub vacant-requires : goal.vacant-requires
vacant-requires g c =
    let words : c.deref.result.now ≡ first_words c.args.buses = c.deref.ensures.value ∙ ap (λ l. set l (3 * c.args.buses) c.args.buses) (c.in_ok-words.ensures.items_if_clones_equal (λ y e. e)) in
    subst (λ l. TableInvariant c.args.buses (opening l (replicate {A = Option g.row.T.Denot} c.args.buses None) (first_view c.args.buses))) (sym words) (opens c.args.buses)
