use Rattle.std.proofs.Common.{◌≡◌, ◌∙◌, sym, ap, length, List, subst, true, arith}
use Rattle.std.specs.List.{list_all}
use Rattle.scene_model.specs.IsScene.{is_edit}
use Rattle.scene_script.specs.declared.placed_edit.PlacedEdit.{PlacedEdit}
use Rattle.scene_script.proofs.Edits.{all_may, length_all}
use Rattle.scene_script.proofs.placed_edit.check_edits.Goals as goal

pub make_all-requires-clause-few : goal.make_all-requires-clause-few
make_all-requires-clause-few c =
    omega (arith, ap length (c.as_slice.ensures.value ∙ c.in_ok-made.ensures), length_all c.args.buses.now c.args.edits.now)

pub make_all-requires-clause-are : goal.make_all-requires-clause-are
make_all-requires-clause-are c =
    let nodes = length c.args.nodes.now in
    subst (λ (es : List PlacedEdit). list_all (λ (e : PlacedEdit). is_edit nodes e.edit) es ≡ true)
    (sym (c.as_slice.ensures.value ∙ c.in_ok-made.ensures))
    (all_may nodes c.args.buses.now c.args.edits.now c.requires.bus_rows c.requires.edit_rows)
