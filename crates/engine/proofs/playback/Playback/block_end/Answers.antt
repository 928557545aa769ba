use Rattle.std.proofs.Common.{◌≡◌, inl, inr, ℕ, ◌+◌, ◌<◌, List, length, sym, ◌∙◌, ap, arith}
use Rattle.std.specs.Prelude.{min}
use Rattle.std.proofs.lemmas.Bool.{ltb-false, ltb-true}
use Rattle.std.proofs.lemmas.List.{get_or_default}
use Rattle.scene_model.specs.declared.order.NumberedEdit.{NumberedEdit}
use Rattle.scene_model.specs.Order.{in_order}
use Rattle.mix_model.specs.Due.{frame_at, no_edit}
use Rattle.engine.specs.Playing.{NoEditsBetween}
use Rattle.engine.proofs.BlockEnds.{block_is, least, next_edit, no_edits_left}
use Rattle.engine.proofs.playback.Playback.block_end.Goals as goal

-- the next edit is there, and this is its frame
record IsNextAt (edits : List NumberedEdit) (place at : ℕ) : Type 0 where
  inside : place < length edits
  frame : at ≡ frame_at edits place

next_is : (xs edits : List NumberedEdit) (place : ℕ) (e : NumberedEdit) → xs ≡ edits → place < length xs → e ≡ Rattle.std.specs.Prelude.slice_index_or xs place e → IsNextAt edits place e.row.at
next_is xs edits place e same inside here = record {
  inside = omega (arith, inside, ap (λ (ys : List NumberedEdit). length ys) same);
  frame = ap (λ (x : NumberedEdit). x.row.at) (here ∙ get_or_default xs place e no_edit inside) ∙ ap (λ (ys : List NumberedEdit). frame_at ys place) same;
}

pub returns-in-Some-clause-quiet : goal.returns-in-Some-clause-quiet
returns-in-Some-clause-quiet c =
    let p = c.args.self.now in
    let xs = c.as_slice.result.now in
    let lookup = c.in-Some.ensures.lookup in
    let next = next_is xs (in_order p.scene.value.edits) p.place c.in-Some.edit.now (c.as_slice.ensures ∙ c.requires.at.of_scene.edits_are) (ltb-true p.place (length xs) (sym lookup.0)) lookup.1 in
    next_edit p c.min.result c.requires.at next.inside (omega (arith, c.min.ensures, next.frame))

pub returns-in-Some-clause-block : goal.returns-in-Some-clause-block
returns-in-Some-clause-block c =
    let p = c.args.self.now in
    let at = c.requires.at in
    let xs = c.as_slice.result.now in
    let lookup = c.in-Some.ensures.lookup in
    let next = next_is xs (in_order p.scene.value.edits) p.place c.in-Some.edit.now (c.as_slice.ensures ∙ at.of_scene.edits_are) (ltb-true p.place (length xs) (sym lookup.0)) lookup.1 in
    let none : NoEditsBetween (in_order p.scene.value.edits) p.time c.min.result = next_edit p c.min.result at next.inside (omega (arith, c.min.ensures, next.frame)) in
    let later = at.moment.next.waiting p.place (omega arith) next.inside in
    let far : p.time < c.min.result = omega (arith, c.min.ensures, c.min-end.ensures, next.frame, later, at.time_most, at.of_scene.length_is) in
    block_is p c.min.result at far (omega (arith, c.min.ensures, c.min-end.ensures)) (omega (arith, c.min.ensures, c.min-end.ensures, at.of_scene.length_is)) none
    (elim (least c.min-end.result c.in-Some.edit.now.row.at) [
      | inr edit ↦ inr (inr (p.place, next.inside, c.min.ensures ∙ edit ∙ next.frame))
      | inl first ↦ elim (least p.length (p.time + 512)) [
        | inl last ↦ inr (inl (c.min.ensures ∙ first ∙ c.min-end.ensures ∙ last ∙ at.of_scene.length_is))
        | inr full ↦ inl (c.min.ensures ∙ first ∙ c.min-end.ensures ∙ full)
      ]
    ])

pub returns-in-None-clause-block : goal.returns-in-None-clause-block
returns-in-None-clause-block c =
    let p = c.args.self.now in
    let at = c.requires.at in
    let xs = c.as_slice.result.now in
    block_is p c.min-end.result at (omega (arith, c.min-end.ensures, at.time_most, at.of_scene.length_is)) (omega (arith, c.min-end.ensures)) (omega (arith, c.min-end.ensures, at.of_scene.length_is))
    (no_edits_left p c.min-end.result at (omega (arith, ltb-false p.place (length xs) (sym c.in-None.ensures.lookup.0), ap (λ (ys : List NumberedEdit). length ys) (c.as_slice.ensures ∙ at.of_scene.edits_are))))
    (elim (least p.length (p.time + 512)) [
      | inl last ↦ inr (inl (c.min-end.ensures ∙ last ∙ at.of_scene.length_is))
      | inr full ↦ inl (c.min-end.ensures ∙ full)
    ])
