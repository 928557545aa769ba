use Rattle.std.proofs.Common.{sym, ◌∙◌, ap, ◌++◌, ◌∷◌, [], append_assoc, arith}
use Rattle.std.proofs.lemmas.List.FromFn.{map-range_with_len_more}
use Rattle.scene_model.specs.Opening.{unattached, outputs_of}
use Rattle.scene_model.proofs.outputs.push_outputs.Goals as goal

pub loop-out-preserved : goal.loop-out-preserved
loop-out-preserved c =
    let node = c.args.node in
    let out = c.loop-out.out in
    let more = map-range_with_len_more (unattached node) 0 out out (omega arith) in
    c.in_ok-push.ensures.items ∙ ap (λ bs. bs ++ unattached node out ∷ []) c.loop-out.invariant ∙ append_assoc c.args.buses.now.items (outputs_of node out) (unattached node out ∷ []) ∙ ap (λ bs. c.args.buses.now.items ++ bs) (sym more)
