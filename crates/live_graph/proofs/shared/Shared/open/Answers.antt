use Rattle.std.proofs.Common.{◌≡◌, ◌+◌, length, sym, ◌∙◌, ap}
use Rattle.live_graph.proofs.BlankParts.{passes_count}
use Rattle.live_graph.proofs.shared.Shared.open.Goals as goal

pub returns-clause-inputs : goal.returns-clause-inputs
returns-clause-inputs g c =
    let b = c.blank.inside in
    ap (λ m. length m.passes) c.new-mixer.ensures ∙ passes_count b.scene b.stage b.board b.passes.items c.blank.invariant
    ∙ ap (λ r. length r.scene.nodes + 1) (c.blank.view_is ∙ c.requires)
