use Rattle.std.proofs.Common.{sym, ◌∙◌, ap, subst, Bool, ◌↔◌, IsTrue}
use Rattle.scene_model.specs.Reach.{Reaches, reaches}
use Rattle.scene_model.proofs.Reachable.{reaches_is}
use Rattle.scene_model.proofs.plan.Plan.reaches.Goals as goal

pub returns-clause-law : goal.returns-clause-law
returns-clause-law c =
    let from = c.args.from in
    let to = c.args.to in
    let P : Bool → Type 0 = λ b. IsTrue b ↔ Reaches c.args.self.now.buses from to in
    subst P (ap (λ bs. reaches bs from to) (ap (λ p. p.buses) (sym c.self.view_is) ∙ sym c.as_slice.ensures.value) ∙ sym c.reaches.ensures) (reaches_is c.args.self.now.buses from to)
