use Rattle.std.proofs.Common.{◌≡◌, ℕ, ◌⊎◌, inl, inr, ◌<◌, true, length, subst, arith}
use Rattle.std.proofs.lemmas.Bool.{ltb-true}
use Rattle.scene_model.specs.declared.edit.Edit.{Edit}
use Rattle.scene_model.specs.declared.edit.Edit.TheVariants.{Start, Stop}
use Rattle.scene_model.specs.IsPlan.{names_nodes}
use Rattle.live_graph.proofs.dials.dial_of.Goals as goal

switched : (nodes : ℕ) (e : Edit) (node : ℕ) → (e ≡ Start node) ⊎ (e ≡ Stop node) → names_nodes nodes e ≡ true → node < nodes
switched nodes e node (inl is) named = ltb-true node nodes (subst (λ (f : Edit). names_nodes nodes f ≡ true) is named)
switched nodes e node (inr is) named = ltb-true node nodes (subst (λ (f : Edit). names_nodes nodes f ≡ true) is named)

pub overflow_mul-result : goal.overflow_mul-result
overflow_mul-result c =
    let nodes = length c.args.plan.now.nodes in
    let low : c.in-From.node < nodes = ltb-true c.in-From.node nodes (subst (λ (e : Edit). names_nodes nodes e ≡ true) c.in-From.is c.requires) in
    let most = c.nodes.ensures.plan.nodes_most in
    omega arith

pub overflow_add-result-in-From : goal.overflow_add-result-in-From
overflow_add-result-in-From c =
    let nodes = length c.args.plan.now.nodes in
    let low : c.in-From.node < nodes = ltb-true c.in-From.node nodes (subst (λ (e : Edit). names_nodes nodes e ≡ true) c.in-From.is c.requires) in
    let most = c.nodes.ensures.plan.nodes_most in
    omega arith

pub overflow_mul-result-in-Until : goal.overflow_mul-result-in-Until
overflow_mul-result-in-Until c =
    let nodes = length c.args.plan.now.nodes in
    let low : c.in-Until.node < nodes = ltb-true c.in-Until.node nodes (subst (λ (e : Edit). names_nodes nodes e ≡ true) c.in-Until.is c.requires) in
    let most = c.nodes.ensures.plan.nodes_most in
    omega arith

pub overflow_add-result-in-Until : goal.overflow_add-result-in-Until
overflow_add-result-in-Until c =
    let nodes = length c.args.plan.now.nodes in
    let low : c.in-Until.node < nodes = ltb-true c.in-Until.node nodes (subst (λ (e : Edit). names_nodes nodes e ≡ true) c.in-Until.is c.requires) in
    let most = c.nodes.ensures.plan.nodes_most in
    omega arith

pub overflow_mul-result-in-Seek : goal.overflow_mul-result-in-Seek
overflow_mul-result-in-Seek c =
    let nodes = length c.args.plan.now.nodes in
    let low : c.in-Seek.node < nodes = ltb-true c.in-Seek.node nodes (subst (λ (e : Edit). names_nodes nodes e ≡ true) c.in-Seek.is c.requires) in
    let most = c.nodes.ensures.plan.nodes_most in
    omega arith

pub overflow_add-result-in-Seek : goal.overflow_add-result-in-Seek
overflow_add-result-in-Seek c =
    let nodes = length c.args.plan.now.nodes in
    let low : c.in-Seek.node < nodes = ltb-true c.in-Seek.node nodes (subst (λ (e : Edit). names_nodes nodes e ≡ true) c.in-Seek.is c.requires) in
    let most = c.nodes.ensures.plan.nodes_most in
    omega arith

pub overflow_mul-result-in-Loop : goal.overflow_mul-result-in-Loop
overflow_mul-result-in-Loop c =
    let nodes = length c.args.plan.now.nodes in
    let low : c.in-Loop.node < nodes = ltb-true c.in-Loop.node nodes (subst (λ (e : Edit). names_nodes nodes e ≡ true) c.in-Loop.is c.requires) in
    let most = c.nodes.ensures.plan.nodes_most in
    omega arith

pub overflow_add-result-in-Loop : goal.overflow_add-result-in-Loop
overflow_add-result-in-Loop c =
    let nodes = length c.args.plan.now.nodes in
    let low : c.in-Loop.node < nodes = ltb-true c.in-Loop.node nodes (subst (λ (e : Edit). names_nodes nodes e ≡ true) c.in-Loop.is c.requires) in
    let most = c.nodes.ensures.plan.nodes_most in
    omega arith

pub overflow_mul-result-in-Start : goal.overflow_mul-result-in-Start
overflow_mul-result-in-Start c =
    let nodes = length c.args.plan.now.nodes in
    let low = switched nodes c.args.edit.now c.in-Start.node c.in-Start.is c.requires in
    let most = c.nodes.ensures.plan.nodes_most in
    omega arith
