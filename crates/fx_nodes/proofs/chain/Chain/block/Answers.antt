-- The stages are lent and come back.
use Rattle.std.proofs.Common.{◌≡◌, ◌++◌, ◌∙◌, length, vec_len, drop, sym, subst, ap, rules, arith}
use Rattle.std.proofs.lemmas.List.{drop_at, length-append, take_at}
use Rattle.fx_nodes.specs.Stages.{HaveTaken, effects_in}
use Rattle.fx_nodes.specs.Effects.{chain_value}
use Rattle.fx_nodes.proofs.Chained.{length-chain_value}
use Rattle.fx_nodes.proofs.chain.Chain.block.Goals as goal

pub returns-clause-joined : goal.returns-clause-joined
returns-clause-joined c taken stands =
    let stages = c.args.self.now.stages.items in
    let view : c.as_mut_slice.result.now ≡ stages = search rules in
    (rw view at (c.run_stages.ensures.value taken stands.0 (rw view stands.1))).0

pub returns-clause-value : goal.returns-clause-value
returns-clause-value c taken stands =
    let effects = effects_in c.args.self.now in
    let joined = returns-clause-joined c taken stands in
    let out = c.run_stages.new.frames in
    sym (ap (drop (length taken)) joined ∙ drop_at (chain_value effects taken) out (length taken) (length-chain_value effects taken))

pub returns-clause-stands : goal.returns-clause-stands
returns-clause-stands c taken stands =
    let ys = c.args.frames.now in
    let stages = c.args.self.now.stages.items in
    let view : c.as_mut_slice.result.now ≡ stages = search rules in
    let out = c.run_stages.ensures.value taken stands.0 (rw view stands.1) in
    let count : length c.run_stages.new.stages ≡ vec_len c.args.self.now.stages = search rules in
    let same = take_at c.run_stages.new.stages (drop (length c.run_stages.new.stages) stages) (vec_len c.args.self.now.stages) count in
    (omega (arith, length-append taken ys, stands.0), subst (λ ss. HaveTaken ss (taken ++ ys)) (sym same) out.1)
