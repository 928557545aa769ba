use Rattle.std.proofs.Common.{◌≡◌, ◌+◌, ◌*◌, ℤ, List, false, ◌∙◌, ap, rules}
use Rattle.scene_model.specs.Plans.{is_sound_kind}
use Rattle.scene_model.specs.PlanData.{PlanData}
use Rattle.mix_model.specs.Pulled.{node}
use Rattle.resource_mgr.proofs.Tapes.{laters_refl}
use Rattle.mix_fixed.specs.Kernels.{at}
use Rattle.engine.specs.Span.{node_places}
use Rattle.engine.proofs.NodesKept.{inputs_put_out, kept_place}
use Rattle.engine.proofs.SoundsHeard.{steady_places}
use Rattle.engine.proofs.playback.Playback.render_node.Goals as goal

pub returns-in-None-clause-outputs : goal.returns-in-None-clause-outputs
returns-in-None-clause-outputs c = λ s span feeds j below.
    let p = c.args.self.now in
    let other : is_sound_kind (node p.stage c.args.n).kind ≡ false = search rules in
    kept_place c.keep.new.self.kept.items c.args.n j
    ∙ c.keep.ensures.here j below
    ∙ inputs_put_out s (c.args.count * p.channels) c.args.n c.mix.new.self.samples.items (ap (λ (q : PlanData). is_sound_kind (node q c.args.n).kind) span.plan_is ∙ other)
    (c.mix.ensures.inputs s span.plan_is span.time_is (steady_places s p c.args.count c.requires.playable span) feeds) j below

pub returns-in-None-clause-others : goal.returns-in-None-clause-others
returns-in-None-clause-others c = λ m j apart below.
    c.keep.ensures.others m j apart below ∙ ap (λ (xs : List ℤ). at xs (m * node_places + j)) c.mix.ensures.kept

pub returns-in-None-clause-tapes : goal.returns-in-None-clause-tapes
returns-in-None-clause-tapes c = laters_refl c.args.self.now.tapes.items
