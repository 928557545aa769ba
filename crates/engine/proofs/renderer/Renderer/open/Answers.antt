use Rattle.std.proofs.Common.{List, rules, refl, sym, ◌∙◌, ap}
use Rattle.scene_model.specs.SceneData.{SceneData}
use Rattle.resource_mgr.specs.Tapes.{files_of}
use Rattle.resource_mgr.specs.declared.tape.Tape.{Tape}
use Rattle.mix_model.specs.Mix.{clips_of}
use Rattle.engine.specs.RendererData.{at_first_frame}
use Rattle.engine.proofs.renderer.Renderer.open.Goals as goal

pub invariant_of-result : goal.invariant_of-result
invariant_of-result c =
    let p = c.in_ok-playback.playback in
    let did = c.in_ok-playback.ensures in
    record {
      clips_are = did.clips
          ∙ sym (ap (λ (ts : List Tape). clips_of p.scene.value (files_of ts)) did.tapes ∙ ap (λ (s : SceneData). clips_of s (files_of c.args.tapes.items)) did.scene);
      standing = record { before = did.before; time_is = did.time; not_ready = refl };
      room = search rules;
    }

pub returns : goal.returns
returns c =
    let p = c.in_ok-playback.playback in
    let did = c.in_ok-playback.ensures in
    ap (λ (s : SceneData). at_first_frame s p.tapes.items) did.scene ∙ ap (at_first_frame c.args.scene.now) did.tapes
