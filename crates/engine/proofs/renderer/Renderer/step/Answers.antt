use Rattle.engine.proofs.Rendered.{renderer_stepped}
use Rattle.engine.proofs.renderer.Renderer.step.Goals as goal

pub invariant_of-self : goal.invariant_of-self
invariant_of-self c =
    let r = c.self.inside in
    let did = c.step-frames.ensures in
    renderer_stepped r.playback c.step-frames.new.self r.clock c.step-frames.result r.next r.ready r.samples.items c.self.invariant c.in_default.is did.scene did.clips did.tapes did.standing
