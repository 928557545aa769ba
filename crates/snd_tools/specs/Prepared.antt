-- What a scene is rendered from, as the program holds it.
use Rattle.std.specs.Prelude.{map}
use Rattle.clip_decode.specs.ClipData.{ClipData}
use Rattle.mix_model.specs.Mix.{mix}
use Rattle.snd_tools.specs.declared.prepared.Prepared.{Prepared}
use Rattle.snd_tools.specs.Outcome.{Rendering, rendering}

-- the rendering that is made of it
abbrev pub rendering_of : Prepared → Rendering
rendering_of p = rendering p.scene (mix p.scene (map (λ (c : ClipData). c.bytes) p.clips.items))
