use Rattle.std.proofs.Common.{◌≡◌, map, take}
use Rattle.clip_decode.specs.ClipData.{ClipData}
use Rattle.mix_model.specs.Mix.{clips_of}
use Rattle.mix_model.proofs.clips.decoded.Given as goal

abbrev pub invariant-loop-clip : goal.invariant-loop-clip
invariant-loop-clip l = l.decoded.items ≡ clips_of l.fn.scene (map (λ (c : ClipData). c.bytes) (take l.clip-index l.clips))
