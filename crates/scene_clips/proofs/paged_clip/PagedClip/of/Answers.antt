use Rattle.scene_clips.proofs.Rates.{conversion}
use Rattle.scene_clips.proofs.paged_clip.PagedClip.of.Goals as goal

pub new-converter-requires-clause-conversion : goal.new-converter-requires-clause-conversion
new-converter-requires-clause-conversion c =
    let lawful = rw c.of-file.ensures at c.wave-wave.ensures.lawful in
    rw (c.wave-wave.ensures.value, c.of-file.ensures)
    (conversion c.args.clip.now.bytes c.args.clip.now.wave c.args.rate lawful c.requires.bytes
    c.requires.rate_least c.requires.rate_most)
