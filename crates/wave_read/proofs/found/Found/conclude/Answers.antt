use Rattle.wave_read.proofs.Waves.{wave_lies}
use Rattle.wave_read.proofs.found.Found.conclude.Goals as goal

pub checked-requires : goal.checked-requires
checked-requires c =
    rw c.wave_from.ensures
    (wave_lies c.args.bytes.now c.in-Some-Some.format c.in-Some-Some.span c.args.self.count
    (rw c.in-Some-Some.is-0 at c.requires.lawful.format) (rw c.in-Some-Some.is-1 at c.requires.lawful.span))
