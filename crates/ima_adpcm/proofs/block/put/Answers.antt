-- The write is the one place of the list that the sample has.
use Rattle.std.specs.Int.{w16}
use Rattle.std.proofs.lemmas.Int.{to_z-of_z}
use Rattle.ima_adpcm.proofs.FrameLemmas.{put-set}
use Rattle.ima_adpcm.proofs.block.put.Goals as goal

pub returns : goal.returns
returns c =
    rw (c.from.ensures, c.from-2.ensures, to_z-of_z w16 c.args.sample c.ranges.sample)
    (put-set c.args.ch c.args.f c.args.c c.args.sample c.args.out.now c.requires.channel c.requires.room)
