use Rattle.ima_adpcm.proofs.LayoutLemmas.{word-inside}
use Rattle.std.proofs.Common.{length}
use Rattle.ima_adpcm.proofs.word.code.Goals as goal

pub word-requires : goal.word-requires
word-requires c = word-inside (length c.args.block.now) c.args.ch c.args.c c.args.j c.requires.channel c.requires.there
