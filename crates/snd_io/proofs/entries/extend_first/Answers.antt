use Rattle.std.proofs.Common.{refl, append-nil, rules}
use Rattle.snd_io.proofs.EntryLists.{extends_first}
use Rattle.snd_io.proofs.entries.extend_first.Goals as goal

pub returns-in-Ok-clause-files : goal.returns-in-Ok-clause-files
returns-in-Ok-clause-files c =
    extends_first _ _ _ _ _ _ c.in-Some.ensures.items c.push_front_reserved.ensures.items refl (search rules)

pub returns-in-Err-clause-err : goal.returns-in-Err-clause-err
returns-in-Err-clause-err c =
    extends_first _ _ _ _ _ _ c.in-Some.ensures.items c.push_front_reserved.ensures.items refl (rw append-nil (search rules))
