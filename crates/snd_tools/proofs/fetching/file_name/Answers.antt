use Rattle.std.proofs.Common.{◌∙◌}
use Rattle.snd_tools.proofs.NamedClips.{name-at}
use Rattle.snd_tools.proofs.fetching.file_name.Goals as goal

pub returns : goal.returns
returns c = c.as_str.ensures ∙ name-at c.args.resources.now c.args.number c.index-resources-number.result c.requires
