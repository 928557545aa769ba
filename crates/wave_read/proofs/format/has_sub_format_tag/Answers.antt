use Rattle.std.proofs.lemmas.List.{take_rest}
use Rattle.wave_read.specs.Format.{has_sub_format_tag}
use Rattle.wave_read.proofs.format.has_sub_format_tag.Goals as goal

pub returns : goal.returns
unfolding has_sub_format_tag
returns c = rw take_rest at c.starts_with.ensures.value
