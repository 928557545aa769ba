use Rattle.clip_decode.proofs.PageLists.{page_sample}
use Rattle.clip_decode.proofs.laws.pages_have_samples.Goals as goal

pub returns : goal.returns
returns c = page_sample
