use Rattle.std.proofs.Common.{refl}
use Rattle.scene_model.specs.Order.{in_order}
use Rattle.mix_model.proofs.Spans.{quiet_until}
use Rattle.mix_model.proofs.span_laws.no_edit_falls_before_the_next.Goals as goal

pub returns : goal.returns
returns c = λ s t place count. quiet_until s (in_order s.edits) t place count refl
