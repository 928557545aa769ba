use Rattle.std.proofs.Common.{◌∙◌, arith}
use Rattle.slot_tags.proofs.SeatSteps.{opens}
use Rattle.slot_tags.proofs.step_table.StepTable.new.Goals as goal

pub vacant-requires : goal.vacant-requires
vacant-requires g c = opens g.row.J.coded.code record { groups = c.args.groups; last = c.args.last } c.requires.2 (omega arith) c.as_slice.result.now (c.as_slice.ensures.value ∙ c.in_ok-words.ensures.items_if_clones_equal (λ y e. e))
