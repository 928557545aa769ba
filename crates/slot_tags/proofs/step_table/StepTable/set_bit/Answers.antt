use Rattle.std.proofs.Common.{ap, ◌∙◌, arith}
use Rattle.slot_tags.proofs.BitSteps.{sets_bit_as}
use Rattle.slot_tags.proofs.Words.{slot_is}
use Rattle.slot_tags.specs.Steps.{tried}
use Rattle.slot_tags.proofs.step_table.StepTable.set_bit.Goals as goal

pub fetch_or-requires : goal.fetch_or-requires
fetch_or-requires g c =
    let t = c.args.self.now in let inside = c.requires.slot in let words = t.words in
    (c.requires.at, omega arith, sets_bit_as g.row.J.coded.code t.table.shared.key record { groups = t.groups; last = t.last } t.table.shared.table_id.slots c.args.slot inside t.keyed t.slots c.args.tag.now.id c.args.tag.now.me c.requires.role)

pub returns-clause-me : goal.returns-clause-me
returns-clause-me g c = c.fetch_or.ensures.2 ∙ ap (λ x. (tried x c.fetch_or.result c.args.tag.now.me.0, c.args.tag.now.me.1)) (slot_is c.args.slot)
