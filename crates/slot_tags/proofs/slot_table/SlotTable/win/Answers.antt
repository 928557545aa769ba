use Rattle.std.proofs.Common.{◌%◌, ◌∙◌}
use Rattle.std.proofs.lemmas.Nat.Bits.{shr_and_one}
use Rattle.slot_tags.proofs.Tries.{missed_more}
use Rattle.slot_tags.proofs.slot_table.SlotTable.win.Goals as goal

pub loop-slot-preserved : goal.loop-slot-preserved
loop-slot-preserved g c =
    let l = c.loop-slot in
    let found = c.set_bit-found.result in
    let same = c.set_bit-found.ensures.same in (
      (same.0 ∙ l.invariant.0.0, same.1 ∙ l.invariant.0.1),
      missed_more l.slot found c.args.tag.now.me l.tag.me c.set_bit-found.new.tag.me l.invariant.1 c.set_bit-found.ensures.me (λ z. c.if-found-slot-eq0.false (shr_and_one found (l.slot % 32) ∙ z)),
    )
