use Rattle.std.proofs.Common.{◌≡◌, ◌+◌, false, length, nat_lt, refl, ◌∙◌, ap, Err, arith}
use Rattle.resource_mgr.proofs.fetching.clip_of.Goals as goal

pub returns-in-Err-Fault-clause-value : goal.returns-in-Err-Fault-clause-value
returns-in-Err-Fault-clause-value c =
    let short : nat_lt 134217728 (c.args.total + length c.args.bytes.items) ≡ false = grind arith in
    let faulty = (c.new.ensures.fault c.in-Err-Fault.fault).0 (c.in-Err-Fault.is ∙ ap Err c.in-Err-Fault.field-0-is) in
    rw (short, faulty) refl
