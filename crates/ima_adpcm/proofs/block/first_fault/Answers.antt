-- The first channel with a faulty header is the one that the loop stops at.
use Rattle.std.proofs.Common.{◌≡◌, arith, ap, sym, below_more, true}
use Rattle.std.proofs.lemmas.Bool.{le-ltb, lt-ltb}
use Rattle.std.specs.Option.{option_map}
use Rattle.ima_adpcm.specs.Blocks.{header_index}
use Rattle.ima_adpcm.specs.Faults.{first_fault, is_faulty}
use Rattle.ima_adpcm.specs.declared.fault.ImaFault.TheVariants.{StepIndex}
use Rattle.ima_adpcm.proofs.FaultLemmas.{find-none, find-first}
use Rattle.ima_adpcm.proofs.block.first_fault.Goals as goal

pub loop-channel-preserved : goal.loop-channel-preserved
loop-channel-preserved c =
    below_more _ _ c.loop-channel.invariant (rw (← c.from.ensures) (le-ltb _ _ c.if-found-gt-LAST_INDEX.false))

pub returns-then-found-gt-LAST_INDEX-clause-fault : goal.returns-then-found-gt-LAST_INDEX-clause-fault
unfolding first_fault
returns-then-found-gt-LAST_INDEX-clause-fault c =
    let faulty : is_faulty c.args.block.now c.loop-channel.channel ≡ true =
    rw (← c.from.ensures) (lt-ltb _ _ c.if-found-gt-LAST_INDEX.true) in
    rw c.from.ensures
    (ap (option_map (λ d. StepIndex d (header_index c.args.block.now d)))
    (sym (find-first (is_faulty c.args.block.now) 0 c.args.ch c.loop-channel.channel (omega arith) (omega arith)
    (λ d low below. c.loop-channel.invariant d below) faulty)))

pub returns-clause-fault : goal.returns-clause-fault
unfolding first_fault
returns-clause-fault c =
    ap (option_map (λ d. StepIndex d (header_index c.args.block.now d)))
    (sym (find-none (is_faulty c.args.block.now) 0 c.args.ch
    (λ d low below. c.loop-channel.invariant d (omega arith))))
