use Rattle.std.proofs.Common.{◌<◌, sym, subst, arith}
use Rattle.exec_reel.specs.ClipPages.{page_total}
use Rattle.exec_reel.specs.Reels.{clip_of_reader, shown_of}
use Rattle.resource_mgr.proofs.Readers.{asked, gave_later, has_next, later_refl, later_trans}
use Rattle.resource_mgr.proofs.tape.ask_between.Goals as goal

pub ask-requires : goal.ask-requires
ask-requires c =
    subst (λ clip. c.loop-k.k < page_total clip) (sym c.loop-k.invariant.later.same.1) (omega (arith, c.requires.most, c.loop-k-test.true))

pub loop-k-init : goal.loop-k-init
loop-k-init c = record { first = c.requires.first; later = later_refl c.args.reader.now }

pub loop-k-preserved : goal.loop-k-preserved
loop-k-preserved c =
    let r = c.loop-k.reader in
    let now = c.ask.new.self in
    let k = c.loop-k.k in
    let rises = c.loop-k.invariant.later.rises in
    let below : k < shown_of r = omega (arith, c.requires.shown, c.loop-k-test.true, rises) in
    let there : k < page_total (clip_of_reader r) = subst (λ clip. k < page_total clip) (sym c.loop-k.invariant.later.same.1) (omega (arith, c.requires.most, c.loop-k-test.true)) in
    let gave = asked r now k c.ask.result c.ask.ensures below in
    record {
      first = has_next k r now there gave c.loop-k.invariant.first;
      later = later_trans c.args.reader.now r now c.loop-k.invariant.later (gave_later r now k gave);
    }
