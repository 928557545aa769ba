use Rattle.std.proofs.Common.{◌∙◌, ap, sym, subst, slice_set, Some}
use Rattle.exec_reel.specs.declared.view.View.{View}
use Rattle.exec_reel.specs.ReaderPages.{KeepsPages}
use Rattle.exec_reel.proofs.Shelves.{keeps_more}
use Rattle.exec_reel.proofs.reader.Reader.take.Goals as goal

pub invariant_of-self : goal.invariant_of-self
invariant_of-self c =
    let r = c.args.self.now in
    let k = c.args.k in
    let taken = c.shown_page-page.ensures in
    let page = c.shown_page-page.result in
    let view = ap (λ m. m.0) taken.me.1 in
    record {
      at = (taken.same.0 ∙ r.at.0, ap (λ v. v.clip) view ∙ r.at.1);
      reads = (ap (λ v. v.role) view ∙ r.reads.0, ap (λ v. v.shown) view ∙ r.reads.1);
      kept = subst (λ (v : View). KeepsPages v.clip v.taken (slice_set r.pages.items k (Some page))) (sym view)
          (keeps_more r.seat.me.0.clip r.seat.me.0.taken r.pages.items r.kept k c.requires.below page taken.page);
    }
