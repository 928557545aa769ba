use Rattle.std.proofs.Common.{rules, ◌≡◌, ◌++◌, ◌∙◌, sym, ap, append_assoc}
use Rattle.rtrb.specs.Ring.{sent, received, known_items}
use Rattle.stream_reel.specs.Asks.{back_of}
use Rattle.stream_reel.proofs.HeardLists.{all_lawful}
use Rattle.stream_reel.proofs.stream.Stream.close.Goals as goal

pub returns-clause-lawful : goal.returns-clause-lawful
returns-clause-lawful c =
    let f = c.args.filler in
    let l = c.args.listener in
    let known = known_items c.slots_beside.new.self in
    let in_order : received l.fills ++ known ≡ sent f.fills = search rules in
    all_lawful f.clip.bytes (received l.fills) (known ++ f.kept) (sent f.fills ++ f.kept) (back_of (sent l.asks) l.kept) l.round l.place
    (sym (append_assoc (received l.fills) known f.kept) ∙ ap (λ xs. xs ++ f.kept) in_order) f.true_pages l.came l.order
