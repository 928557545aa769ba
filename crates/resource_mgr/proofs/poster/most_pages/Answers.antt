use Rattle.std.proofs.Common.{◌≡◌, ◌<◌, ◌∙◌, ℕ, ap, get_or, length, map, max, subst, sym, arith}
use Rattle.std.proofs.lemmas.List.{get_or-map, length-map}
use Rattle.std.proofs.lemmas.List.Sums.{fold_more}
use Rattle.resource_mgr.specs.PageOrder.{ReelPages, pages_of_tape}
use Rattle.resource_mgr.proofs.poster.most_pages.Goals as goal

pub loop-tape-preserved : goal.loop-tape-preserved
loop-tape-preserved c =
    let tapes = c.args.tapes.now in
    let i = c.loop-tape.tape-index in
    let t = c.tape-item.result in
    let reels = map pages_of_tape tapes in
    let inside : i < length tapes = omega (arith, c.loop-tape-test.true) in
    let there : i < length reels = subst (λ n. i < n) (sym (length-map tapes pages_of_tape)) inside in
    let at : get_or reels i (pages_of_tape t) ≡ pages_of_tape t = get_or-map pages_of_tape tapes i t (pages_of_tape t) inside ∙ ap pages_of_tape (sym c.tape-item.is) in
    let more = fold_more (λ (a : ℕ) (x : ReelPages). max a x.pages) 0 reels i (pages_of_tape t) there in
    let pages : c.pages.result ≡ (get_or reels i (pages_of_tape t)).pages = c.pages.ensures ∙ ap (λ (x : ReelPages). x.pages) (sym at) in
    c.max-most.ensures ∙ (λ k. max (c.loop-tape.invariant k) (pages k)) ∙ sym more
