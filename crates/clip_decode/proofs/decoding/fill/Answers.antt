use Rattle.std.proofs.Common.{◌≡◌, ◌-◌, ◌*◌, ◌≤◌, ◌∙◌, min, length, drop, ap, refl, arith}
use Rattle.std.proofs.Math.Nat.{mul-le-mul_right}
use Rattle.std.specs.Prelude.{vec_len}
use Rattle.clip_decode.specs.Pages.{frames_per_page}
use Rattle.clip_decode.proofs.PageLists.{page_written, same_page, refilled}
use Rattle.clip_decode.proofs.decoding.fill.Goals as goal

pub returns-clause-page : goal.returns-clause-page
returns-clause-page c =
    let bytes = c.args.clip.now.bytes in
    let w = c.args.clip.now.wave in
    let k = c.args.cursor.now.page in
    let cells = c.page.inside.cells in
    let new = c.page_into-page-inside.new.out in
    let n = min (w.frames - frames_per_page * k) frames_per_page in
    let channels : c.page.inside.channels ≡ w.channels = ap (λ p. p.channels) c.page.view_is ∙ c.requires.channels in
    let count : c.page_into-page-inside.result ≡ n * w.channels =
    rw c.wave-wave.ensures.value at c.page_into-page-inside.ensures.count in
    let full : length new ≡ vec_len cells = c.page_into-page-inside.auto.out ∙ c.deref_mut.ensures.len in
    let whole : vec_len cells ≡ frames_per_page * w.channels = rw channels at c.page.invariant.room in
    let room : n * w.channels ≤ length new =
    omega (arith, full, whole, mul-le-mul_right {m = n} {n = frames_per_page} w.channels (omega arith)) in
    let written = rw (c.bytes-bytes.ensures, c.wave-wave.ensures.value) at c.page_into-page-inside.ensures.written in
    same_page _ _ channels
    (rw (count, refilled (vec_len cells) new (drop (length new) cells.items) full)
    (page_written bytes w k n new c.wave-wave.ensures.surveyed c.wave-wave.ensures.lawful.lies.channels_least refl room written))
