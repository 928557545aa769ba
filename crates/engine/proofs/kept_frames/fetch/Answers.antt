use Rattle.std.proofs.Common.{◌≡◌, ◌∙◌, ℕ, ◌-◌, ◌≤◌, List, length, ap, sym, arith}
use Rattle.clip_decode.specs.Frames.{frames}
use Rattle.clip_decode.specs.Pages.{page_count}
use Rattle.scene_clips.proofs.FilePages.{frames_counted}
use Rattle.exec_reel.specs.ClipPages.{page_total}
use Rattle.resource_mgr.specs.Tapes.{bytes_of, clip_of, wave_of}
use Rattle.resource_mgr.specs.declared.tape.Tape.{Tape}
use Rattle.resource_mgr.proofs.Tapes.{not_shown}
use Rattle.engine.proofs.kept_frames.fetch.Goals as goal

few_pages : (t : Tape) (bytes : List ℕ) (count : ℕ) → bytes_of t ≡ bytes → count ≤ page_count (length (frames bytes)) → count ≤ page_total (clip_of t)
few_pages t bytes count same few =
    let all : length (frames (bytes_of t)) ≡ (wave_of t).frames = frames_counted (bytes_of t) (wave_of t) t.surveyed in
    let total : page_count (length (frames bytes)) ≡ page_total (clip_of t) = ap (λ b. page_count (length (frames b))) (sym same) ∙ ap page_count all in
    omega (arith, few, total)

pub ask_first-requires : goal.ask_first-requires
ask_first-requires c = few_pages c.args.tape.now c.args.clip.now.bytes c.pages_to-count.result c.requires.tape c.pages_to-count.ensures.most

pub returns-in-Err-clause-missing : goal.returns-in-Err-clause-missing
returns-in-Err-clause-missing c =
    let t = c.args.tape.now in
    let k = c.pages_to-count.result - 1 in
    let some = c.in-Err.ensures.not_yet.0 in
    let most = few_pages t c.args.clip.now.bytes c.pages_to-count.result c.requires.tape c.pages_to-count.ensures.most in
    not_shown t c.ask_first.new.self k c.in-Err.early.shown (omega (arith, some, most)) (c.in-Err.ensures.not_yet.1 k (omega (arith, some)))

pub returns-in-Err-clause-made : goal.returns-in-Err-clause-made
returns-in-Err-clause-made c =
    let some = c.in-Err.ensures.not_yet.0 in
    c.pages_to-count.ensures.last (c.pages_to-count.result - 1) (omega (arith, some))
