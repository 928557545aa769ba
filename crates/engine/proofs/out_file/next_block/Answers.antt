use Rattle.std.proofs.Common.{◌≡◌, ◌+◌, ◌++◌, ℕ, ℤ, true, false, List, Option, None, Some, sym, ◌∙◌, ap, subst}
use Rattle.std.specs.Prelude.{IfSome}
use Rattle.clip_decode.specs.Frames.{interleaved}
use Rattle.scene_model.specs.SceneData.{SceneData}
use Rattle.wave_write.specs.Samples.{packed}
use Rattle.mix_model.specs.Mix.{clips_of, frames_from}
use Rattle.mix_model.specs.Rendering.{data_of, summary_of}
use Rattle.mix_model.specs.Summary.{summary}
use Rattle.mix_model.specs.declared.summary.Summary.{Summary}
use Rattle.mix_model.proofs.Written.{samples-join, data-join, samples_24}
use Rattle.resource_mgr.specs.Tapes.{AreLater, files_of}
use Rattle.resource_mgr.specs.declared.tape.Tape.{Tape}
use Rattle.resource_mgr.proofs.Tapes.{laters_files}
use Rattle.engine.specs.RendererData.{RendererData, clips_heard}
use Rattle.engine.specs.Rendering.{frames_before}
use Rattle.engine.proofs.out_file.next_block.Goals as goal

-- a renderer whose next block of so many frames is ready
abbrev ready_for : RendererData → ℕ → List Tape → RendererData
ready_for r frames tapes = record r { next = Some frames; tapes = tapes; ready = true }

-- what a block wrote, and where it left the renderer
block_heard : (r q : RendererData) (s : SceneData) (frames : ℕ) (out : List ℤ) → q ≡ ready_for r frames q.tapes → files_of q.tapes ≡ files_of r.tapes → r.scene ≡ s
    → IfSome q.next (λ f. out ≡ interleaved (frames_from (clips_heard q) q.scene q.clock f)) → out ≡ interleaved (frames_from (clips_of s (files_of r.tapes)) s r.clock frames)
block_heard r q s frames out is files scene heard =
    let here : out ≡ interleaved (frames_from (clips_of r.scene (files_of q.tapes)) r.scene r.clock frames) = subst (λ (x : RendererData). IfSome x.next (λ f. out ≡ interleaved (frames_from (clips_heard x) x.scene x.clock f))) is heard in
    here ∙ ap (λ fs. interleaved (frames_from (clips_of r.scene fs) r.scene r.clock frames)) files
    ∙ ap (λ (x : SceneData). interleaved (frames_from (clips_of x (files_of r.tapes)) x r.clock frames)) scene

block_left : (r q new : RendererData) (frames : ℕ) → q ≡ ready_for r frames q.tapes → IfSome q.next (λ f. new ≡ record q { clock = q.clock + f; next = None; ready = false })
    → new ≡ record r { clock = r.clock + frames; tapes = q.tapes; next = None; ready = false }
block_left r q new frames is next =
    subst (λ (x : RendererData). IfSome x.next (λ f. new ≡ record x { clock = x.clock + f; next = None; ready = false })) is next

block_clock : (r q new : RendererData) (frames : ℕ) → q ≡ ready_for r frames q.tapes → IfSome q.next (λ f. new ≡ record q { clock = q.clock + f; next = None; ready = false }) → new.clock ≡ r.clock + frames
block_clock r q new frames is next = ap (λ (x : RendererData). x.clock) (block_left r q new frames is next)

block_tapes : (r q new : RendererData) (frames : ℕ) → q ≡ ready_for r frames q.tapes → IfSome q.next (λ f. new ≡ record q { clock = q.clock + f; next = None; ready = false }) → new.tapes ≡ q.tapes
block_tapes r q new frames is next = ap (λ (x : RendererData). x.tapes) (block_left r q new frames is next)

block_next : (r q new : RendererData) (frames : ℕ) → (r.next ≡ None) × (r.ready ≡ false) → q ≡ ready_for r frames q.tapes
    → IfSome q.next (λ f. new ≡ record q { clock = q.clock + f; next = None; ready = false }) → new ≡ record r { clock = new.clock; tapes = new.tapes }
block_next r q new frames fresh is next =
    let left = block_left r q new frames is next in
    left
    ∙ ap (λ (n : Option ℕ). record r { clock = r.clock + frames; tapes = q.tapes; next = n; ready = false }) (sym fresh.0)
    ∙ ap (λ b. record r { clock = r.clock + frames; tapes = q.tapes; ready = b }) (sym fresh.1)
    ∙ ap (λ t. record r { clock = t; tapes = q.tapes }) (sym (block_clock r q new frames is next))
    ∙ ap (λ (ts : List Tape). record r { clock = new.clock; tapes = ts }) (sym (block_tapes r q new frames is next))

summary_more : (s : SceneData) (files : List (List ℕ)) (t frames later : ℕ) (was now : Summary) (out : List ℤ) (bytes : List ℕ) → later ≡ t + frames
    → out ≡ interleaved (frames_from (clips_of s files) s t frames) → bytes ≡ data_of s (frames_from (clips_of s files) s t frames)
    → ((xs : List ℤ) (ys : List ℕ) → was ≡ summary xs ys → now ≡ summary (xs ++ out) (ys ++ bytes))
    → was ≡ summary_of s (frames_before s files t) → now ≡ summary_of s (frames_before s files later)
summary_more s files t frames later was now out bytes e samples are more is =
    let clips = clips_of s files in
    let so_far = frames_from clips s 0 t in
    more (interleaved so_far) (data_of s so_far) is
    ∙ ap (λ xs. summary (interleaved so_far ++ xs) (data_of s so_far ++ bytes)) samples
    ∙ ap (λ ys. summary (interleaved so_far ++ interleaved (frames_from clips s t frames)) (data_of s so_far ++ ys)) are
    ∙ ap (λ xs. summary xs (data_of s so_far ++ data_of s (frames_from clips s t frames))) (sym (samples-join clips s t frames later e))
    ∙ ap (λ ys. summary (interleaved (frames_from clips s 0 later)) ys) (sym (data-join clips s t frames later e))

pub make_ready-requires-clause-shows : goal.make_ready-requires-clause-shows
make_ready-requires-clause-shows g c = subst (g.P.PageSource.shows c.args.source.now) (sym (ap (λ (x : RendererData). x.tapes) c.step-frames.ensures.next)) c.requires.shows

pub pack-requires-clause-samples : goal.pack-requires-clause-samples
pack-requires-clause-samples g c =
    let s = c.args.scene.now in
    let r = c.args.renderer.now in
    let frames = c.step-frames.result in
    let q = c.make_ready.new.renderer in
    let asked : q ≡ ready_for r frames q.tapes = c.make_ready.ensures.ready ∙ ap (λ (x : RendererData). record x { tapes = q.tapes; ready = true }) c.step-frames.ensures.next in
    let later : AreLater r.tapes q.tapes = subst (λ (ts : List Tape). AreLater ts q.tapes) (ap (λ (x : RendererData). x.tapes) c.step-frames.ensures.next) c.make_ready.ensures.tapes in
    let samples = block_heard r q s frames c.block.new.out asked (laters_files r.tapes q.tapes later) c.requires.scene c.block.ensures.samples in
    rw samples (samples_24 (clips_of s (files_of r.tapes)) s r.clock frames)

pub returns-clause-bytes : goal.returns-clause-bytes
returns-clause-bytes g c =
    let s = c.args.scene.now in
    let r = c.args.renderer.now in
    let frames = c.step-frames.result in
    let q = c.make_ready.new.renderer in
    let asked : q ≡ ready_for r frames q.tapes = c.make_ready.ensures.ready ∙ ap (λ (x : RendererData). record x { tapes = q.tapes; ready = true }) c.step-frames.ensures.next in
    let later : AreLater r.tapes q.tapes = subst (λ (ts : List Tape). AreLater ts q.tapes) (ap (λ (x : RendererData). x.tapes) c.step-frames.ensures.next) c.make_ready.ensures.tapes in
    let samples = block_heard r q s frames c.block.new.out asked (laters_files r.tapes q.tapes later) c.requires.scene c.block.ensures.samples in
    let clock = block_clock r q c.block.new.self frames asked c.block.ensures.next in
    let written : c.pack.new.out.items ≡ c.clear.new.self.items ++ packed c.scene.inside.width c.block.new.out = c.in_ok-pack.ensures.ok in
    let bytes = written
    ∙ ap (λ (xs : List ℕ). xs ++ packed c.scene.inside.width c.block.new.out) c.clear.ensures.items
    ∙ ap (λ (q : SceneData). packed q.width c.block.new.out) c.scene.view_is
    ∙ ap (packed s.width) samples in
    data-join (clips_of s (files_of r.tapes)) s r.clock frames c.block.new.self.clock clock
    ∙ ap (λ (xs : List ℕ). data_of s (frames_before s (files_of r.tapes) r.clock) ++ xs) (sym bytes)

pub returns-clause-summary : goal.returns-clause-summary
returns-clause-summary g c = λ is.
    let s = c.args.scene.now in
    let r = c.args.renderer.now in
    let frames = c.step-frames.result in
    let q = c.make_ready.new.renderer in
    let asked : q ≡ ready_for r frames q.tapes = c.make_ready.ensures.ready ∙ ap (λ (x : RendererData). record x { tapes = q.tapes; ready = true }) c.step-frames.ensures.next in
    let later : AreLater r.tapes q.tapes = subst (λ (ts : List Tape). AreLater ts q.tapes) (ap (λ (x : RendererData). x.tapes) c.step-frames.ensures.next) c.make_ready.ensures.tapes in
    let samples = block_heard r q s frames c.block.new.out asked (laters_files r.tapes q.tapes later) c.requires.scene c.block.ensures.samples in
    let clock = block_clock r q c.block.new.self frames asked c.block.ensures.next in
    let written : c.pack.new.out.items ≡ c.clear.new.self.items ++ packed c.scene.inside.width c.block.new.out = c.in_ok-pack.ensures.ok in
    let bytes = c.as_slice.ensures.value ∙ written
    ∙ ap (λ (xs : List ℕ). xs ++ packed c.scene.inside.width c.block.new.out) c.clear.ensures.items
    ∙ ap (λ (q : SceneData). packed q.width c.block.new.out) c.scene.view_is
    ∙ ap (packed s.width) samples in
    summary_more s (files_of r.tapes) r.clock frames c.block.new.self.clock c.args.summary c.extended.result c.block.new.out c.as_slice.result.now clock samples bytes c.extended.ensures is

pub returns-clause-next : goal.returns-clause-next
returns-clause-next g c =
    let r = c.args.renderer.now in
    let frames = c.step-frames.result in
    let q = c.make_ready.new.renderer in
    let asked : q ≡ ready_for r frames q.tapes = c.make_ready.ensures.ready ∙ ap (λ (x : RendererData). record x { tapes = q.tapes; ready = true }) c.step-frames.ensures.next in
    block_next r q c.block.new.self frames c.requires.fresh asked c.block.ensures.next

pub returns-clause-tapes : goal.returns-clause-tapes
returns-clause-tapes g c =
    let r = c.args.renderer.now in
    let frames = c.step-frames.result in
    let q = c.make_ready.new.renderer in
    let asked : q ≡ ready_for r frames q.tapes = c.make_ready.ensures.ready ∙ ap (λ (x : RendererData). record x { tapes = q.tapes; ready = true }) c.step-frames.ensures.next in
    let later : AreLater r.tapes q.tapes = subst (λ (ts : List Tape). AreLater ts q.tapes) (ap (λ (x : RendererData). x.tapes) c.step-frames.ensures.next) c.make_ready.ensures.tapes in
    subst (λ (ts : List Tape). AreLater r.tapes ts) (sym (block_tapes r q c.block.new.self frames asked c.block.ensures.next)) later
