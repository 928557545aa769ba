-- One block more.
use Rattle.std.proofs.Common.{◌≡◌, ◌∙◌, ◌*◌, ◌++◌, ℕ, ℤ, List, length, ap, ap₂, sym, subst, arith}
use Rattle.std.proofs.lemmas.List.{with_items_is}
use Rattle.clip_decode.specs.Frames.{interleaved}
use Rattle.fx_nodes.specs.Stages.{StandsFor, effects_in}
use Rattle.mix_model.specs.Summary.{summary}
use Rattle.wave_write.specs.Samples.{packed}
use Rattle.fx_render.specs.Effected.{effected, effected_summary, stereo_frames}
use Rattle.fx_render.proofs.Effected.{block-joined, bytes-joined, frames-joined, summary-joined}
use Rattle.fx_render.proofs.blocks.Blocks.next.Goals as goal

pub block-requires-clause-even : goal.block-requires-clause-even
block-requires-clause-even c =
    let many : length c.as_mut_slice.result.now ≡ 2 * c.args.count = omega (arith, ap length c.as_mut_slice.ensures.value, c.in_ok-read.ensures.count, ap length c.clear.ensures.items) in
    omega (arith, many)

pub block-requires-clause-clock : goal.block-requires-clause-clock
block-requires-clause-clock c =
    let many : length c.as_mut_slice.result.now ≡ 2 * c.args.count = omega (arith, ap length c.as_mut_slice.ensures.value, c.in_ok-read.ensures.count, ap length c.clear.ensures.items) in
    omega (arith, many, c.requires.rendering.frames, c.requires.clock)

pub returns-clause-rendering : goal.returns-clause-rendering
returns-clause-rendering c =
    let b = c.args.self.now in
    let bytes = b.reader.clip.bytes in
    let effects = effects_in b.chain in
    let t = b.reader.next in
    let later = c.read.new.self.next in
    let heard : c.as_mut_slice.result.now ≡ interleaved (stereo_frames bytes t c.args.count) =
    c.as_mut_slice.ensures.value ∙ c.in_ok-read.ensures.samples ∙ ap (λ (xs : List ℤ). xs ++ interleaved (stereo_frames bytes t c.args.count)) c.clear.ensures.items in
    let many : length c.as_mut_slice.result.now ≡ 2 * c.args.count = omega (arith, ap length c.as_mut_slice.ensures.value, c.in_ok-read.ensures.count, ap length c.clear.ensures.items) in
    let made = c.block.new.frames in
    let long : c.block.new.frames ≡ c.as_slice.result.now = sym (c.as_slice.ensures.value ∙ with_items_is c.read.new.samples made (omega (arith, c.block.auto.frames, c.as_mut_slice.ensures.len))) in
    let again : c.as_slice-2.result.now ≡ made = c.as_slice-2.ensures.value ∙ with_items_is c.read.new.samples made (omega (arith, c.block.auto.frames, c.as_mut_slice.ensures.len)) in
    let written : c.as_slice-3.result.now ≡ packed 24 made =
    c.as_slice-3.ensures.value ∙ c.in_ok-pack.ensures.ok ∙ ap₂ (λ (xs ys : List ℕ). xs ++ ys) c.clear-2.ensures.items (ap (packed 24) (sym long)) in
    let joined : effected bytes effects later ≡ effected bytes effects t ++ made =
    block-joined bytes effects t c.args.count later c.as_mut_slice.result.now made c.in_ok-read.ensures.next heard (c.block.ensures.joined (interleaved (stereo_frames bytes 0 t)) c.requires.rendering.taken) in
    let summed : c.extended-self.result ≡ summary (effected bytes effects t ++ made) (packed 24 (effected bytes effects t) ++ packed 24 made) =
    c.extended-self.ensures (effected bytes effects t) (packed 24 (effected bytes effects t)) c.requires.rendering.summary_is
    ∙ ap₂ (λ (xs : List ℤ) (ys : List ℕ). summary (effected bytes effects t ++ xs) (packed 24 (effected bytes effects t) ++ ys)) again written in
    record {
      reading = c.in_ok-read.ensures.reading;
      taken = subst (λ clip. StandsFor c.block.new.self (interleaved (stereo_frames clip.bytes 0 later))) (sym c.in_ok-read.ensures.clip)
          (subst (StandsFor c.block.new.self) (ap (λ (xs : List ℤ). interleaved (stereo_frames bytes 0 t) ++ xs) heard ∙ frames-joined bytes t c.args.count later c.in_ok-read.ensures.next)
          (c.block.ensures.stands (interleaved (stereo_frames bytes 0 t)) c.requires.rendering.taken));
      frames = omega (arith, c.block.ensures.clock, many, c.requires.rendering.frames, c.in_ok-read.ensures.next);
      summary_is = summary-joined bytes effects t later made c.extended-self.result joined summed
          ∙ ap₂ (λ clip es. effected_summary clip.bytes es later) (sym c.in_ok-read.ensures.clip) (sym c.block.ensures.effects);
    }

pub returns-clause-bytes : goal.returns-clause-bytes
returns-clause-bytes c =
    let b = c.args.self.now in
    let bytes = b.reader.clip.bytes in
    let effects = effects_in b.chain in
    let t = b.reader.next in
    let later = c.read.new.self.next in
    let heard : c.as_mut_slice.result.now ≡ interleaved (stereo_frames bytes t c.args.count) =
    c.as_mut_slice.ensures.value ∙ c.in_ok-read.ensures.samples ∙ ap (λ (xs : List ℤ). xs ++ interleaved (stereo_frames bytes t c.args.count)) c.clear.ensures.items in
    let made = c.block.new.frames in
    let long : made ≡ c.as_slice.result.now = sym (c.as_slice.ensures.value ∙ with_items_is c.read.new.samples made (omega (arith, c.block.auto.frames, c.as_mut_slice.ensures.len))) in
    let written : c.pack.new.out.items ≡ packed 24 made = c.in_ok-pack.ensures.ok ∙ ap₂ (λ (xs ys : List ℕ). xs ++ ys) c.clear-2.ensures.items (ap (packed 24) (sym long)) in
    let joined : effected bytes effects later ≡ effected bytes effects t ++ made =
    block-joined bytes effects t c.args.count later c.as_mut_slice.result.now made c.in_ok-read.ensures.next heard (c.block.ensures.joined (interleaved (stereo_frames bytes 0 t)) c.requires.rendering.taken) in
    bytes-joined bytes effects t later made joined ∙ ap (λ (ys : List ℕ). packed 24 (effected bytes effects t) ++ ys) (sym written)
