-- One piece more.
use Rattle.std.proofs.Common.{◌≡◌, ◌∙◌, ◌++◌, ℕ, ℤ, List, ap, ap₂, sym}
use Rattle.std.proofs.lemmas.List.Concat.{flat_map-append}
use Rattle.mix_model.specs.Summary.{summary}
use Rattle.wave_write.specs.Samples.{packed, packed_sample}
use Rattle.cut_render.specs.Cut.{piece}
use Rattle.cut_render.proofs.pieces.Pieces.read.Goals as goal

pub returns-clause-bytes : goal.returns-clause-bytes
returns-clause-bytes c =
    let heard = piece c.args.self.now.reader.clip.bytes c.args.place c.args.count in
    let samples : c.as_slice.result.now ≡ heard = c.as_slice.ensures.value ∙ c.in_ok-read.ensures.samples ∙ ap (λ (xs : List ℤ). xs ++ heard) c.clear.ensures.items in
    c.in_ok-pack.ensures.ok ∙ ap₂ (λ (xs ys : List ℕ). xs ++ ys) c.clear-2.ensures.items (ap (packed 24) samples)

pub returns-clause-summary : goal.returns-clause-summary
returns-clause-summary c = λ before is.
    let heard = piece c.args.self.now.reader.clip.bytes c.args.place c.args.count in
    let plain : c.read.new.samples.items ≡ heard = c.in_ok-read.ensures.samples ∙ ap (λ (xs : List ℤ). xs ++ heard) c.clear.ensures.items in
    let samples : c.as_slice.result.now ≡ heard = c.as_slice.ensures.value ∙ plain in
    let again : c.as_slice-2.result.now ≡ heard = c.as_slice-2.ensures.value ∙ plain in
    let bytes : c.as_slice-3.result.now ≡ packed 24 heard =
    c.as_slice-3.ensures.value ∙ c.in_ok-pack.ensures.ok ∙ ap₂ (λ (xs ys : List ℕ). xs ++ ys) c.clear-2.ensures.items (ap (packed 24) samples) in
    c.extended-self.ensures before (packed 24 before) is
    ∙ ap₂ (λ (xs : List ℤ) (ys : List ℕ). summary (before ++ xs) (packed 24 before ++ ys)) again bytes
    ∙ ap (λ (ys : List ℕ). summary (before ++ heard) ys) (sym (flat_map-append (packed_sample 24) before heard))
