-- Segments that are written one after the other.
use Rattle.std.proofs.Common.{◌≡◌, ◌∙◌, ℕ, suc, ◌+◌, ◌-◌, ◌<◌, ◌≤◌, ℤ, List, [], ◌∷◌, ◌++◌, length, take, drop, get_or, ap, sym, append-nil, append_assoc, arith}
use Rattle.std.proofs.Math.Seq.{take-suc}
use Rattle.std.proofs.lemmas.List.{take-append-drop}
use Rattle.std.proofs.lemmas.List.Concat.{flat_map-append}
use Rattle.snd_io.specs.Answers.{IsPrefix}
use Rattle.wave_write.specs.Samples.{packed_sample, packed}
use Rattle.cut_render.specs.Cut.{cut_samples, piece}
use Rattle.cut_render.specs.declared.segment.Segment.{Segment}
use Rattle.cut_render.proofs.Frames.{piece-join}

pub bytes-join : (bytes : List ℕ) (place count more later : ℕ) → later ≡ count + more
    → packed 24 (piece bytes place later) ≡ packed 24 (piece bytes place count) ++ packed 24 (piece bytes (place + count) more)
bytes-join bytes place count more later e =
    ap (λ n. packed 24 (piece bytes place n)) e ∙ ap (packed 24) (piece-join bytes place count more)
    ∙ flat_map-append (packed_sample 24) (piece bytes place count) (piece bytes (place + count) more)

-- what was written of a segment is a prefix of all
pub bytes-begin : (bytes : List ℕ) (place count whole : ℕ) → count ≤ whole → IsPrefix (packed 24 (piece bytes place count)) (packed 24 (piece bytes place whole))
bytes-begin bytes place count whole within = (packed 24 (piece bytes (place + count) (whole - count)), bytes-join bytes place count (whole - count) whole (omega (arith, within)))

-- samples behind those of a part of a segment
pub samples-join : (bytes : List ℕ) (place count more later : ℕ) (before : List ℤ) → later ≡ count + more
    → (before ++ piece bytes place count) ++ piece bytes (place + count) more ≡ before ++ piece bytes place later
samples-join bytes place count more later before e =
    append_assoc before (piece bytes place count) (piece bytes (place + count) more)
    ∙ ap (λ (xs : List ℤ). before ++ xs) (sym (ap (piece bytes place) e ∙ piece-join bytes place count more))

-- the segments and one more
pub segments-next : (bytes : List ℕ) (segments : List Segment) (i : ℕ) (other : Segment) → i < length segments
    → cut_samples bytes (take (i + 1) segments) ≡ cut_samples bytes (take i segments) ++ piece bytes (get_or segments i other).place (get_or segments i other).count
segments-next bytes segments i other inside =
    let segment = get_or segments i other in
    let on : i + 1 ≡ suc i = omega arith in
    let whole : take (i + 1) segments ≡ take i segments ++ segment ∷ [] = ap (λ n. take n segments) on ∙ take-suc segments i other inside in
    let one : cut_samples bytes (segment ∷ []) ≡ piece bytes segment.place segment.count = append-nil (piece bytes segment.place segment.count) in
    ap (cut_samples bytes) whole
    ∙ flat_map-append (λ (s : Segment). piece bytes s.place s.count) (take i segments) (segment ∷ [])
    ∙ ap (λ (xs : List ℤ). cut_samples bytes (take i segments) ++ xs) one

-- what was written of segments is a prefix of all
pub segments-begin : (bytes : List ℕ) (segments : List Segment) (i : ℕ) → IsPrefix (packed 24 (cut_samples bytes (take i segments))) (packed 24 (cut_samples bytes segments))
segments-begin bytes segments i =
    let f = λ (s : Segment). piece bytes s.place s.count in (
      packed 24 (cut_samples bytes (drop i segments)),
      ap (λ (xs : List Segment). packed 24 (cut_samples bytes xs)) (sym (take-append-drop i segments))
          ∙ ap (packed 24) (flat_map-append f (take i segments) (drop i segments))
          ∙ flat_map-append (packed_sample 24) (cut_samples bytes (take i segments)) (cut_samples bytes (drop i segments)),
    )
