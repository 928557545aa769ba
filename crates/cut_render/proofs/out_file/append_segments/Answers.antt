-- Segment after segment.
use Rattle.std.proofs.Common.{refl, sym, subst, ap, ◌∙◌, ◌≡◌, ◌+◌, ◌++◌, ◌<◌, ℕ, ℤ, List, length, take, get_or, arith}
use Rattle.std.proofs.lemmas.List.Concat.{flat_map-append}
use Rattle.std.proofs.lemmas.Result.{err_from_is_err_and}
use Rattle.snd_io.specs.Runs.{GrowsBy}
use Rattle.snd_io.proofs.RunLemmas.{GrowsBy-nothing, GrowsBy-then}
use Rattle.engine.proofs.Appending.{stays_open, stopped_piece}
use Rattle.wave_write.specs.Samples.{packed_sample, packed}
use Rattle.cut_render.specs.Cut.{cut_samples, piece, summary_of}
use Rattle.cut_render.specs.declared.segment.Segment.{Segment}
use Rattle.cut_render.proofs.Written.{segments-begin, segments-next}
use Rattle.cut_render.proofs.out_file.append_segments.Goals as goal

pub loop-segment-init : goal.loop-segment-init
loop-segment-init g c = record {
  reading = c.requires.reading;
  clip = refl;
  writing = refl;
  grown = λ name is. GrowsBy-nothing name (g.D.Depot.files c.args.depot.now);
  faults = refl;
  summary = c.requires.start;
}

pub loop-segment-preserved : goal.loop-segment-preserved
loop-segment-preserved g c =
    let bytes = c.args.pieces.now.reader.clip.bytes in
    let segments = c.args.segments.now in
    let now = c.loop-segment.invariant in
    let i = c.loop-segment.segment-index in
    let first : Segment = record { place = 0; count = 0 } in
    let s = get_or segments i first in
    let inside : i < length segments = omega (arith, c.loop-segment-test.true) in
    let heard : piece c.loop-segment.pieces.reader.clip.bytes s.place s.count ≡ piece bytes s.place s.count = ap (λ clip. piece clip.bytes s.place s.count) now.clip in
    let next = segments-next bytes segments i first inside in
    let joined : packed 24 (cut_samples bytes (take (i + 1) segments)) ≡ packed 24 (cut_samples bytes (take i segments)) ++ packed 24 (piece c.loop-segment.pieces.reader.clip.bytes s.place s.count) =
    ap (packed 24) next ∙ flat_map-append (packed_sample 24) (cut_samples bytes (take i segments)) (piece bytes s.place s.count)
    ∙ ap (λ (xs : List ℤ). packed 24 (cut_samples bytes (take i segments)) ++ packed 24 xs) (sym heard) in
    record {
      reading = c.in_ok-append_segment.ensures.reading;
      clip = c.in_ok-append_segment.ensures.clip ∙ now.clip;
      writing = stays_open _ _ c.requires.writing (λ name is. (c.in_ok-append_segment.ensures.after name (now.writing ∙ is)).1);
      grown = λ name is. subst (λ (xs : List ℕ). GrowsBy name xs (g.D.Depot.files c.args.depot.now) (g.D.Depot.files c.append_segment.new.depot)) (sym joined)
          (GrowsBy-then name (packed 24 (cut_samples bytes (take i segments))) (packed 24 (piece c.loop-segment.pieces.reader.clip.bytes s.place s.count)) _ _ _ (now.grown name is) (c.in_ok-append_segment.ensures.after name (now.writing ∙ is)).0);
      faults = c.in_ok-append_segment.ensures.cause.stays refl ∙ now.faults;
      summary = c.in_ok-append_segment.ensures.summary (cut_samples bytes (take i segments)) now.summary
          ∙ ap (λ (xs : List ℤ). summary_of (cut_samples bytes (take i segments) ++ xs)) heard ∙ ap summary_of (sym next);
    }

pub returns-in_err-append_segment-clause-after : goal.returns-in_err-append_segment-clause-after
returns-in_err-append_segment-clause-after g c = λ name is.
    let bytes = c.args.pieces.now.reader.clip.bytes in
    let segments = c.args.segments.now in
    let now = c.loop-segment.invariant in
    let i = c.loop-segment.segment-index in
    let first : Segment = record { place = 0; count = 0 } in
    let s = get_or segments i first in
    let inside : i < length segments = omega (arith, c.loop-segment-test.true) in
    let heard : piece c.loop-segment.pieces.reader.clip.bytes s.place s.count ≡ piece bytes s.place s.count = ap (λ clip. piece clip.bytes s.place s.count) now.clip in
    let joined : packed 24 (cut_samples bytes (take (i + 1) segments)) ≡ packed 24 (cut_samples bytes (take i segments)) ++ packed 24 (piece c.loop-segment.pieces.reader.clip.bytes s.place s.count) =
    ap (packed 24) (segments-next bytes segments i first inside) ∙ flat_map-append (packed_sample 24) (cut_samples bytes (take i segments)) (piece bytes s.place s.count)
    ∙ ap (λ (xs : List ℤ). packed 24 (cut_samples bytes (take i segments)) ++ packed 24 xs) (sym heard) in
    let p = err_from_is_err_and c.from_residual.result c.from_residual.ensures.1 in
    rw (p.1, p.2) (stopped_piece c.in_err-append_segment.field-0.0 name (packed 24 (cut_samples bytes (take i segments))) (packed 24 (piece c.loop-segment.pieces.reader.clip.bytes s.place s.count))
    (packed 24 (cut_samples bytes (take (i + 1) segments))) (packed 24 (cut_samples bytes segments)) _ _ _ _ joined (segments-begin bytes segments (i + 1)) (now.grown name is) (c.in_err-append_segment.ensures.after name (now.writing ∙ is)))
