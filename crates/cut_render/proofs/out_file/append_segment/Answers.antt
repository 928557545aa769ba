-- Piece after piece.
use Rattle.std.proofs.Common.{refl, sym, subst, ap, ap₂, ◌∙◌, ◌≡◌, ◌+◌, ◌++◌, ◌≤◌, ℕ, ℤ, List, [], append-nil, arith}
use Rattle.std.proofs.lemmas.Result.{err_from_is_err_and}
use Rattle.snd_io.specs.Runs.{GrowsBy}
use Rattle.snd_io.proofs.RunLemmas.{GrowsBy-nothing, GrowsBy-then}
use Rattle.engine.proofs.Appending.{ended, stays_open, stopped_piece}
use Rattle.wave_write.specs.Samples.{packed}
use Rattle.cut_render.specs.Cut.{piece, summary_of}
use Rattle.cut_render.proofs.Frames.{no-frames}
use Rattle.cut_render.proofs.Written.{bytes-begin, bytes-join, samples-join}
use Rattle.cut_render.proofs.out_file.append_segment.Goals as goal

pub loop-written-init : goal.loop-written-init
loop-written-init g c =
    let bytes = c.args.pieces.now.reader.clip.bytes in
    let empty : piece bytes c.args.segment.place 0 ≡ [] = no-frames bytes c.args.segment.place in
    record {
      reading = c.requires.reading;
      clip = refl;
      within = omega arith;
      writing = refl;
      grown = λ name is. subst (λ (xs : List ℤ). GrowsBy name (packed 24 xs) (g.D.Depot.files c.args.depot.now) (g.D.Depot.files c.args.depot.now)) (sym empty) (GrowsBy-nothing name (g.D.Depot.files c.args.depot.now));
      faults = refl;
      summary = λ before is. is ∙ ap summary_of (sym (ap (λ (xs : List ℤ). before ++ xs) empty ∙ append-nil before));
    }

pub loop-written-preserved : goal.loop-written-preserved
loop-written-preserved g c =
    let bytes = c.args.pieces.now.reader.clip.bytes in
    let place = c.args.segment.place in
    let now = c.loop-written.invariant in
    let did = c.in-Ok.ensures in
    let t = c.loop-written.written in
    let count = c.min-count.result in
    let heard : piece c.loop-written.pieces.reader.clip.bytes (place + c.from.result) count ≡ piece bytes (place + t) count =
    ap₂ (λ clip k. piece clip.bytes (place + k) count) now.clip c.from.ensures in
    let more : c.as_slice.result.now ≡ packed 24 (piece bytes (place + t) count) = c.as_slice.ensures.value ∙ did.bytes ∙ ap (packed 24) heard in
    let joined : packed 24 (piece bytes place (t + count)) ≡ packed 24 (piece bytes place t) ++ c.as_slice.result.now =
    bytes-join bytes place t count (t + count) refl ∙ ap (λ (xs : List ℕ). packed 24 (piece bytes place t) ++ xs) (sym more) in
    record {
      reading = did.reading;
      clip = c.read.ensures.clip ∙ now.clip;
      within = omega (arith, c.min-count.ensures, now.within);
      writing = stays_open _ _ c.requires.writing (λ name is. (c.in_ok-append.ensures.after name (now.writing ∙ is)).1);
      grown = λ name is. subst (λ (xs : List ℕ). GrowsBy name xs (g.D.Depot.files c.args.depot.now) (g.D.Depot.files c.append.new.depot)) (sym joined)
          (GrowsBy-then name (packed 24 (piece bytes place t)) c.as_slice.result.now _ _ _ (now.grown name is) (c.in_ok-append.ensures.after name (now.writing ∙ is)).0);
      faults = c.in_ok-append.ensures.cause.stays refl ∙ now.faults;
      summary = λ before is. did.summary (before ++ piece bytes place t) (now.summary before is)
          ∙ ap (λ (xs : List ℤ). summary_of ((before ++ piece bytes place t) ++ xs)) heard ∙ ap summary_of (samples-join bytes place t count (t + count) before refl);
    }

pub returns-in-Err-clause-after : goal.returns-in-Err-clause-after
returns-in-Err-clause-after g c = λ name is.
    let bytes = c.args.pieces.now.reader.clip.bytes in
    let place = c.args.segment.place in
    let now = c.loop-written.invariant in
    let t = c.loop-written.written in
    ended c.without_memory.result name (packed 24 (piece bytes place t)) (packed 24 (piece bytes place c.args.segment.count)) _ _ _ _
    (bytes-begin bytes place t c.args.segment.count now.within) (now.grown name is) c.without_memory.ensures.files c.without_memory.ensures.closed

pub returns-in_err-append-clause-after : goal.returns-in_err-append-clause-after
returns-in_err-append-clause-after g c = λ name is.
    let bytes = c.args.pieces.now.reader.clip.bytes in
    let place = c.args.segment.place in
    let now = c.loop-written.invariant in
    let did = c.in-Ok.ensures in
    let t = c.loop-written.written in
    let count = c.min-count.result in
    let heard : piece c.loop-written.pieces.reader.clip.bytes (place + c.from.result) count ≡ piece bytes (place + t) count =
    ap₂ (λ clip k. piece clip.bytes (place + k) count) now.clip c.from.ensures in
    let more : c.as_slice.result.now ≡ packed 24 (piece bytes (place + t) count) = c.as_slice.ensures.value ∙ did.bytes ∙ ap (packed 24) heard in
    let joined : packed 24 (piece bytes place (t + count)) ≡ packed 24 (piece bytes place t) ++ c.as_slice.result.now =
    bytes-join bytes place t count (t + count) refl ∙ ap (λ (xs : List ℕ). packed 24 (piece bytes place t) ++ xs) (sym more) in
    let within : t + count ≤ c.args.segment.count = omega (arith, c.min-count.ensures, now.within) in
    let p = err_from_is_err_and c.from_residual.result c.from_residual.ensures.1 in
    rw (p.1, p.2) (stopped_piece c.in_err-append.field-0.0 name (packed 24 (piece bytes place t)) c.as_slice.result.now (packed 24 (piece bytes place (t + count)))
    (packed 24 (piece bytes place c.args.segment.count)) _ _ _ _ joined (bytes-begin bytes place (t + count) c.args.segment.count within) (now.grown name is) (c.in_err-append.ensures.after name (now.writing ∙ is)))
