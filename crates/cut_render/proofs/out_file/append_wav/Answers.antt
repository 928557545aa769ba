-- The header, then the segments, and then the pad byte.
use Rattle.std.proofs.Common.{◌≡◌, ◌∙◌, ◌++◌, ℕ, List, ap, ap₂, sym, subst, Ok}
use Rattle.std.proofs.lemmas.Result.{err_from_is_err_and}
use Rattle.engine.specs.RunAnswers.{answer_of, fault_answer}
use Rattle.engine.proofs.Appending.{stopped}
use Rattle.mix_model.specs.Output.{padding}
use Rattle.scene_clips.specs.ClipFrames.{file_rate, rate_said}
use Rattle.snd_io.specs.Runs.{RunOfAppends}
use Rattle.snd_io.proofs.RunLemmas.{GrowsBy-then, run-then}
use Rattle.wave_write.specs.Header.{data_bytes, header}
use Rattle.wave_write.specs.Samples.{packed}
use Rattle.cut_render.specs.Cut.{cut_channels, cut_samples, cut_wav}
use Rattle.cut_render.specs.Segments.{total_frames}
use Rattle.cut_render.proofs.Frames.{channels_are}
use Rattle.cut_render.proofs.Sizes.{on_ok, wav-size}
use Rattle.cut_render.proofs.out_file.append_wav.Goals as goal

pub returns-in_err-append-clause-after : goal.returns-in_err-append-clause-after
unfolding cut_wav
returns-in_err-append-clause-after g c = λ name is.
    let bytes = c.args.pieces.now.reader.clip.bytes in
    let segments = c.args.segments.now in
    let sound = packed 24 (cut_samples bytes segments) in
    let end = padding (data_bytes (cut_channels bytes) 24 (total_frames segments)) in
    let channels : c.channels_of-channels.result ≡ cut_channels bytes =
    c.channels_of-channels.ensures.channels ∙ sym (channels_are bytes c.wave-wave.result.now (c.wave-wave.ensures.surveyed ∙ ap Ok (sym c.wave-wave.ensures.value))) in
    let rate : c.wave-wave.result.now.rate ≡ file_rate bytes = ap (λ w. w.rate) c.wave-wave.ensures.value ∙ ap rate_said (sym c.wave-wave.ensures.surveyed) in
    let start : c.header.result ≡ header (cut_channels bytes) (file_rate bytes) 24 (total_frames segments) =
    c.header.ensures ∙ ap₂ (λ n r. header n r 24 c.total_frames-count.result) channels rate ∙ ap (header (cut_channels bytes) (file_rate bytes) 24) c.total_frames-count.ensures in
    let fault = c.in_err-append.field-0.0 in
    let p = err_from_is_err_and c.from_residual.result c.from_residual.ensures.1 in
    rw (p.1, p.2) (subst (λ (first : List ℕ). RunOfAppends (fault_answer fault) name ((first ++ sound) ++ end) (g.D.Depot.files c.args.depot.now) (g.D.Depot.files c.append.new.depot) (g.D.Depot.writing c.append.new.depot)) start
    (stopped fault name (c.header.result ++ sound) end _ _ _ (stopped fault name c.header.result sound _ _ _ (c.in_err-append.ensures.after name is))))

pub returns-in_err-append_segments-clause-after : goal.returns-in_err-append_segments-clause-after
unfolding cut_wav
returns-in_err-append_segments-clause-after g c = λ name is.
    let bytes = c.args.pieces.now.reader.clip.bytes in
    let segments = c.args.segments.now in
    let sound = packed 24 (cut_samples bytes segments) in
    let end = padding (data_bytes (cut_channels bytes) 24 (total_frames segments)) in
    let channels : c.channels_of-channels.result ≡ cut_channels bytes =
    c.channels_of-channels.ensures.channels ∙ sym (channels_are bytes c.wave-wave.result.now (c.wave-wave.ensures.surveyed ∙ ap Ok (sym c.wave-wave.ensures.value))) in
    let rate : c.wave-wave.result.now.rate ≡ file_rate bytes = ap (λ w. w.rate) c.wave-wave.ensures.value ∙ ap rate_said (sym c.wave-wave.ensures.surveyed) in
    let start : c.header.result ≡ header (cut_channels bytes) (file_rate bytes) 24 (total_frames segments) =
    c.header.ensures ∙ ap₂ (λ n r. header n r 24 c.total_frames-count.result) channels rate ∙ ap (header (cut_channels bytes) (file_rate bytes) 24) c.total_frames-count.ensures in
    let fault = c.in_err-append_segments.field-0.0 in
    let p = err_from_is_err_and c.from_residual-in_err-append_segments.result c.from_residual-in_err-append_segments.ensures.1 in
    let first = c.in_ok-append.ensures.after name is in
    rw (p.1, p.2) (subst (λ (begin : List ℕ). RunOfAppends (fault_answer fault) name ((begin ++ sound) ++ end) (g.D.Depot.files c.args.depot.now) (g.D.Depot.files c.append_segments.new.depot) (g.D.Depot.writing c.append_segments.new.depot)) start
    (stopped fault name (c.header.result ++ sound) end _ _ _ (run-then (fault_answer fault) name c.header.result sound _ _ _ _ first.0 (c.in_err-append_segments.ensures.after name first.1))))

pub returns-clause-after : goal.returns-clause-after
unfolding cut_wav
returns-clause-after g c = λ name is.
    let bytes = c.args.pieces.now.reader.clip.bytes in
    let segments = c.args.segments.now in
    let sound = packed 24 (cut_samples bytes segments) in
    let end = padding (data_bytes (cut_channels bytes) 24 (total_frames segments)) in
    let channels : c.channels_of-channels.result ≡ cut_channels bytes =
    c.channels_of-channels.ensures.channels ∙ sym (channels_are bytes c.wave-wave.result.now (c.wave-wave.ensures.surveyed ∙ ap Ok (sym c.wave-wave.ensures.value))) in
    let rate : c.wave-wave.result.now.rate ≡ file_rate bytes = ap (λ w. w.rate) c.wave-wave.ensures.value ∙ ap rate_said (sym c.wave-wave.ensures.surveyed) in
    let start : c.header.result ≡ header (cut_channels bytes) (file_rate bytes) 24 (total_frames segments) =
    c.header.ensures ∙ ap₂ (λ n r. header n r 24 c.total_frames-count.result) channels rate ∙ ap (header (cut_channels bytes) (file_rate bytes) 24) c.total_frames-count.ensures in
    let first = c.in_ok-append.ensures.after name is in
    let second = c.in_ok-append_segments.ensures.after name first.1 in
    let ending : padding (data_bytes c.channels_of-channels.result 24 c.total_frames-count.result) ≡ end = ap₂ (λ n k. padding (data_bytes n 24 k)) channels c.total_frames-count.ensures in
    let last = subst (λ (bytes : List ℕ). RunOfAppends (answer_of c.append_padding.result) name bytes (g.D.Depot.files c.append_segments.new.depot) (g.D.Depot.files c.append_padding.new.depot) (g.D.Depot.writing c.append_padding.new.depot)) ending
    (c.append_padding.ensures.after name second.1) in
    subst (λ (begin : List ℕ). RunOfAppends (answer_of c.append_padding.result) name ((begin ++ sound) ++ end) (g.D.Depot.files c.args.depot.now) (g.D.Depot.files c.append_padding.new.depot) (g.D.Depot.writing c.append_padding.new.depot)) start
    (run-then (answer_of c.append_padding.result) name (c.header.result ++ sound) end _ _ _ _ (GrowsBy-then name c.header.result sound _ _ _ first.0 second.0) last)

pub returns-clause-size : goal.returns-clause-size
returns-clause-size g c =
    on_ok c.append_padding.result (wav-size c.args.pieces.now.reader.clip.bytes c.args.pieces.now.reader.clip.wave c.args.segments.now c.wave-wave.ensures.surveyed c.wave-wave.ensures.lawful.lies.channels_least)
