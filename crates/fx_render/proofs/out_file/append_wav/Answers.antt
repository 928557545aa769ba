-- The header, and then the frames.
use Rattle.std.proofs.Common.{◌≡◌, ◌∙◌, ◌++◌, ℕ, List, ap, sym, subst}
use Rattle.std.proofs.lemmas.Result.{err_from_is_err_and}
use Rattle.engine.specs.RunAnswers.{answer_of, fault_answer}
use Rattle.engine.proofs.Appending.{stopped}
use Rattle.fx_nodes.specs.Stages.{effects_in}
use Rattle.scene_clips.specs.ClipFrames.{file_rate, rate_said}
use Rattle.snd_io.specs.Runs.{RunOfAppends}
use Rattle.snd_io.proofs.RunLemmas.{run-then}
use Rattle.wave_write.specs.Header.{header}
use Rattle.wave_write.specs.Samples.{packed}
use Rattle.fx_render.specs.Effected.{effected}
use Rattle.fx_render.proofs.out_file.append_wav.Goals as goal

pub returns-in_err-append-clause-after : goal.returns-in_err-append-clause-after
returns-in_err-append-clause-after g c = λ name is.
    let b = c.args.blocks.now in
    let sound = packed 24 (effected b.reader.clip.bytes (effects_in b.chain) c.args.count) in
    let rate : c.wave.result.now.rate ≡ file_rate b.reader.clip.bytes = ap (λ w. w.rate) c.wave.ensures.value ∙ ap rate_said (sym c.wave.ensures.surveyed) in
    let start : c.header.result ≡ header 2 (file_rate b.reader.clip.bytes) 24 c.args.count = c.header.ensures ∙ ap (λ r. header 2 r 24 c.args.count) rate in
    let fault = c.in_err-append.field-0.0 in
    let p = err_from_is_err_and c.from_residual.result c.from_residual.ensures.1 in
    rw (p.1, p.2) (subst (λ (first : List ℕ). RunOfAppends (fault_answer fault) name (first ++ sound) (g.D.Depot.files c.args.depot.now) (g.D.Depot.files c.append.new.depot) (g.D.Depot.writing c.append.new.depot)) start
    (stopped fault name c.header.result sound _ _ _ (c.in_err-append.ensures.after name is)))

pub returns-clause-after : goal.returns-clause-after
returns-clause-after g c = λ name is.
    let b = c.args.blocks.now in
    let sound = packed 24 (effected b.reader.clip.bytes (effects_in b.chain) c.args.count) in
    let rate : c.wave.result.now.rate ≡ file_rate b.reader.clip.bytes = ap (λ w. w.rate) c.wave.ensures.value ∙ ap rate_said (sym c.wave.ensures.surveyed) in
    let start : c.header.result ≡ header 2 (file_rate b.reader.clip.bytes) 24 c.args.count = c.header.ensures ∙ ap (λ r. header 2 r 24 c.args.count) rate in
    let first = c.in_ok-append.ensures.after name is in
    subst (λ (first : List ℕ). RunOfAppends (answer_of c.append_blocks.result) name (first ++ sound) (g.D.Depot.files c.args.depot.now) (g.D.Depot.files c.append_blocks.new.depot) (g.D.Depot.writing c.append_blocks.new.depot)) start
    (run-then (answer_of c.append_blocks.result) name c.header.result sound _ _ _ _ first.0 (c.append_blocks.ensures.after name first.1))
