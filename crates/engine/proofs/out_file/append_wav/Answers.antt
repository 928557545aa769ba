use Rattle.std.proofs.Common.{sym, subst, ◌++◌, List, ℕ}
use Rattle.std.proofs.lemmas.Result.{err_from_is_err_and}
use Rattle.snd_io.specs.declared.answers.Put.TheVariants.{Done}
use Rattle.snd_io.specs.Runs.{GrowsBy, RunOfAppends}
use Rattle.snd_io.proofs.RunLemmas.{GrowsBy-then, run-then}
use Rattle.wave_write.specs.Header.{header, data_bytes}
use Rattle.mix_model.specs.Mix.{clips_of, frames_from}
use Rattle.mix_model.specs.Output.{padding}
use Rattle.mix_model.specs.Rendering.{data_of}
use Rattle.mix_model.proofs.Written.{wav_is}
use Rattle.resource_mgr.specs.Tapes.{files_of}
use Rattle.engine.specs.RunAnswers.{fault_answer}
use Rattle.engine.proofs.Appending.{stopped}
use Rattle.engine.proofs.out_file.append_wav.Goals as goal

pub returns-in_err-append-clause-after : goal.returns-in_err-append-clause-after
returns-in_err-append-clause-after g c = λ name is.
    let s = c.args.scene.now in
    let clips = clips_of s (files_of c.args.renderer.now.tapes) in
    let start = header s.channels s.rate s.width s.length in
    let frames = data_of s (frames_from clips s 0 s.length) in
    let end = padding (data_bytes s.channels s.width s.length) in
    let before = g.D.Depot.files c.args.depot.now in
    let after = g.D.Depot.files c.append.new.depot in
    let left = g.D.Depot.writing c.append.new.depot in
    let fault = c.in_err-append.field-0.0 in
    let p = err_from_is_err_and c.from_residual.result c.from_residual.ensures.1 in
    let first = subst (λ (bytes : List ℕ). RunOfAppends (fault_answer fault) name bytes before after left) c.scene_header.ensures (c.in_err-append.ensures.after name is) in
    rw (p.1, p.2) (subst (λ (bytes : List ℕ). RunOfAppends (fault_answer fault) name bytes before after left) (sym (wav_is s clips))
    (stopped fault name (start ++ frames) end before after left (stopped fault name start frames before after left first)))

pub returns-in_err-summary-clause-after : goal.returns-in_err-summary-clause-after
returns-in_err-summary-clause-after g c = λ name is.
    let s = c.args.scene.now in
    let clips = clips_of s (files_of c.args.renderer.now.tapes) in
    let start = header s.channels s.rate s.width s.length in
    let frames = data_of s (frames_from clips s 0 s.length) in
    let end = padding (data_bytes s.channels s.width s.length) in
    let before = g.D.Depot.files c.args.depot.now in
    let middle = g.D.Depot.files c.append.new.depot in
    let after = g.D.Depot.files c.append_blocks.new.depot in
    let left = g.D.Depot.writing c.append_blocks.new.depot in
    let fault = c.in_err-summary.field-0.0 in
    let p = err_from_is_err_and c.from_residual-in_err-summary.result c.from_residual-in_err-summary.ensures.1 in
    let first = c.in_ok-append.ensures.after name is in
    let grown = subst (λ (bytes : List ℕ). GrowsBy name bytes before middle) c.scene_header.ensures first.0 in
    rw (p.1, p.2) (subst (λ (bytes : List ℕ). RunOfAppends (fault_answer fault) name bytes before after left) (sym (wav_is s clips))
    (stopped fault name (start ++ frames) end before after left (run-then (fault_answer fault) name start frames before middle after left grown (c.in_err-summary.ensures.after name first.1))))

pub returns-in_err-append_padding-clause-after : goal.returns-in_err-append_padding-clause-after
returns-in_err-append_padding-clause-after g c = λ name is.
    let s = c.args.scene.now in
    let clips = clips_of s (files_of c.args.renderer.now.tapes) in
    let start = header s.channels s.rate s.width s.length in
    let frames = data_of s (frames_from clips s 0 s.length) in
    let end = padding (data_bytes s.channels s.width s.length) in
    let before = g.D.Depot.files c.args.depot.now in
    let middle = g.D.Depot.files c.append.new.depot in
    let later = g.D.Depot.files c.append_blocks.new.depot in
    let after = g.D.Depot.files c.append_padding.new.depot in
    let left = g.D.Depot.writing c.append_padding.new.depot in
    let fault = c.in_err-append_padding.field-0.0 in
    let p = err_from_is_err_and c.from_residual-in_err-append_padding.result c.from_residual-in_err-append_padding.ensures.1 in
    let first = c.in_ok-append.ensures.after name is in
    let grown = subst (λ (bytes : List ℕ). GrowsBy name bytes before middle) c.scene_header.ensures first.0 in
    let second = c.in_ok-summary.ensures.after name first.1 in
    rw (p.1, p.2) (subst (λ (bytes : List ℕ). RunOfAppends (fault_answer fault) name bytes before after left) (sym (wav_is s clips))
    (run-then (fault_answer fault) name (start ++ frames) end before later after left (GrowsBy-then name start frames before middle later grown second.0) (c.in_err-append_padding.ensures.after name second.1)))

pub returns-clause-after : goal.returns-clause-after
returns-clause-after g c = λ name is.
    let s = c.args.scene.now in
    let clips = clips_of s (files_of c.args.renderer.now.tapes) in
    let start = header s.channels s.rate s.width s.length in
    let frames = data_of s (frames_from clips s 0 s.length) in
    let end = padding (data_bytes s.channels s.width s.length) in
    let before = g.D.Depot.files c.args.depot.now in
    let middle = g.D.Depot.files c.append.new.depot in
    let later = g.D.Depot.files c.append_blocks.new.depot in
    let after = g.D.Depot.files c.append_padding.new.depot in
    let left = g.D.Depot.writing c.append_padding.new.depot in
    let first = c.in_ok-append.ensures.after name is in
    let grown = subst (λ (bytes : List ℕ). GrowsBy name bytes before middle) c.scene_header.ensures first.0 in
    let second = c.in_ok-summary.ensures.after name first.1 in
    subst (λ (bytes : List ℕ). RunOfAppends Done name bytes before after left) (sym (wav_is s clips))
    (run-then Done name (start ++ frames) end before later after left (GrowsBy-then name start frames before middle later grown second.0) (c.in_ok-append_padding.ensures.after name second.1))
