-- Block after block.
use Rattle.std.proofs.Common.{refl, sym, subst, ap, ◌∙◌, ◌≡◌, ◌++◌, ◌≤◌, ℕ, List, [], arith}
use Rattle.std.proofs.lemmas.Result.{err_from_is_err_and}
use Rattle.snd_io.specs.Runs.{GrowsBy}
use Rattle.snd_io.proofs.RunLemmas.{GrowsBy-nothing, GrowsBy-then}
use Rattle.engine.proofs.Appending.{ended, stays_open, stopped_piece}
use Rattle.fx_nodes.specs.Stages.{effects_in}
use Rattle.wave_write.specs.Samples.{packed}
use Rattle.fx_render.specs.Effected.{effected}
use Rattle.fx_render.proofs.Effected.{bytes-begin, bytes-more, no-samples}
use Rattle.fx_render.proofs.out_file.append_blocks.Goals as goal

pub loop-blocks-init : goal.loop-blocks-init
loop-blocks-init g c =
    let b = c.args.blocks.now in
    let empty : packed 24 (effected b.reader.clip.bytes (effects_in b.chain) b.reader.next) ≡ [] = ap (packed 24) (no-samples b.reader.clip.bytes (effects_in b.chain) b.reader.next c.requires.start) in
    record {
      rendering = c.requires.rendering;
      clip = refl;
      effects = refl;
      within = omega (arith, c.requires.start);
      writing = refl;
      grown = λ name is. subst (λ (bytes : List ℕ). GrowsBy name bytes (g.D.Depot.files c.args.depot.now) (g.D.Depot.files c.args.depot.now)) (sym empty) (GrowsBy-nothing name (g.D.Depot.files c.args.depot.now));
      faults = refl;
    }

pub loop-blocks-preserved : goal.loop-blocks-preserved
loop-blocks-preserved g c =
    let b = c.args.blocks.now in
    let bytes = b.reader.clip.bytes in
    let effects = effects_in b.chain in
    let now = c.loop-blocks.invariant in
    let did = c.in-Ok.ensures in
    let t = c.loop-blocks.blocks.reader.next in
    let later = c.next.new.self.reader.next in
    let joined : packed 24 (effected bytes effects later) ≡ packed 24 (effected bytes effects t) ++ c.as_slice.result.now =
    bytes-more bytes _ effects _ t later c.next.new.self.bytes.items c.as_slice.result.now (ap (λ clip. clip.bytes) now.clip) now.effects did.bytes c.as_slice.ensures.value in
    record {
      rendering = did.rendering;
      clip = did.clip ∙ now.clip;
      effects = did.effects ∙ now.effects;
      within = omega (arith, did.next, c.min-frames.ensures, now.within);
      writing = stays_open _ _ c.requires.writing (λ name is. (c.in_ok-append.ensures.after name (now.writing ∙ is)).1);
      grown = λ name is. subst (λ (xs : List ℕ). GrowsBy name xs (g.D.Depot.files c.args.depot.now) (g.D.Depot.files c.append.new.depot)) (sym joined)
          (GrowsBy-then name (packed 24 (effected bytes effects t)) c.as_slice.result.now _ _ _ (now.grown name is) (c.in_ok-append.ensures.after name (now.writing ∙ is)).0);
      faults = c.in_ok-append.ensures.cause.stays refl ∙ now.faults;
    }

pub returns-in-Err-clause-after : goal.returns-in-Err-clause-after
returns-in-Err-clause-after g c = λ name is.
    let b = c.args.blocks.now in
    let bytes = b.reader.clip.bytes in
    let effects = effects_in b.chain in
    let now = c.loop-blocks.invariant in
    let t = c.loop-blocks.blocks.reader.next in
    ended c.without_memory.result name (packed 24 (effected bytes effects t)) (packed 24 (effected bytes effects c.args.count)) _ _ _ _
    (bytes-begin bytes effects t c.args.count now.within) (now.grown name is) c.without_memory.ensures.files c.without_memory.ensures.closed

pub returns-in_err-append-clause-after : goal.returns-in_err-append-clause-after
returns-in_err-append-clause-after g c = λ name is.
    let b = c.args.blocks.now in
    let bytes = b.reader.clip.bytes in
    let effects = effects_in b.chain in
    let now = c.loop-blocks.invariant in
    let did = c.in-Ok.ensures in
    let t = c.loop-blocks.blocks.reader.next in
    let later = c.next.new.self.reader.next in
    let joined : packed 24 (effected bytes effects later) ≡ packed 24 (effected bytes effects t) ++ c.as_slice.result.now =
    bytes-more bytes _ effects _ t later c.next.new.self.bytes.items c.as_slice.result.now (ap (λ clip. clip.bytes) now.clip) now.effects did.bytes c.as_slice.ensures.value in
    let within : later ≤ c.args.count = omega (arith, did.next, c.min-frames.ensures, now.within) in
    let p = err_from_is_err_and c.from_residual.result c.from_residual.ensures.1 in
    rw (p.1, p.2) (stopped_piece c.in_err-append.field-0.0 name (packed 24 (effected bytes effects t)) c.as_slice.result.now (packed 24 (effected bytes effects later))
    (packed 24 (effected bytes effects c.args.count)) _ _ _ _ joined (bytes-begin bytes effects later c.args.count within) (now.grown name is) (c.in_err-append.ensures.after name (now.writing ∙ is)))
