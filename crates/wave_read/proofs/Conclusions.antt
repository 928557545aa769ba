-- A wave that a file gives is lawful.
use Rattle.std.proofs.Common.{◌≡◌, ℕ, ◌+◌, Bool, true, false, cond, leb, List, length, refl, sym, subst, arith}
use Rattle.std.specs.Prelude.{Option, Some, None, Result, Ok, Err, IfOk}
use Rattle.std.specs.List.{find}
use Rattle.std.specs.Result.{result_unwrap_or}
use Rattle.wave_read.specs.Chunks.{Chunk, ChunksFrom, chunk_list, end_of, first_chunk, header_len}
use Rattle.wave_read.specs.Format.{format_of}
use Rattle.wave_read.specs.StepIndices.{step_fault}
use Rattle.wave_read.specs.Wave.{opening, chunks_of, is_fmt, is_data, span_of, format_in, span_in, count_in, wave_from, unless_fault, kind_checked, checked, conclude, told_by, wave_of, wave}
use Rattle.wave_read.specs.Laws.{IsWaveIn, IsWaveOf}
use Rattle.wave_read.specs.declared.format.Format.{Format}
use Rattle.wave_read.specs.declared.found.Span.{Span}
use Rattle.wave_read.specs.declared.kind.Kind.{Kind}
use Rattle.wave_read.specs.declared.kind.Kind.TheVariants.{Pcm, Alaw, Ulaw, Ima}
use Rattle.wave_read.specs.declared.wave.Wave.{Wave}
use Rattle.wave_read.specs.declared.wave_fault.WaveFault.{WaveFault}
use Rattle.wave_read.proofs.ChunkLists.{list_there, spans_inside}
use Rattle.wave_read.proofs.Finds.{mapped}
use Rattle.wave_read.proofs.Formats.{bound, format_lawful}
use Rattle.wave_read.proofs.Steps.{steps_fine}
use Rattle.wave_read.proofs.Waves.{wave_lies}

-- what stood behind a wave
record Grounds (bytes : List ℕ) (read : Option (Result Format WaveFault)) (span : Option Span) (count : Option ℕ) (w : Wave) : Type 0 where
  f : Format
  s : Span
  read_is : read ≡ Some (Ok f)
  span_is : span ≡ Some s
  checked_is : checked bytes (wave_from f s count) ≡ Ok w

concluded : (bytes : List ℕ) (end : ℕ) (read : Option (Result Format WaveFault)) (span : Option Span) (count : Option ℕ) (w : Wave)
    → conclude bytes end read span count ≡ Ok w → Grounds bytes read span count w
concluded bytes end (Some (Err fault)) span count w e = absurd (cc)
concluded bytes end (Some (Ok f)) (Some s) count w e = record { f = f; s = s; read_is = refl; span_is = refl; checked_is = e }
concluded bytes end (Some (Ok f)) None count w e = absurd (no_wave (leb (end + header_len) (length bytes)) _ _ w e)
  where
    no_wave : (b : Bool) (x y : WaveFault) (w : Wave) → cond b (Err x) (Err y) ≡ Ok w → ⊥
    no_wave true x y w h = cc
    no_wave false x y w h = cc
concluded bytes end None span count w e = absurd (no_wave (leb (end + header_len) (length bytes)) _ _ w e)
  where
    no_wave : (b : Bool) (x y : WaveFault) (w : Wave) → cond b (Err x) (Err y) ≡ Ok w → ⊥
    no_wave true x y w h = cc
    no_wave false x y w h = cc

unless_none : (o : Option WaveFault) (v w : Wave) → unless_fault o v ≡ Ok w → (v ≡ w) × (o ≡ None)
unless_none None v w e = (cc, refl)
unless_none (Some fault) v w e = absurd (cc)

-- a wave that was checked is the same, and an IMA one has no step index that is too large
was_checked : (kind : Kind) (bytes : List ℕ) (v w : Wave) → kind_checked kind bytes v ≡ Ok w → (v ≡ w) × (kind ≡ Ima → step_fault bytes v ≡ None)
was_checked Pcm bytes v w e = (cc, λ h. absurd (cc))
was_checked Alaw bytes v w e = (cc, λ h. absurd (cc))
was_checked Ulaw bytes v w e = (cc, λ h. absurd (cc))
was_checked Ima bytes v w e = let p = unless_none (step_fault bytes v) v w e in (p.0, λ h. p.1)

pub wave_lawful : (bytes : List ℕ) (w : Wave) → wave bytes ≡ Ok w → IsWaveOf bytes w
unfolding wave wave_of told_by
wave_lawful bytes w e =
    let size = result_unwrap_or (opening bytes) None in
    let chunks = chunks_of bytes in
    let told = bound (opening bytes) (λ _. told_by bytes chunks) w e in
    let g = concluded bytes (end_of first_chunk chunks) (format_in chunks) (span_in chunks) (count_in chunks) w told.2 in
    let fmt = mapped (λ c. format_of c.body) (find is_fmt chunks) (Ok g.f) g.read_is in
    let span = mapped span_of (find is_data chunks) g.s g.span_is in
    let there = list_there size bytes (length bytes) first_chunk (omega arith) in
    let inside = spans_inside size bytes is_data chunks first_chunk span.0 there span.1 in
    let v : Wave = wave_from g.f g.s (count_in chunks) in
    let lies : IsWaveIn bytes v = wave_lies bytes g.f g.s (count_in chunks) (format_lawful fmt.0.body g.f fmt.2) (rw (← span.2) inside) in
    let done = was_checked g.f.kind bytes v w g.checked_is in
    let P : Wave → Type 0 = λ u. IsWaveOf bytes u in
    subst P done.0 (record { lies = lies; steps = λ is_ima. steps_fine bytes v (done.1 is_ima) })

pub if_wave_lawful : (bytes : List ℕ) (r : Result Wave WaveFault) → r ≡ wave bytes → IfOk r (λ w. IsWaveOf bytes w)
if_wave_lawful bytes (Ok w) e = wave_lawful bytes w (sym e)
if_wave_lawful bytes (Err fault) e = tt

pub not_opened : (bytes : List ℕ) (fault : WaveFault) → opening bytes ≡ Err fault → wave bytes ≡ Err fault
unfolding wave wave_of
not_opened bytes fault e = rw e refl

pub opened : (bytes : List ℕ) (size : Option ℕ) (r : Result Wave WaveFault) → opening bytes ≡ Ok size
    → ((chunks : List Chunk) → ChunksFrom size bytes first_chunk chunks → r ≡ told_by bytes chunks) → r ≡ wave bytes
unfolding wave wave_of
opened bytes size r e says = rw e (says (chunk_list (length bytes) size bytes first_chunk)
    (list_there size bytes (length bytes) first_chunk (omega arith)))
