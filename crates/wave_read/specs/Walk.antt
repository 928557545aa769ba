-- How one chunk after the other adds to what was found.
use Rattle.std.specs.Prelude.{ℕ, ◌+◌, ◌≤◌, Bool, true, false, ◌==◌, ◌&&◌, nat_le, List, length, Option, Some, None, Result, Ok, Err, IfSome}
use Rattle.wave_read.specs.Numbers.{u32_at}
use Rattle.wave_read.specs.Chunks.{fmt_id, data_id, fact_id}
use Rattle.wave_read.specs.Format.{format_of, ◌>>=◌}
use Rattle.wave_read.specs.Laws.{IsFormat}
use Rattle.wave_read.specs.declared.format.Format.{Format}
use Rattle.wave_read.specs.declared.found.Found.{Found}
use Rattle.wave_read.specs.declared.wave_fault.WaveFault.{WaveFault}

-- nothing yet
abbrev pub nothing : Found
nothing = record { format = None; span = None; count = None }

-- the first of its kind is kept
abbrev pub kept : {X : Type 0} → Bool → X → Option X → Option X
kept is_new x (Some old) = Some old
kept true x None = Some x
kept false x None = None

abbrev pub format_kept : Bool → Result Format WaveFault → Option Format → Result (Option Format) WaveFault
format_kept is_new read (Some old) = Ok (Some old)
format_kept true (Ok f) None = Ok (Some f)
format_kept true (Err fault) None = Err fault
format_kept false read None = Ok None

-- what is found with a chunk of this id, whose body has these bytes and stands at this place
unfoldable pub met : ℕ → ℕ → List ℕ → Found → Result Found WaveFault
met id from body found = do
  format ← format_kept (id == fmt_id) (format_of body) found.format
  Ok (record {
    format = format;
    span = kept (id == data_id) (record { from = from; len = length body }) found.span;
    count = kept ((id == fact_id) && nat_le 4 (length body)) (u32_at body 0) found.count;
  })

-- what was found is lawful, and lies in the file
pub record IsFound (bytes : List ℕ) (found : Found) : Type 0 where
  pub format : IfSome found.format (λ f. IsFormat f)
  pub span : IfSome found.span (λ s. s.from + s.len ≤ length bytes)
