-- One step of the walk over the chunks: what the whole list says is what the rest says after what was found.
use Rattle.std.proofs.Common.{◌≡◌, ◌≢◌, ℕ, ◌+◌, ◌-◌, ◌%◌, ◌<◌, ◌≤◌, min, Bool, true, false, cond, ◌⊎◌, inl, inr, List, [], ◌∷◌, length, take, drop, refl, sym, ◌∙◌, arith}
use Rattle.std.specs.Prelude.{Option, Some, None, Result, Ok, Err, MatchResult}
use Rattle.std.specs.List.{find}
use Rattle.std.specs.Option.{option_map, option_or}
use Rattle.std.proofs.lemmas.Bool.{cases_lt, lt-leb}
use Rattle.std.proofs.lemmas.List.{length-take, length-drop}
use Rattle.wave_read.specs.Numbers.{u32_at}
use Rattle.wave_read.specs.Chunks.{Chunk, chunk_at, size_at, body_end, after, ChunksFrom, end_of, first_chunk, header_len, data_id}
use Rattle.wave_read.specs.Format.{format_of, ◌>>=◌}
use Rattle.wave_read.specs.Wave.{is_fmt, is_data, is_fact, span_of, format_in, span_in, count_in, conclude, told_by}
use Rattle.wave_read.specs.Walk.{kept, format_kept, met, nothing}
use Rattle.wave_read.specs.declared.format.Format.{Format}
use Rattle.wave_read.specs.declared.found.Found.{Found}
use Rattle.wave_read.specs.declared.found.Span.{Span}
use Rattle.wave_read.specs.declared.wave.Wave.{Wave}
use Rattle.wave_read.specs.declared.wave_fault.WaveFault.{WaveFault}
use Rattle.wave_read.proofs.ChunkLists.{none_past}

-- what the rest of a list says after what was found, where the whole list ends at `end`
abbrev resumed : List ℕ → ℕ → Found → List Chunk → Result Wave WaveFault
resumed bytes end found rest =
    conclude bytes end (option_or (option_map Ok found.format) (format_in rest)) (option_or found.span (span_in rest))
    (option_or found.count (count_in rest))

-- the walk stands at a place, and what was found and the rest of the list say what is told
pub record Resumes (data_size : Option ℕ) (bytes : List ℕ) (told : Result Wave WaveFault) (place : ℕ) (found : Found) : Type 0 where
  pub rest : List Chunk
  pub chunks : ChunksFrom data_size bytes place rest
  pub says : told ≡ resumed bytes (end_of place rest) found rest

map_cond : {A B : Type 0} (f : A → B) (b : Bool) (x : A) (o : Option A) → option_map f (cond b (Some x) o) ≡ cond b (Some (f x)) (option_map f o)
map_cond f true x o = refl
map_cond f false x o = refl

or_kept : {A : Type 0} (b : Bool) (x : A) (old o : Option A) → option_or old (cond b (Some x) o) ≡ option_or (kept b x old) o
or_kept b x (Some y) o = refl
or_kept true x None o = refl
or_kept false x None o = refl

format_or_kept : (bytes : List ℕ) (end : ℕ) (b : Bool) (read : Result Format WaveFault) (old : Option Format)
    (o : Option (Result Format WaveFault)) (span : Option Span) (count : Option ℕ)
    → conclude bytes end (option_or (option_map Ok old) (cond b (Some read) o)) span count
    ≡ (format_kept b read old >>= λ format. conclude bytes end (option_or (option_map Ok format) o) span count)
format_or_kept bytes end b read (Some f) o span count = refl
format_or_kept bytes end true (Ok f) None o span count = refl
format_or_kept bytes end true (Err fault) None o span count = refl
format_or_kept bytes end false read None o span count = refl

bind_map : {A B C : Type 0} (r : Result A WaveFault) (f : A → B) (g : B → Result C WaveFault) → ((r >>= λ x. Ok (f x)) >>= g) ≡ (r >>= λ x. g (f x))
bind_map (Ok x) f g = refl
bind_map (Err fault) f g = refl

-- what is found with a chunk, once its format is known
abbrev more_of : Chunk → Found → Option Format → Found
more_of c found format = record {
  format = format;
  span = kept (is_data c) (span_of c) found.span;
  count = kept (is_fact c) (u32_at c.body 0) found.count;
}

resumed_met : (bytes : List ℕ) (end : ℕ) (found : Found) (c : Chunk) (rest : List Chunk)
    → resumed bytes end found (c ∷ rest) ≡ (met c.id (c.place + header_len) c.body found >>= λ more. resumed bytes end more rest)
unfolding met
resumed_met bytes end found c rest =
    rw (
      map_cond (λ (d : Chunk). format_of d.body) (is_fmt c) c (find is_fmt rest),
      map_cond span_of (is_data c) c (find is_data rest),
      map_cond (λ (d : Chunk). u32_at d.body 0) (is_fact c) c (find is_fact rest),
      or_kept (is_data c) (span_of c) found.span (span_in rest),
      or_kept (is_fact c) (u32_at c.body 0) found.count (count_in rest),
    )
    (format_or_kept bytes end (is_fmt c) (format_of c.body) found.format (format_in rest)
    (option_or (kept (is_data c) (span_of c) found.span) (span_in rest))
    (option_or (kept (is_fact c) (u32_at c.body 0) found.count) (count_in rest))
    ∙ sym (bind_map (format_kept (is_fmt c) (format_of c.body) found.format) (more_of c found) (λ more. resumed bytes end more rest)))

-- it doesn't matter where past the last chunk the list ended
conclude_past : (bytes : List ℕ) (end other : ℕ) (read : Option (Result Format WaveFault)) (span : Option Span) (count : Option ℕ)
    → length bytes < end + header_len → length bytes < other + header_len
    → conclude bytes end read span count ≡ conclude bytes other read span count
conclude_past bytes end other (Some (Err fault)) span count a b = refl
conclude_past bytes end other (Some (Ok f)) (Some s) count a b = refl
conclude_past bytes end other (Some (Ok f)) None count a b =
    rw (lt-leb (end + header_len) (length bytes) a, lt-leb (other + header_len) (length bytes) b) refl
conclude_past bytes end other None span count a b =
    rw (lt-leb (end + header_len) (length bytes) a, lt-leb (other + header_len) (length bytes) b) refl

or_none : {A : Type 0} (o : Option A) → option_or o None ≡ o
or_none None = refl
or_none (Some x) = refl

module _ (data_size : Option ℕ) (bytes : List ℕ) where
  body_len : (place : ℕ) → length (chunk_at data_size bytes place).body ≡ min (size_at data_size bytes place) (length bytes - (place + header_len))
  body_len place = simp (length-take, length-drop)

  -- from a place on, the rest of a list is the list of the file, and ends where the whole list does
  record Next (place : ℕ) (c : Chunk) (rest : List Chunk) : Type 0 where
    chunks : ChunksFrom data_size bytes place rest
    end : (read : Option (Result Format WaveFault)) (span : Option Span) (count : Option ℕ)
        → conclude bytes (end_of (after c) rest) read span count ≡ conclude bytes (end_of place rest) read span count

  at_end : (place : ℕ) (c : Chunk) (rest : List Chunk) → rest ≡ [] → length bytes < after c + header_len
      → length bytes < place + header_len → Next place c rest
  at_end place c rest none a b = rw none (record {
    chunks = λ header. absurd (omega arith);
    end = λ read span count. conclude_past bytes (after c) place read span count a b;
  })

  -- the place after a chunk and its pad byte, as far as they are there
  abbrev place_after : ℕ → ℕ → ℕ
  place_after place len = min (place + header_len + len + len % 2) (length bytes)

  next_of : (place : ℕ) (rest : List Chunk) → ChunksFrom data_size bytes place (chunk_at data_size bytes place ∷ rest)
      → Next (place_after place (length (chunk_at data_size bytes place).body)) (chunk_at data_size bytes place) rest
  next_of place rest h =
      let c = chunk_at data_size bytes place in
      let len = body_len place in
      let q = place_after place (length c.body) in
      elim (cases_lt (length bytes) (body_end c)) [
        | inl past ↦ at_end q c rest (h.3 past).1 (omega arith) (omega arith)
        | inr whole ↦
            let same : length c.body ≡ c.size = omega arith in
            elim (cases_lt (length bytes) (after c)) [
              | inl beyond ↦ at_end q c rest (none_past data_size bytes (after c) rest (omega arith) (h.2 whole)) (omega arith) (omega (arith, same))
              | inr inside ↦
                  let there : q ≡ after c = rw same (omega arith) in
                  rw there (record { chunks = h.2 whole; end = λ read span count. refl })
            ]
      ]

  met_gives : (told : Result Wave WaveFault) (place : ℕ) (end : ℕ) (rest : List Chunk) (m : Result Found WaveFault)
      → told ≡ (m >>= λ more. resumed bytes end more rest) → ChunksFrom data_size bytes place rest
      → ((more : Found) → resumed bytes end more rest ≡ resumed bytes (end_of place rest) more rest)
      → MatchResult m (λ more. Resumes data_size bytes told place more) (λ fault. told ≡ Err fault)
  met_gives told place end rest (Ok more) says chunks same = record { rest = rest; chunks = chunks; says = says ∙ same more }
  met_gives told place end rest (Err fault) says chunks same = says

  stepped_at : (told : Result Wave WaveFault) (place : ℕ) (found : Found) (rest : List Chunk)
      → place + header_len ≤ length bytes
      → (size_at data_size bytes place ≤ length (chunk_at data_size bytes place).body) ⊎ (u32_at bytes place ≡ data_id)
      → ChunksFrom data_size bytes place rest → told ≡ resumed bytes (end_of place rest) found rest
      → MatchResult (met (u32_at bytes place) (place + header_len) (chunk_at data_size bytes place).body found)
      (λ more. Resumes data_size bytes told (place_after place (length (chunk_at data_size bytes place).body)) more) (λ fault. told ≡ Err fault)
  stepped_at told place found [] header kind h says =
      absurd (elim kind [ inl whole ↦ omega (arith, body_len place, (h header).0) | inr is_data ↦ (h header).1 is_data ])
  stepped_at told place found (d ∷ rest) header kind h says =
      let c = chunk_at data_size bytes place in
      let chunks : ChunksFrom data_size bytes place (c ∷ rest) = rw h.1 at h in
      let next = next_of place rest chunks in
      let at_head : told ≡ resumed bytes (end_of (after c) rest) found (c ∷ rest) = rw h.1 at says in
      met_gives told (place_after place (length c.body)) (end_of (after c) rest) rest
      (met (u32_at bytes place) (place + header_len) c.body found)
      (at_head ∙ resumed_met bytes (end_of (after c) rest) found c rest) next.chunks
      (λ more. next.end _ _ _)

  pub stepped : (told : Result Wave WaveFault) (place id size : ℕ) (body : List ℕ) (found : Found) → place + header_len ≤ length bytes
      → id ≡ u32_at bytes place → size ≡ size_at data_size bytes place → body ≡ take size (drop (place + header_len) bytes)
      → (size ≤ length body) ⊎ (id ≡ data_id) → Resumes data_size bytes told place found
      → MatchResult (met id (place + header_len) body found)
      (λ more. Resumes data_size bytes told (place_after place (length body)) more) (λ fault. told ≡ Err fault)
  stepped told place id size body found header id_is size_is body_is kind r =
      let whole_body : body ≡ (chunk_at data_size bytes place).body = rw (← size_is) body_is in
      rw (id_is, whole_body) (stepped_at told place found r.rest header (rw (id_is, size_is, whole_body) at kind) r.chunks r.says)

  pub started : (chunks : List Chunk) → ChunksFrom data_size bytes first_chunk chunks
      → Resumes data_size bytes (told_by bytes chunks) first_chunk nothing
  unfolding told_by
  started chunks h = record { rest = chunks; chunks = h; says = refl }

  -- the list ends where no id and size are left, and before a chunk other than `data` that passes the end
  ended_at : (told : Result Wave WaveFault) (place : ℕ) (found : Found) (rest : List Chunk)
      → (length bytes < place + header_len) ⊎ ((length bytes < body_end (chunk_at data_size bytes place)) × (u32_at bytes place ≢ data_id))
      → ChunksFrom data_size bytes place rest → told ≡ resumed bytes (end_of place rest) found rest
      → told ≡ conclude bytes place (option_map Ok found.format) found.span found.count
  ended_at told place found [] kind h says = rw (or_none {A = Result Format WaveFault} (option_map Ok found.format), or_none {A = Span} found.span, or_none {A = ℕ} found.count) at says
  ended_at told place found (d ∷ rest) kind h says = absurd (elim kind [
    | inl none ↦ omega (arith, h.0)
    | inr other ↦
        let chunks : ChunksFrom data_size bytes place (chunk_at data_size bytes place ∷ rest) = rw h.1 at h in
        other.1 (chunks.3 other.0).0
  ])

  pub ended : (told : Result Wave WaveFault) (place : ℕ) (found : Found) → length bytes < place + header_len
      → Resumes data_size bytes told place found → told ≡ conclude bytes place (option_map Ok found.format) found.span found.count
  ended told place found none r = ended_at told place found r.rest (inl none) r.chunks r.says

  pub cut_off : (told : Result Wave WaveFault) (place id size : ℕ) (body : List ℕ) (found : Found) → place + header_len ≤ length bytes
      → id ≡ u32_at bytes place → size ≡ size_at data_size bytes place → body ≡ take size (drop (place + header_len) bytes)
      → length body < size → id ≢ data_id → Resumes data_size bytes told place found
      → told ≡ conclude bytes place (option_map Ok found.format) found.span found.count
  cut_off told place id size body found header id_is size_is body_is cut other r =
      let whole_body : body ≡ (chunk_at data_size bytes place).body = rw (← size_is) body_is in
      let less : length (chunk_at data_size bytes place).body < size_at data_size bytes place = rw (size_is, whole_body) at cut in
      let past : length bytes < body_end (chunk_at data_size bytes place) = omega (arith, body_len place) in
      ended_at told place found r.rest (inr (past, rw id_is at other)) r.chunks r.says
