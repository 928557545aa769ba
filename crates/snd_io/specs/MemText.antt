-- What a sink in memory that fails at listed writes holds, and how it counts.
use Rattle.std.specs.Prelude.{◌≡◌, ◌≢◌, ℕ, List, [], ◌++◌, Option, None, false, IsSomeAnd, IfSome, take}
use Rattle.snd_io.specs.declared.snag.Snag.{Snag}
use Rattle.snd_io.specs.declared.mem_sink.MemSink.{MemSink}
use Rattle.snd_io.specs.declared.answers.Put.{Put}
use Rattle.snd_io.specs.declared.answers.Put.TheVariants.{Done, Failed, OutOfMemory}
use Rattle.snd_io.specs.Snags.{next_number, bytes_taken}

abbrev pub mem_text : MemSink → List ℕ
mem_text sink = sink.text.items

-- the writes at which it fails, as they were listed
abbrev pub mem_sink_snags : MemSink → List Snag
mem_sink_snags sink = sink.snags.list.items

abbrev pub listed_write : ℕ → ℕ → Snag
listed_write call taken = record { appends_only = false; call = call; taken = taken }

-- the writes so far, and those that failed
abbrev pub mem_sink_calls : MemSink → ℕ
mem_sink_calls sink = sink.snags.calls

abbrev pub mem_sink_faults : MemSink → ℕ
mem_sink_faults sink = sink.snags.faults

-- A write whose number is listed doesn't succeed: it fails with as many bytes as were listed. Where these are any, it may
-- find no memory instead. One that isn't listed doesn't fail.
abbrev pub WritesAsTaken : Put → Option ℕ → List ℕ → MemSink → MemSink → Type 0
WritesAsTaken Done taken bytes before after = taken ≡ None
WritesAsTaken Failed taken bytes before after = IsSomeAnd taken (λ count. mem_text after ≡ mem_text before ++ take count bytes)
WritesAsTaken OutOfMemory taken bytes before after = IfSome taken (λ count. take count bytes ≢ [])

abbrev pub WritesAsListed : Put → List ℕ → MemSink → MemSink → Type 0
WritesAsListed answer bytes before after =
    WritesAsTaken answer (bytes_taken (mem_sink_snags before) (next_number (mem_sink_calls before)) None) bytes before after

-- the last bytes of a text, whose write fails once it took them. It may find no memory where they are any
abbrev pub WritesLast : Put → List ℕ → List ℕ → List ℕ → Type 0
WritesLast Done bytes before after = ⊥
WritesLast Failed bytes before after = after ≡ before ++ bytes
WritesLast OutOfMemory bytes before after = (after ≡ before) × (bytes ≢ [])
