-- The calls at which a fake fails. Calls count from 1, the appends among themselves too.
use Rattle.std.specs.Prelude.{ℕ, ◌+◌, ◌-◌, ◌^◌, ◌==◌, List, Option, Some, None, Bool, false, min, if◌then◌else◌, find}
use Rattle.std.specs.Option.{option_map}
use Rattle.snd_io.specs.declared.snag.Snag.{Snag}

-- the number of the call after the n-th; it stays at the last number of a u64
abbrev pub next_number : ℕ → ℕ
next_number n = min (n + 1) (2 ^ 64 - 1)

-- whether a snag names the call with this number; `append` is its number among the appends, if it is one
abbrev pub names_append : ℕ → Option ℕ → Bool
names_append call None = false
names_append call (Some n) = call == n

abbrev pub names_call : ℕ → Option ℕ → Snag → Bool
names_call number append snag = if snag.appends_only then names_append snag.call append else snag.call == number

-- how many bytes the call takes before it fails, by the first snag that names it; none where no snag does
abbrev pub bytes_taken : List Snag → ℕ → Option ℕ → Option ℕ
bytes_taken snags number append = option_map (λ snag. snag.taken) (find (names_call number append) snags)

-- the count of faults after a call: one more where it failed, and else as before
abbrev pub faults_after : ℕ → Bool → ℕ
faults_after before failed = if failed then next_number before else before
