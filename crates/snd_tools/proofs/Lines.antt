-- A command that only prints a line.
use Rattle.std.proofs.Common.{◌≡◌, ℕ, true, List, Result, Ok, Err, String, Global, string_bytes, refl, sym, subst}
use Rattle.snd_io.specs.Files.{Files}
use Rattle.snd_status.specs.declared.status.Status.{Status}
use Rattle.snd_tools.specs.Meets.{Works}
use Rattle.snd_tools.specs.Outcome.{comes_to, MayReport, only_line}
use Rattle.snd_tools.specs.Reading.{◌>>=◌, GivesBy, stopped_by_depot}
use Rattle.snd_tools.proofs.Outcomes.{stops}

pub works-line : (came_to : Result (String Global) Status) (said : Result (List ℕ) Status) (files : Files) (depot_rose : Type 0)
    → GivesBy string_bytes came_to said → (stopped_by_depot came_to ≡ true → depot_rose)
    → Works (comes_to (said >>= λ text. Ok (only_line text))) files files depot_rose came_to
works-line (Ok text) said files depot_rose given cause =
    (only_line (string_bytes text), record { reported = subst (λ r. MayReport (comes_to (r >>= λ line. Ok (only_line line))) (only_line (string_bytes text))) (sym given) refl; set = refl }, refl)
works-line (Err status) said files depot_rose given cause = stops status said (λ text. Ok (only_line text)) files depot_rose given cause
