-- What a status says of the counts of faults of the store and of the text sink. Neither ever falls.
use Rattle.std.specs.Prelude.{◌≡◌, ◌≤◌, ℕ, Bool, true, false}
use Rattle.snd_io.specs.Faults.{Rose}
use Rattle.snd_status.specs.declared.status.Status.{Status}
use Rattle.snd_status.specs.declared.status.Status.TheVariants.{Done, DepotFault, TextFault}
use Rattle.snd_status.specs.Statuses.{Ending, Success, NoMemory, Refusal, DepotFailure, TextFailure, ending}

-- whether the store may have failed in a command that ended so: want of memory may have come behind a fault, for its line
abbrev pub may_have_failed : Ending → Bool
may_have_failed Success = false
may_have_failed NoMemory = true
may_have_failed Refusal = false
may_have_failed DepotFailure = true
may_have_failed TextFailure = false

-- The store is said to have failed only where its count rose, and no failure is passed over: the count is as before after
-- each status that doesn't tell of one.
pub record CountsDepot (before now : ℕ) (status : Status) : Type 0 where
  pub later : before ≤ now
  pub stays : may_have_failed (ending status) ≡ false → now ≡ before
  pub cause : status ≡ DepotFault → Rose before now

-- The same of the sink. The line of a refusal may have failed with the refusal's status.
pub record CountsText (before now : ℕ) (status : Status) : Type 0 where
  pub later : before ≤ now
  pub stays : status ≡ Done → now ≡ before
  pub cause : status ≡ TextFault → Rose before now
