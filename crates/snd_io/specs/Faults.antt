-- Counts of faults. A count is a u64 that never falls, and rises in no call but one that fails.
use Rattle.std.specs.Prelude.{◌≡◌, ℕ, ◌+◌, ◌-◌, ◌^◌, ◌≤◌, Bool, true, false, min}

-- the count rose, or stands at the last number of its type
abbrev pub Rose : ℕ → ℕ → Type 0
Rose before now = min (before + 1) (2 ^ 64 - 1) ≤ now

-- the count rose in a call that failed, and is as before after one that didn't
pub record CountsFaults (before now : ℕ) (failed : Bool) : Type 0 where
  pub later : before ≤ now
  pub stays : failed ≡ false → now ≡ before
  pub cause : failed ≡ true → Rose before now
