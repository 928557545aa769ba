-- The limits of decoding by workers.
use Rattle.std.specs.Prelude.{ℕ}

abbrev pub most_workers : ℕ
most_workers = 16
