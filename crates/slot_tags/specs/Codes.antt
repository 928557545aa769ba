-- The codes by which a view knows a job.
use base.Stored.{Gv, Coded}

-- a code is its own code
abbrev pub coded_gv : Coded Gv
coded_gv = record { code = λ g. g; inj = λ x y p. p }
