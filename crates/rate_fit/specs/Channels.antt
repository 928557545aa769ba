-- A frame of one number of channels as a frame of another: a list of its channels' samples.
use Rattle.std.specs.Prelude.{ℕ, ◌==◌, ℤ, pos, ◌+ℤ◌, List, [], ◌∷◌, ◌++◌, length, fold, take, if◌then◌else◌}
use Rattle.std.specs.Int.{int_div_euclid}

abbrev pub total : List ℤ → ℤ
total samples = fold ◌+ℤ◌ (pos 0) samples

-- the mean of all samples, rounded down
abbrev pub mean : List ℤ → ℤ
mean samples = int_div_euclid (total samples) (pos (length samples))

-- in one channel the mean of all; in two the only one twice, or the first two
abbrev pub in_channels : ℕ → List ℤ → List ℤ
in_channels count frame =
    if count == 1 then mean frame ∷ [] else if length frame == 1 then frame ++ frame else take 2 frame
