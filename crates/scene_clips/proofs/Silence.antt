-- A frame of 0 past the end of a file, and frames in the scene's channels.
use Rattle.std.proofs.Common.{◌≡◌, ℕ, zero, suc, ◌+◌, Bool, true, false, List, [], ◌∷◌, ◌++◌, length, take, replicate, ℤ, pos, get_or, refl, ap, ◌∙◌, arith}
use Rattle.std.specs.Prelude.{if◌then◌else◌, ◌==◌}
use Rattle.std.proofs.lemmas.Int.{ints}
use Rattle.std.proofs.lemmas.List.{replicate-append-replicate}
use Rattle.rate_fit.specs.Channels.{in_channels, mean, total}
use Rattle.scene_clips.specs.ClipFrames.{all_in_channels, sample_or_zero}
use Rattle.scene_clips.specs.FilePages.{frame_or_silence}

-- a frame of 0 is one in other channels too
silent_total : (w : ℕ) → total (replicate w (pos 0)) ≡ pos 0
silent_total zero = refl
silent_total (suc w) = silent_total w

silent_mean : (w : ℕ) → mean (replicate w (pos 0)) ≡ pos 0
silent_mean w = rw (silent_total w) (omega (arith, ints))

silent_alone : (x : ℤ) (c : ℕ) → x ≡ pos 0 → get_or (x ∷ []) c (pos 0) ≡ pos 0
silent_alone x zero silent = silent
silent_alone x (suc c) silent = refl

silent_pair : (w c : ℕ) → get_or (take 2 (replicate w (pos 0))) c (pos 0) ≡ pos 0
silent_pair zero c = refl
silent_pair (suc zero) zero = refl
silent_pair (suc zero) (suc c) = refl
silent_pair (suc (suc w)) zero = refl
silent_pair (suc (suc w)) (suc zero) = refl
silent_pair (suc (suc w)) (suc (suc c)) = refl

silent_all : (w c : ℕ) → get_or (replicate w (pos 0)) c (pos 0) ≡ pos 0
silent_all zero c = refl
silent_all (suc w) zero = refl
silent_all (suc w) (suc c) = silent_all w c

silent_twice : (w c : ℕ) → get_or (replicate w (pos 0) ++ replicate w (pos 0)) c (pos 0) ≡ pos 0
silent_twice w c = ap (λ xs. get_or xs c (pos 0)) (replicate-append-replicate w w (pos 0)) ∙ silent_all (w + w) c

either : (b : Bool) (xs ys : List ℤ) (c : ℕ) → get_or xs c (pos 0) ≡ pos 0 → get_or ys c (pos 0) ≡ pos 0 → get_or (if b then xs else ys) c (pos 0) ≡ pos 0
either true xs ys c then_silent else_silent = then_silent
either false xs ys c then_silent else_silent = else_silent

silence_heard : (channels w c : ℕ) → get_or (in_channels channels (replicate w (pos 0))) c (pos 0) ≡ pos 0
silence_heard channels w c =
    let silence = replicate w (pos 0) in
    let two : get_or (if length silence == 1 then silence ++ silence else take 2 silence) c (pos 0) ≡ pos 0 =
    either (length silence == 1) (silence ++ silence) (take 2 silence) c (silent_twice w c) (silent_pair w c) in
    either (channels == 1) (mean silence ∷ []) (if length silence == 1 then silence ++ silence else take 2 silence) c
    (silent_alone (mean silence) c (silent_mean w)) two

-- frame n, and the frame of 0 after the last one, in the scene's channels
pub frame_heard : (channels w n c : ℕ) (list : List (List ℤ))
    → get_or (in_channels channels (frame_or_silence w list n)) c (pos 0) ≡ sample_or_zero (all_in_channels channels list) n c
frame_heard channels w n c [] = silence_heard channels w c
frame_heard channels w zero c (frame ∷ list) = refl
frame_heard channels w (suc n) c (frame ∷ list) = frame_heard channels w n c list
