-- A clip whose file has the scene's rate and channels.
use Rattle.std.proofs.Common.{◌≡◌, ◌⊎◌, inl, inr, ℕ, zero, suc, ◌+◌, ◌-◌, ◌*◌, ◌/◌, ◌%◌, ◌<◌, ◌≤◌, Bool, true, false, ◌&&◌, ◌==◌, List, [], ◌∷◌, length, ℤ, pos, get_or, ◌*ℤ◌, min, refl, sym, ◌∙◌, ap, subst, arith}
use Rattle.std.specs.Prelude.{Ok}
use Rattle.std.proofs.Math.Nat.{mul-div_cancel, mod-eq_of_lt, le_trans, mul-le-mul_right, div-mul-le_self, add-mul-div_left, add-mul-mod_self_left, add-mul-mod_self_right}
use Rattle.std.proofs.lemmas.Bool.{cases_lt, eqb-true}
use Rattle.std.proofs.lemmas.Int.{ints}
use Rattle.clip_decode.specs.Frames.{frames}
use Rattle.rate_fit.specs.Channels.{in_channels, mean, total}
use Rattle.rate_fit.specs.Conversion.{clip_len}
use Rattle.rate_fit.specs.Points.{point_at}
use Rattle.rate_fit.specs.declared.point.Point.{Point}
use Rattle.wave_read.specs.Wave.{wave}
use Rattle.wave_read.specs.declared.wave.Wave.{Wave}
use Rattle.scene_clips.specs.ClipFrames.{clip_length, clip_sample, file_rate}
use Rattle.scene_clips.specs.ConverterData.{ConverterData}
use Rattle.scene_clips.specs.FilePages.{frame_or_silence}
use Rattle.scene_clips.specs.Unchanged.{channels_said, file_channels, is_unchanged}
use Rattle.scene_clips.proofs.FilePages.{frame_wide, frames_counted}
use Rattle.scene_clips.proofs.Rates.{rate_of, whole_quotient, first_only, converted_alone}

-- ---- one frame

mean_alone : (x : ℤ) → mean (x ∷ []) ≡ x
mean_alone x =
    let sum : total (x ∷ []) ≡ x *ℤ pos 1 = omega (arith, ints) in
    rw sum (whole_quotient x 1 (omega arith))

-- a frame in as many channels as it has, one or two
pub same_channels : (frame : List ℤ) (channels c : ℕ) → length frame ≡ channels → 1 ≤ channels → channels ≤ 2 → c < channels
    → get_or (in_channels channels frame) c (pos 0) ≡ get_or frame c (pos 0)
same_channels [] channels c long least most inside = absurd (omega (arith, long, least))
same_channels (x ∷ []) channels zero long least most inside = rw (← long) (mean_alone x)
same_channels (x ∷ []) channels (suc c) long least most inside = absurd (omega (arith, long, inside))
same_channels (x ∷ y ∷ []) channels c long least most inside = rw (← long) refl
same_channels (x ∷ y ∷ z ∷ frame) channels c long least most inside = absurd (omega (arith, long, most))

multiple : (n r : ℕ) → 0 < r → n * r % r ≡ 0
multiple n r some =
    let e : n * r ≡ 0 + n * r = omega arith in
    ap (λ x. x % r) e ∙ add-mul-mod_self_right 0 n r ∙ mod-eq_of_lt some

-- a sample of the file is that of the clip
pub copied_is : (bytes : List ℕ) (w : Wave) (to : ConverterData) (n c : ℕ) → wave bytes ≡ Ok w → to.conversion.input_rate ≡ w.rate
    → to.conversion.output_rate ≡ w.rate → to.channels ≡ w.channels → 0 < w.rate → 1 ≤ w.channels → to.channels ≤ 2 → c < w.channels → n < w.frames
    → get_or (frame_or_silence w.channels (frames bytes) n) c (pos 0) ≡ clip_sample bytes to.conversion.output_rate to.channels n c
copied_is bytes w to n c said input_rate output_rate channels some least most inside below =
    let frame = frame_or_silence w.channels (frames bytes) n in
    let p : Point = record { first = n; weight = 0 } in
    let rate : w.rate ≡ to.conversion.output_rate = sym output_rate in
    let positive : 0 < to.conversion.output_rate = omega (arith, some, output_rate) in
    let first : n ≡ n * w.rate / w.rate = sym (mul-div_cancel n {n = w.rate} some) in
    let weight : 0 ≡ n * w.rate % w.rate = sym (multiple n w.rate some) in
    let point : p ≡ point_at to.conversion.input_rate to.conversion.output_rate n =
    ap (λ i. record { first = i; weight = 0 }) first ∙ ap (λ v. record { first = n * w.rate / w.rate; weight = v }) weight
    ∙ ap (λ r. point_at w.rate r n) rate ∙ ap (λ r. point_at r to.conversion.output_rate n) (sym input_rate) in
    let long : length frame ≡ to.channels = frame_wide bytes w n said below ∙ sym channels in
    sym (same_channels frame to.channels c long (omega (arith, least, channels)) most (omega (arith, inside, channels)))
    ∙ first_only to frame frame 0 c positive refl
    ∙ converted_alone bytes w to n c p frame said input_rate point refl positive refl

-- ---- its frames

whole_length : (count rate : ℕ) → 0 < rate → clip_len count rate rate ≡ count
whole_length count rate some = omega (arith, mul-div_cancel count {n = rate} some, multiple count rate some)

pub unchanged_length : (bytes : List ℕ) (w : Wave) (rate : ℕ) → wave bytes ≡ Ok w → rate ≡ w.rate → 0 < w.rate → clip_length bytes rate ≡ w.frames
unfolding clip_length
unchanged_length bytes w rate said same some = rw (frames_counted bytes w said, rate_of bytes w said, same) (whole_length w.frames w.rate some)

-- ---- whether it is one

both : (x y : Bool) → (x && y) ≡ true → (x ≡ true) × (y ≡ true)
both true true is = (refl, refl)
both true false is = cc
both false y is = cc

pub unchanged_wave : (bytes : List ℕ) (w : Wave) (rate channels : ℕ) → wave bytes ≡ Ok w → is_unchanged bytes rate channels ≡ true → (rate ≡ w.rate) × (channels ≡ w.channels)
unchanged_wave bytes w rate channels said is =
    let parts = both (file_rate bytes == rate) (file_channels bytes == channels) is in
    (sym (eqb-true (file_rate bytes) rate parts.0) ∙ rate_of bytes w said, sym (eqb-true (file_channels bytes) channels parts.1) ∙ ap channels_said said)

-- ---- frames after others

some_factor : (m k j : ℕ) → j < m * k → 0 < k
some_factor m zero j below = absurd (omega (arith, below))
some_factor m (suc k) j below = omega arith

-- what is true of the samples of the first frames, and of those behind them, is true of all
pub samples_more : (P : ℕ → ℕ → ℤ → Type 0) (from channels done count : ℕ) (old new : List ℤ)
    → ((j : ℕ) → j < done * channels → get_or new j (pos 0) ≡ get_or old j (pos 0))
    → ((j : ℕ) → j < count * channels → P (from + done + j / channels) (j % channels) (get_or new (done * channels + j) (pos 0)))
    → ((j : ℕ) → j < done * channels → P (from + j / channels) (j % channels) (get_or old j (pos 0)))
    → (j : ℕ) → j < (done + count) * channels → P (from + j / channels) (j % channels) (get_or new j (pos 0))
samples_more P from channels done count old new before news olds j below = by_place (cases_lt j (done * channels))
  where
    some : 0 < channels
    some = some_factor (done + count) channels j below

    there : (k : ℕ) → k < count * channels → done * channels + k ≡ j → P (from + j / channels) (j % channels) (get_or new j (pos 0))
    there k inside e =
        let split : j ≡ k + channels * done = omega (arith, e) in
        let frame : from + done + k / channels ≡ from + j / channels =
        let q : j / channels ≡ k / channels + done = ap (λ x. x / channels) split ∙ add-mul-div_left k done some in omega (arith, q) in
        let channel : k % channels ≡ j % channels = sym (ap (λ x. x % channels) split ∙ add-mul-mod_self_left k channels done) in
        subst (λ i. P (from + j / channels) (j % channels) (get_or new i (pos 0))) e
        (subst (λ c. P (from + j / channels) c (get_or new (done * channels + k) (pos 0))) channel
        (subst (λ n. P n (k % channels) (get_or new (done * channels + k) (pos 0))) frame (news k inside)))

    by_place : (j < done * channels) ⊎ (done * channels ≤ j) → P (from + j / channels) (j % channels) (get_or new j (pos 0))
    by_place (inl less) = subst (P (from + j / channels) (j % channels)) (sym (before j less)) (olds j less)
    by_place (inr past) =
        let wide : (done + count) * channels ≡ done * channels + count * channels = omega arith in
        there (j - done * channels) (omega (arith, below, wide, past)) (omega (arith, past))

-- so many frames lie in what was read, and in what is wanted
pub copied_fits : (long channels done count n : ℕ) → n ≡ min (long / channels) (count - done) → done < count
    → (n * channels ≤ long) × (done + n ≤ count) × (done * channels + n * channels ≤ count * channels)
copied_fits long channels done count n is left =
    let few : n ≤ long / channels = omega (arith, is) in
    let most : done + n ≤ count = omega (arith, is, left) in
    let places : (done + n) * channels ≤ count * channels = mul-le-mul_right {m = done + n} {n = count} channels most in
    (le_trans (mul-le-mul_right {m = n} {n = long / channels} channels few) (div-mul-le_self long channels), most, omega (arith, places))
