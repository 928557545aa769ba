-- What an effect makes of frames that follow others.
use Rattle.std.proofs.Common.{◌≡◌, ◌⊎◌, inl, inr, ℕ, ◌+◌, ◌-◌, ◌*◌, ◌/◌, ◌%◌, ◌<◌, ◌≤◌, ◌++◌, ◌∙◌, ℤ, pos, ◌+ℤ◌, List, length, drop, ap, ap₂, sym, refl, arith}
use Rattle.std.proofs.lemmas.Bool.{cases_lt}
use Rattle.std.proofs.lemmas.List.{ext_get_or, get_or_append_left, get_or-append-add, get_or-drop, length-append, length-drop}
use Rattle.std.proofs.lemmas.List.FromFn.{length-map-range_with_len, get_or-map-range_with_len}
use Rattle.mix_fixed.specs.Sound.{sat24, scale}
use Rattle.fx_nodes.specs.Effects.{channel, delayed, effect_value, fade_gain, fx, pan_gain}
use Rattle.fx_nodes.specs.Samples.{Holds, MadeIn, Reads, fade_rule, level_rule, pan_rule, sample}
use Rattle.fx_nodes.specs.declared.effect.Effect.{Effect}
use Rattle.fx_nodes.specs.declared.effect.Effect.TheVariants.{Delay, Pan, Fade, Level}
use Rattle.fx_nodes.proofs.DelayLemmas.{delayed_agrees, delayed_channel, holds_agrees}

-- the sample at place s of what an effect makes of frames
abbrev at_place : Effect → List ℤ → ℕ → ℤ
at_place e frames s = fx e (s % 2) (channel frames (s % 2)) (s / 2)

pub length-effect_value : (e : Effect) (frames : List ℤ) → length (effect_value e frames) ≡ length frames
unfolding effect_value
length-effect_value e frames = length-map-range_with_len (at_place e frames) 0 (length frames)

pub effect_value_at : (e : Effect) (frames : List ℤ) (s : ℕ) → s < length frames → sample (effect_value e frames) s ≡ at_place e frames s
unfolding effect_value
effect_value_at e frames s inside = get_or-map-range_with_len (at_place e frames) 0 (length frames) s s (pos 0) inside (omega arith)

-- an effect looks at no later frame
fx_agrees : (e : Effect) (c : ℕ) (x y : ℕ → ℤ) (t : ℕ) → ((j : ℕ) → j ≤ t → x j ≡ y j) → fx e c x t ≡ fx e c y t
fx_agrees (Delay n d) c x y t same = ap₂ (λ a b. sat24 (a +ℤ b)) (same t (omega arith)) (delayed_agrees x y n d t (λ j early. same j (omega (arith, early))))
fx_agrees (Pan place) c x y t same = ap (λ a. scale a (pan_gain c place)) (same t (omega arith))
fx_agrees (Fade from to first last) c x y t same = ap (λ a. sat24 (scale a (fade_gain from to first last t))) (same t (omega arith))
fx_agrees (Level gain) c x y t same = ap (λ a. sat24 (scale a gain)) (same t (omega arith))

-- the samples of frames that follow others
appended : (e : Effect) (xs ys zs : List ℤ) → length zs ≡ length ys → ((k : ℕ) → k < length ys → sample zs k ≡ at_place e (xs ++ ys) (length xs + k))
    → effect_value e (xs ++ ys) ≡ effect_value e xs ++ zs
appended e xs ys zs len is = ext_get_or (pos 0) _ _ lengths at
  where
    lengths : length (effect_value e (xs ++ ys)) ≡ length (effect_value e xs ++ zs)
    lengths = length-effect_value e (xs ++ ys) ∙ omega (arith, length-append xs ys, length-append (effect_value e xs) zs, length-effect_value e xs, len)

    before : (s : ℕ) → s < length xs → at_place e (xs ++ ys) s ≡ at_place e xs s
    before s early = fx_agrees e (s % 2) _ _ (s / 2) (λ j low. get_or_append_left xs ys (pos 0) (2 * j + s % 2) (omega (arith, early, low)))

    by_part : (s : ℕ) → s < length (xs ++ ys) → (s < length xs) ⊎ (length xs ≤ s) → sample (effect_value e (xs ++ ys)) s ≡ sample (effect_value e xs ++ zs) s
    by_part s inside (inl early) =
        effect_value_at e (xs ++ ys) s inside ∙ before s early ∙ sym (effect_value_at e xs s early)
        ∙ sym (get_or_append_left (effect_value e xs) zs (pos 0) s (omega (arith, length-effect_value e xs, early)))
    by_part s inside (inr late) =
        let k = s - length xs in
        let here : length xs + k ≡ s = omega (arith, late) in
        let there : length (effect_value e xs) + k ≡ s = omega (arith, length-effect_value e xs, late) in
        let behind : sample (effect_value e xs ++ zs) s ≡ sample zs k = rw there at (get_or-append-add (effect_value e xs) zs k (pos 0)) in
        effect_value_at e (xs ++ ys) s inside ∙ rw here at (sym (is k (omega (arith, inside, length-append xs ys, late)))) ∙ sym behind

    at : (s : ℕ) → s < length (effect_value e (xs ++ ys)) → sample (effect_value e (xs ++ ys)) s ≡ sample (effect_value e xs ++ zs) s
    at s inside = by_part s (rw length-effect_value at inside) (cases_lt s (length xs))

-- what it makes of the first frames stays, whichever frames follow
pub value_begins : (e : Effect) (xs ys : List ℤ) → effect_value e (xs ++ ys) ≡ effect_value e xs ++ drop (length xs) (effect_value e (xs ++ ys))
value_begins e xs ys =
    let all = effect_value e (xs ++ ys) in
    let rest : length (drop (length xs) all) ≡ length ys = omega (arith, length-drop (length xs) all, length-effect_value e (xs ++ ys), length-append xs ys) in
    appended e xs ys (drop (length xs) all) rest
    (λ k below. get_or-drop (length xs) all k (pos 0) ∙ effect_value_at e (xs ++ ys) (length xs + k) (omega (arith, below, length-append xs ys)))

-- the sample behind the others is the first of the new ones
behind : (xs ys : List ℤ) (start k : ℕ) → length xs ≡ 2 * start → channel (xs ++ ys) ((length xs + k) % 2) ((length xs + k) / 2) ≡ sample ys k
behind xs ys start k even =
    let place : 2 * ((length xs + k) / 2) + (length xs + k) % 2 ≡ length xs + k = omega arith in
    rw place (get_or-append-add xs ys k (pos 0))

pub level_value : (gain start : ℕ) (xs ys zs : List ℤ) → length xs ≡ 2 * start → length zs ≡ length ys → MadeIn (level_rule gain) 0 (length ys) ys zs
    → effect_value (Level gain) (xs ++ ys) ≡ effect_value (Level gain) xs ++ zs
level_value gain start xs ys zs even len made =
    appended (Level gain) xs ys zs len (λ k below. made.inside k (omega arith) below ∙ ap (λ x. sat24 (scale x gain)) (sym (behind xs ys start k even)))

pub pan_value : (place start : ℕ) (xs ys zs : List ℤ) → length xs ≡ 2 * start → length zs ≡ length ys → MadeIn (pan_rule place) 0 (length ys) ys zs
    → effect_value (Pan place) (xs ++ ys) ≡ effect_value (Pan place) xs ++ zs
pan_value place start xs ys zs even len made =
    appended (Pan place) xs ys zs len (λ k below.
    let side : k % 2 ≡ (length xs + k) % 2 = omega (arith, even) in
    made.inside k (omega arith) below ∙ ap (pan_rule place k) (sym (behind xs ys start k even)) ∙ rw side refl)

pub fade_value : (from to first last start : ℕ) (xs ys zs : List ℤ) → length xs ≡ 2 * start → length zs ≡ length ys
    → MadeIn (fade_rule from to first last start) 0 (length ys) ys zs → effect_value (Fade from to first last) (xs ++ ys) ≡ effect_value (Fade from to first last) xs ++ zs
fade_value from to first last start xs ys zs even len made =
    appended (Fade from to first last) xs ys zs len (λ k below.
    let frame : start + k / 2 ≡ (length xs + k) / 2 = omega (arith, even) in
    made.inside k (omega arith) below ∙ ap (fade_rule from to first last start k) (sym (behind xs ys start k even)) ∙ rw frame refl)

-- what a delay line has taken it has taken of more frames too
pub taken_of_more : (m d place : ℕ) (ring xs ys : List ℤ) → Holds (sample xs) m d (length xs) place ring → Holds (sample (xs ++ ys)) m d (length xs) place ring
taken_of_more m d place ring xs ys holds =
    holds_agrees (sample xs) (sample (xs ++ ys)) m d (length xs) place ring (λ j early. sym (get_or_append_left xs ys (pos 0) j early)) holds

pub reads_behind : (xs ys : List ℤ) → Reads (sample (xs ++ ys)) (length xs) ys
reads_behind xs ys k below = sym (get_or-append-add xs ys k (pos 0))

pub delay_value : (n d start : ℕ) (xs ys zs : List ℤ) → 0 < n → length xs ≡ 2 * start → length zs ≡ length ys
    → Reads (λ t. sat24 (sample (xs ++ ys) t +ℤ delayed (sample (xs ++ ys)) (2 * n) d t)) (length xs) zs
    → effect_value (Delay n d) (xs ++ ys) ≡ effect_value (Delay n d) xs ++ zs
delay_value n d start xs ys zs some even len reads =
    appended (Delay n d) xs ys zs len (λ k below.
    let s = length xs + k in
    let place : 2 * (s / 2) + s % 2 ≡ s = omega arith in
    let now : sample (xs ++ ys) s ≡ channel (xs ++ ys) (s % 2) (s / 2) = ap (sample (xs ++ ys)) (sym place) in
    reads k (omega (arith, below, len)) ∙ ap₂ (λ a b. sat24 (a +ℤ b)) now (delayed_channel (sample (xs ++ ys)) n d s some))
