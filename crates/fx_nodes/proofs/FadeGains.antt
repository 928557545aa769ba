-- The gain of a fade before its line, on it and behind it.
use Rattle.std.proofs.Common.{◌≡◌, ℕ, ◌+◌, ◌-◌, ◌*◌, ◌/◌, ◌<◌, ◌≤◌, ◌∙◌, false, refl, sym, arith}
use Rattle.std.specs.Prelude.{nat_lt}
use Rattle.std.proofs.lemmas.Bool.{lt-ltb}
use Rattle.std.proofs.lemmas.Nat.{div-mul-add}
use Rattle.fx_nodes.specs.Effects.{fade_gain}
use Rattle.fx_nodes.specs.Slopes.{IsMark}
use Rattle.fx_nodes.specs.declared.slope.Mark.{Mark}

not_below : (a b : ℕ) → b ≤ a → nat_lt a b ≡ false
not_below a b high = grind (arith, high)

pub gain_before : (from to first last t : ℕ) → t < from → fade_gain from to first last t ≡ first
unfolding fade_gain
gain_before from to first last t early = rw (lt-ltb t from early) refl

pub gain_after : (from to first last t : ℕ) → from < to → to ≤ t → fade_gain from to first last t ≡ last
unfolding fade_gain
gain_after from to first last t order late = rw (not_below t from (omega (arith, order, late)), not_below t to late) refl

pub gain_between : (from to first last t : ℕ) → from ≤ t → t < to → fade_gain from to first last t ≡ (first * (to - t) + last * (t - from)) / (to - from)
unfolding fade_gain
gain_between from to first last t begun on = rw (not_below t from begun, lt-ltb t to on) refl

pub gain_marked : (from to first last t at : ℕ) (mark : Mark) → from ≤ t → t < to → at ≡ t - from → IsMark first last (to - from) at mark → fade_gain from to first last t ≡ mark.gain
gain_marked from to first last t at mark begun on is marked =
    let rest : to - from - at ≡ to - t = omega (arith, begun, on, is) in
    let place : first * (to - t) + last * (t - from) ≡ mark.gain * (to - from) + mark.rest = rw (← rest, ← is) (sym marked.place) in
    gain_between from to first last t begun on ∙ rw place (div-mul-add mark.gain (to - from) mark.rest marked.rest)
