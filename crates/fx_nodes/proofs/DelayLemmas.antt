-- A delay line, sample by sample.
use Rattle.std.proofs.Common.{◌≡◌, ◌≢◌, ◌⊎◌, inl, inr, ℕ, zero, suc, ◌+◌, ◌-◌, ◌*◌, ◌/◌, ◌%◌, ◌<◌, ◌≤◌, ◌∙◌, ℤ, pos, ◌+ℤ◌, List, length, get_or, set, replicate, ap, ap₂, sym, refl, arith}
use Rattle.std.proofs.lemmas.Bool.{cases_eq, cases_lt}
use Rattle.std.proofs.lemmas.List.{get_or-set_same, get_or-set_other, get_or-replicate}
use Rattle.std.proofs.Math.Nat.{mul-le-mul_right}
use Rattle.std.proofs.lemmas.Nat.{div-add-mod', div-mul-add, mod-mul-add, mod_below}
use Rattle.mix_fixed.specs.Sound.{sat24, scale}
use Rattle.fx_nodes.specs.Effects.{delayed_in, delayed}
use Rattle.fx_nodes.specs.Samples.{Holds}

-- a whole round later
pub mod_round : (s m : ℕ) → 0 < m → (s + m) % m ≡ s % m
mod_round s m some =
    let parts : s + m ≡ suc (s / m) * m + s % m = omega (arith, div-add-mod' s m) in
    rw parts (mod-mul-add (suc (s / m)) m (s % m) (mod_below s m some))

pub div_round : (s m : ℕ) → 0 < m → (s + m) / m ≡ suc (s / m)
div_round s m some =
    let parts : s + m ≡ suc (s / m) * m + s % m = omega (arith, div-add-mod' s m) in
    rw parts (div-mul-add (suc (s / m)) m (s % m) (mod_below s m some))

-- less than a round later
pub mod_apart : (s j m : ℕ) → 0 < j → j < m → (s + j) % m ≢ s % m
mod_apart s j m later less = by_wrap (cases_lt (s % m + j) m)
  where
    by_wrap : (s % m + j < m) ⊎ (m ≤ s % m + j) → (s + j) % m ≢ s % m
    by_wrap (inl low) same =
        let parts : s + j ≡ s / m * m + (s % m + j) = omega (arith, div-add-mod' s m) in
        let rest : (s + j) % m ≡ s % m + j = rw parts (mod-mul-add (s / m) m (s % m + j) low) in
        absurd (omega arith)
    by_wrap (inr high) same =
        let below : s % m < m = mod_below s m (omega arith) in
        let parts : s + j ≡ suc (s / m) * m + (s % m + j - m) = omega (arith, div-add-mod' s m) in
        let rest : (s + j) % m ≡ s % m + j - m = rw parts (mod-mul-add (suc (s / m)) m (s % m + j - m) (omega arith)) in
        absurd (omega arith)

-- nothing comes out of the line before its first sample has gone through it
pub delayed_silent : (f : ℕ → ℤ) (m d t : ℕ) → t < m → delayed f m d t ≡ pos 0
unfolding delayed delayed_in
delayed_silent f m d t early =
    let parts : t ≡ 0 * m + t = omega arith in
    let none : t / m ≡ 0 = rw parts (div-mul-add 0 m t early) in
    rw none refl

-- and a whole round later what went in and came out
pub delayed_fed : (f : ℕ → ℤ) (m d s : ℕ) → 0 < m → delayed f m d (s + m) ≡ sat24 (f s +ℤ scale (delayed f m d s) d)
unfolding delayed delayed_in
delayed_fed f m d s some =
    rw (div_round s m some, mod_round s m some) (ap (λ k. sat24 (f k +ℤ scale (delayed_in f m d (s / m) (s % m)) d)) (div-add-mod' s m))

-- what the ring gives now
pub ring_gives : (f : ℕ → ℤ) (m d s place : ℕ) (ring : List ℤ) → 0 < m → Holds f m d s place ring → get_or ring place (pos 0) ≡ delayed f m d s
ring_gives f m d s place ring some holds =
    let now : s + 0 ≡ s = omega arith in
    rw holds.stands (rw now at (holds.at 0 some))

-- one sample goes into the ring
pub ring_takes : (f : ℕ → ℤ) (m d s place : ℕ) (ring : List ℤ) (v : ℤ) → 0 < m → length ring ≡ m → Holds f m d s place ring
    → v ≡ sat24 (f s +ℤ scale (get_or ring place (pos 0)) d) → (k : ℕ) → k < m → get_or (set ring place v) ((s + 1 + k) % m) (pos 0) ≡ delayed f m d (s + 1 + k)
ring_takes f m d s place ring v some len holds is k below = by_last (cases_eq (suc k) m)
  where
    inside : place < length ring
    inside = omega (arith, holds.stands, mod_below s m some, len)

    by_last : (suc k ≡ m) ⊎ (suc k ≡ m → ⊥) → get_or (set ring place v) ((s + 1 + k) % m) (pos 0) ≡ delayed f m d (s + 1 + k)
    by_last (inl last) =
        let e : s + 1 + k ≡ s + m = omega arith in
        let here : (s + m) % m ≡ place = mod_round s m some ∙ sym holds.stands in
        rw (e, here) (get_or-set_same ring place v (pos 0) inside ∙ rw (ring_gives f m d s place ring some holds) at is ∙ sym (delayed_fed f m d s some))
    by_last (inr more) =
        let e : s + 1 + k ≡ s + suc k = omega arith in
        let less : suc k < m = omega arith in
        let apart : (s + suc k) % m ≢ place = λ same. mod_apart s (suc k) m (omega arith) less (same ∙ holds.stands) in
        rw e (get_or-set_other ring place ((s + suc k) % m) v (pos 0) apart ∙ holds.at (suc k) less)

-- the place of the next number
pub next_stands : (s place place' m : ℕ) → 0 < m → place ≡ s % m → place' ≡ (place + 1) % m → place' ≡ (s + 1) % m
next_stands s place place' m some at next = by_wrap (cases_lt (s % m + 1) m)
  where
    by_wrap : (s % m + 1 < m) ⊎ (m ≤ s % m + 1) → place' ≡ (s + 1) % m
    by_wrap (inl low) =
        let parts : s + 1 ≡ s / m * m + (s % m + 1) = omega (arith, div-add-mod' s m) in
        let one : place + 1 ≡ 0 * m + (s % m + 1) = omega arith in
        rw (next, one, mod-mul-add 0 m (s % m + 1) low, parts, mod-mul-add (s / m) m (s % m + 1) low) refl
    by_wrap (inr high) =
        let below : s % m < m = mod_below s m some in
        let parts : s + 1 ≡ suc (s / m) * m + 0 = omega (arith, div-add-mod' s m) in
        let one : place + 1 ≡ 1 * m + 0 = omega arith in
        rw (next, one, mod-mul-add 1 m 0 some, parts, mod-mul-add (suc (s / m)) m 0 some) refl

pub ring_steps : (f : ℕ → ℤ) (m d s place place' : ℕ) (ring ring' : List ℤ) (x back v : ℤ) → 0 < m → length ring ≡ m
    → place' ≡ (place + 1) % m → back ≡ get_or ring place (pos 0) → v ≡ sat24 (x +ℤ scale back d) → ring' ≡ set ring place v
    → Holds f m d s place ring → x ≡ f s → Holds f m d (s + 1) place' ring'
ring_steps f m d s place place' ring ring' x back v some len next b is new holds e =
    let v' : v ≡ sat24 (f s +ℤ scale (get_or ring place (pos 0)) d) = rw (← e, ← b) is in
    rw new (record {
      stands = next_stands s place place' m some holds.stands next;
      at = ring_takes f m d s place ring v some len holds v';
    })

-- a ring of zeros has taken nothing
pub ring_opens : (f : ℕ → ℤ) (m d : ℕ) (ring : List ℤ) → 0 < m → ring ≡ replicate m (pos 0) → Holds f m d 0 0 ring
ring_opens f m d ring some zeros = record {
  stands = let parts : 0 * m + 0 ≡ 0 = omega arith in sym (rw parts at (mod-mul-add 0 m 0 some));
  at = λ k below.
      let e : 0 + k ≡ k = omega arith in
      let parts : 0 * m + k ≡ k = omega arith in
      let same : k % m ≡ k = rw parts at (mod-mul-add 0 m k below) in
      rw (e, same, zeros) (get_or-replicate m k (pos 0) (pos 0) below ∙ sym (delayed_silent f m d k below));
}

pub line_gives : (f : ℕ → ℤ) (m d s place : ℕ) (ring : List ℤ) (x back out : ℤ) → 0 < m
    → back ≡ get_or ring place (pos 0) → out ≡ sat24 (x +ℤ back) → Holds f m d s place ring → x ≡ f s → out ≡ sat24 (f s +ℤ delayed f m d s)
line_gives f m d s place ring x back out some b is holds e = rw (b, e, ring_gives f m d s place ring some holds) at is

-- one more sample is written
pub writes_next : (g : ℕ → ℤ) (s i : ℕ) (xs : List ℤ) (v : ℤ) → i < length xs → v ≡ g (s + i) → ((k : ℕ) → k < i → get_or xs k (pos 0) ≡ g (s + k))
    → (k : ℕ) → k < i + 1 → get_or (set xs i v) k (pos 0) ≡ g (s + k)
writes_next g s i xs v inside is done k below = by_place (cases_eq k i)
  where
    by_place : (k ≡ i) ⊎ (k ≡ i → ⊥) → get_or (set xs i v) k (pos 0) ≡ g (s + k)
    by_place (inl here) = rw here (get_or-set_same xs i v (pos 0) inside ∙ is)
    by_place (inr other) = get_or-set_other xs i k v (pos 0) other ∙ done k (grind (arith, below, other))

-- what comes out by sample number s looks at no later sample
delayed_in_agrees : (f g : ℕ → ℤ) (m d q i : ℕ) → ((j : ℕ) → j < q → f (j * m + i) ≡ g (j * m + i)) → delayed_in f m d q i ≡ delayed_in g m d q i
unfolding delayed_in
delayed_in_agrees f g m d zero i same = refl
delayed_in_agrees f g m d (suc q) i same =
    ap₂ (λ x e. sat24 (x +ℤ scale e d)) (same q (omega arith)) (delayed_in_agrees f g m d q i (λ j below. same j (omega (arith, below))))

pub delayed_agrees : (f g : ℕ → ℤ) (m d t : ℕ) → ((j : ℕ) → j + m ≤ t → f j ≡ g j) → delayed f m d t ≡ delayed g m d t
unfolding delayed
delayed_agrees f g m d t same = delayed_in_agrees f g m d (t / m) (t % m) (λ j below. same (j * m + t % m) (room j below))
  where
    room : (j : ℕ) → j < t / m → j * m + t % m + m ≤ t
    room j below =
        let rounds : suc j * m ≤ t / m * m = mul-le-mul_right {m = suc j} {n = t / m} m (omega (arith, below)) in
        omega (arith, rounds, div-add-mod' t m)

pub holds_agrees : (f g : ℕ → ℤ) (m d s place : ℕ) (ring : List ℤ) → ((j : ℕ) → j < s → f j ≡ g j) → Holds f m d s place ring → Holds g m d s place ring
holds_agrees f g m d s place ring same holds = record {
  stands = holds.stands;
  at = λ k below. holds.at k below ∙ delayed_agrees f g m d (s + k) (λ j early. same j (omega (arith, early, below)));
}

-- a delay of m stereo frames is one of 2 * m interleaved samples
channel_in : (f : ℕ → ℤ) (m d c q i : ℕ) → delayed_in f (2 * m) d q (2 * i + c) ≡ delayed_in (λ t. f (2 * t + c)) m d q i
unfolding delayed_in
channel_in f m d c zero i = refl
channel_in f m d c (suc q) i =
    let here : q * (2 * m) + (2 * i + c) ≡ 2 * (q * m + i) + c = omega arith in
    ap₂ (λ x e. sat24 (x +ℤ scale e d)) (ap f here) (channel_in f m d c q i)

pub delayed_channel : (f : ℕ → ℤ) (m d s : ℕ) → 0 < m → delayed f (2 * m) d s ≡ delayed (λ t. f (2 * t + s % 2)) m d (s / 2)
unfolding delayed
delayed_channel f m d s some =
    let t = s / 2 in
    let small : t % m < m = mod_below t m some in
    let c : s % 2 < 2 = mod_below s 2 (omega arith) in
    let parts : s ≡ t / m * (2 * m) + (2 * (t % m) + s % 2) = omega (arith, div-add-mod' s 2, div-add-mod' t m) in
    let below : 2 * (t % m) + s % 2 < 2 * m = omega (arith, small, c) in
    let q : s / (2 * m) ≡ t / m = ap (λ n. n / (2 * m)) parts ∙ div-mul-add (t / m) (2 * m) (2 * (t % m) + s % 2) below in
    let r : s % (2 * m) ≡ 2 * (t % m) + s % 2 = ap (λ n. n % (2 * m)) parts ∙ mod-mul-add (t / m) (2 * m) (2 * (t % m) + s % 2) below in
    rw (q, r) (channel_in f m d (s % 2) (t / m) (t % m))
