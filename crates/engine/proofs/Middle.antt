-- A list of samples after its middle was written.
use Rattle.std.proofs.Common.{◌≡◌, ◌⊎◌, inl, inr, ℕ, ◌+◌, ◌-◌, ◌<◌, ◌≤◌, ℤ, pos, List, ◌++◌, length, take, drop, replicate, length-append, sym, ◌∙◌, ap, subst, arith}
use Rattle.std.proofs.lemmas.Bool.{cases_lt}
use Rattle.std.proofs.lemmas.Int.{ints}
use Rattle.std.proofs.lemmas.List.{get_or-drop, get_or-replicate, get_or-take, get_or_past, length-take, length-take-le, length-drop, length-replicate}
use borrow.Rule.Slice.PartMut.{put_mid, post_of}
use Rattle.mix_fixed.specs.Sound.{Is24}
use Rattle.scene_clips.proofs.Middle.{mid_below, mid_inside, mid_above}
use Rattle.mix_fixed.specs.Kernels.{at, AreSamples}

pub mid_samples : (a k : ℕ) (xs ys : List ℤ) → a + k ≤ length xs → length ys ≡ k → AreSamples xs → AreSamples ys → AreSamples (put_mid a k xs ys)
mid_samples a k xs ys within long olds news j below = elim (cases_lt j a) [
  | inl low ↦ subst Is24 (sym (mid_below a k xs ys j (omega (arith, within)) low)) (olds j (omega (arith, low, within)))
  | inr past ↦ elim (cases_lt (j - a) (length ys)) [
    | inl inside ↦ subst Is24 (sym (place past ∙ mid_inside a k xs ys (j - a) (omega (arith, within)) inside)) (news (j - a) inside)
    | inr above ↦ subst Is24 (sym (place past ∙ mid_above a k xs ys (j - a) (omega (arith, within)) above)) (olds (a + (k + ((j - a) - length ys))) (there past above))
  ]
]
  where
    place : a ≤ j → at (put_mid a k xs ys) j ≡ at (put_mid a k xs ys) (a + (j - a))
    place past = let e : j ≡ a + (j - a) = omega (arith, past) in ap (at (put_mid a k xs ys)) e

    whole : length (put_mid a k xs ys) ≡ length xs
    whole =
        let rest : length (post_of a k xs) ≡ length (drop a xs) - k = length-drop k (drop a xs) in
        let all : length (put_mid a k xs ys) ≡ length (take a xs) + length (ys ++ post_of a k xs) = length-append (take a xs) (ys ++ post_of a k xs) in
        omega (arith, all, length-append ys (post_of a k xs), length-take-le a xs (omega (arith, within)), rest, length-drop a xs, long, within)

    there : a ≤ j → length ys ≤ j - a → a + (k + ((j - a) - length ys)) < length xs
    there past above = omega (arith, past, above, long, below, whole)

-- as many samples as the middle has
pub mid_long : (a k : ℕ) (xs ys : List ℤ) → a + k ≤ length xs → length ys ≡ length (take k (drop a xs)) → length ys ≡ k
mid_long a k xs ys within same = same ∙ length-take-le k (drop a xs) (omega (arith, length-drop a xs, within))

-- ---- silence

pub silent_at : (xs : List ℤ) (n j : ℕ) → xs ≡ replicate n (pos 0) → at xs j ≡ pos 0
silent_at xs n j is = ap (λ (ys : List ℤ). at ys j) is ∙ by_place (cases_lt j n)
  where
    by_place : (j < n) ⊎ (n ≤ j) → at (replicate n (pos 0)) j ≡ pos 0
    by_place (inl inside) = get_or-replicate n j (pos 0) (pos 0) inside
    by_place (inr past) = get_or_past (replicate n (pos 0)) j (pos 0) (omega (arith, past, length-replicate n (pos 0)))

pub silence_is_24 : Is24 (pos 0)
silence_is_24 = record { low = omega (arith, ints); high = omega (arith, ints) }

-- the middle itself
pub part_samples : (a k : ℕ) (xs : List ℤ) → AreSamples xs → AreSamples (take k (drop a xs))
part_samples a k xs are j below =
    let count = length-take k (drop a xs) in
    let rest = length-drop a xs in
    let short : j < k = omega (arith, below, count) in
    let inside : a + j < length xs = omega (arith, below, count, rest) in
    subst Is24 (sym (get_or-take k (drop a xs) j (pos 0) short ∙ get_or-drop a xs j (pos 0))) (are (a + j) inside)
