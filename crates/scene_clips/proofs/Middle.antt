-- A list of samples after its middle was written.
use Rattle.std.proofs.Common.{◌≡◌, ℕ, ◌+◌, ◌-◌, ◌<◌, ◌≤◌, ℤ, pos, List, ◌++◌, length, take, drop, refl, sym, ◌∙◌, ap, arith}
use Rattle.std.proofs.lemmas.List.{get_or_append_left, get_or-append_right, get_or-append-add, get_or-take, get_or-drop, length-take-le}
use borrow.Rule.Slice.PartMut.{put_mid, post_of}
use Rattle.mix_fixed.specs.Kernels.{at}

pub mid_below : (a k : ℕ) (xs ys : List ℤ) (j : ℕ) → a ≤ length xs → j < a → at (put_mid a k xs ys) j ≡ at xs j
mid_below a k xs ys j within below =
    get_or_append_left (take a xs) (ys ++ post_of a k xs) (pos 0) j (omega (arith, length-take-le a xs within, below)) ∙ get_or-take a xs j (pos 0) below

pub mid_inside : (a k : ℕ) (xs ys : List ℤ) (j : ℕ) → a ≤ length xs → j < length ys → at (put_mid a k xs ys) (a + j) ≡ at ys j
mid_inside a k xs ys j within inside =
    let front : length (take a xs) ≡ a = length-take-le a xs within in
    ap (λ x. at (put_mid a k xs ys) (x + j)) (sym front)
    ∙ get_or-append-add (take a xs) (ys ++ post_of a k xs) j (pos 0)
    ∙ get_or_append_left ys (post_of a k xs) (pos 0) j inside

pub mid_above : (a k : ℕ) (xs ys : List ℤ) (j : ℕ) → a ≤ length xs → length ys ≤ j → at (put_mid a k xs ys) (a + j) ≡ at xs (a + (k + (j - length ys)))
mid_above a k xs ys j within above =
    let front : length (take a xs) ≡ a = length-take-le a xs within in
    ap (λ x. at (put_mid a k xs ys) (x + j)) (sym front)
    ∙ get_or-append-add (take a xs) (ys ++ post_of a k xs) j (pos 0)
    ∙ get_or-append_right ys (post_of a k xs) (length ys) j (pos 0) refl above
    ∙ get_or-drop k (drop a xs) (j - length ys) (pos 0)
    ∙ get_or-drop a xs (k + (j - length ys)) (pos 0)
