-- The rule holds at the start.
use Rattle.std.proofs.Common.{◌≡◌, ℕ, zero, suc, ◌+◌, ◌*◌, ◌<◌, ◌≤◌, true, false, true≢false, List, [], ◌∷◌, ◌++◌, length, get_or, refl, sym, ap, ◌∙◌, subst, arith, length-append}
use Rattle.std.proofs.lemmas.List.{length-replicate}
use Rattle.std.specs.Prelude.{replicate}
use mathlib.Core.Option.{none, some, some-injective, some-ne-none}
use lib.ListN.{get_elem?}
use Rattle.atomic_table.specs.Table.{opening}
use Rattle.live_board.specs.declared.view.Opening.{Opening}
use Rattle.live_board.specs.declared.view.View.{View}
use Rattle.live_board.specs.Rule.{Kept, HasParts, opener, lock_at, mix_at, fresh, told_at, booked_at}

front : (xs ys : List ℕ) (i : ℕ) → i < length xs → get_or (xs ++ ys) i 0 ≡ get_or xs i 0
front [] ys i b = absurd (omega arith)
front (x ∷ xs) ys zero b = refl
front (x ∷ xs) ys (suc i) b = front xs ys i (omega arith)

zeros : (n j : ℕ) → get_or {A = ℕ} (replicate n 0) j 0 ≡ 0
zeros zero j = refl
zeros (suc n) zero = refl
zeros (suc n) (suc j) = zeros n j

past : (xs : List ℕ) (n j : ℕ) → length xs ≤ j → get_or (xs ++ replicate n 0) j 0 ≡ 0
past [] n j b = zeros n j
past (x ∷ xs) n zero b = absurd (omega arith)
past (x ∷ xs) n (suc j) b = past xs n j (omega arith)

at_suc : (x : ℕ) (xs : List ℕ) (i j : ℕ) → j ≡ suc i → get_or (x ∷ xs) j 0 ≡ get_or xs i 0
at_suc x xs i j e = ap (λ (k : ℕ). get_or (x ∷ xs) k 0) e

off : false ≡ true → ⊥
off e = true≢false (sym e)

pub opens : (k : Opening) → ((i : ℕ) → i < length k.dials.items → get_or k.dials.items i 0 ≤ get_or k.most.items i 0) → Kept k (opening (0 ∷ (k.dials.items ++ replicate (2 * k.hands) 0)) [] (opener k))
opens k fit = record {
  lock = 0;
  mixer = 0;
  owner = λ e. none;
  d = lock_at k.dials.items;
  m = mix_at k.most.items;
  h = fresh;
  words_are = omega (arith, length-append k.dials.items (replicate (2 * k.hands) 0), length-replicate {A = ℕ} (2 * k.hands) 0);
  opening_is = refl;
  most_is = refl;
  core = record {
    board = record {
      dials = λ i b. at_suc 0 _ i (i + 1) (omega arith) ∙ front k.dials.items (replicate (2 * k.hands) 0) i b;
      count = omega arith;
      in_range = λ i b. subst (λ (x : ℕ). x ≤ get_or k.most.items i 0) (sym (at_suc 0 _ i (i + 1) (omega arith) ∙ front k.dials.items (replicate (2 * k.hands) 0) i b)) (fit i b);
    };
    mix = record { readings = tt; ended = omega arith; now = λ o. absurd (off o) };
    hands = λ e. record {
      told = at_suc 0 _ (length k.dials.items + 2 * e) (told_at (length k.dials.items) e) (omega arith) ∙ past k.dials.items (2 * k.hands) (length k.dials.items + 2 * e) (omega arith);
      booked = at_suc 0 _ (1 + length k.dials.items + 2 * e) (booked_at (length k.dials.items) e) (omega arith) ∙ past k.dials.items (2 * k.hands) (1 + length k.dials.items + 2 * e) (omega arith);
      small = omega arith;
      rest = [];
      rest_is = refl;
      one = omega arith;
      found_most = omega arith;
      heard = λ of long. absurd (omega arith);
    };
  };
  cast = one;
  later = λ e le. (refl, refl);
}
  where
    one : (i : ℕ) (v : View) → get_elem? (opener k ∷ []) i ≡ some v → HasParts 0 0 (λ e. none) (lock_at k.dials.items) (mix_at k.most.items) fresh i v
    one zero v e = subst (HasParts 0 0 (λ e. none) (lock_at k.dials.items) (mix_at k.most.items) fresh 0) (some-injective _ _ e) (record { locks = λ _. (refl, refl); mixes = λ _. (refl, refl); hands = λ g. absurd (off g) })
    one (suc i) v e = absurd (some-ne-none v (sym e))
