-- A decoder's states, code by code.
use Rattle.std.proofs.Common.{◌≡◌, ℕ, zero, suc, ◌+◌, ◌≤◌, ◌∙◌, List, [], ◌∷◌, length, map, get_or, pos, refl, ap, sym, arith, add-one, add-zero, zero-add, add_assoc}
use Rattle.std.specs.List.{range_with_len}
use Rattle.std.proofs.Math.Nat.{add-suc}
use Rattle.std.proofs.lemmas.List.{ext_get_or}
use Rattle.std.proofs.lemmas.List.FromFn.{length-map-range_with_len, get_or-map-range_with_len}
use Rattle.ima_adpcm.specs.Decoder.{State, after, predictors}
use Rattle.ima_adpcm.specs.Blocks.{state_after, code_at, header, block_state, block_sample, first_codes}

pub state_after-none : (bytes : List ℕ) (ch c from : ℕ) (s : State) → state_after bytes ch c from s 0 ≡ s
unfolding state_after
state_after-none bytes ch c from s = refl

pub state_after-more : (bytes : List ℕ) (ch c from : ℕ) (s : State) (n : ℕ)
    → state_after bytes ch c from s (n + 1) ≡ after (state_after bytes ch c from s n) (code_at bytes ch c (from + n))
unfolding state_after
state_after-more bytes ch c from s n = rw add-one refl

-- a run of m + n codes is a run of m codes and then one of n
pub state_after-add : (bytes : List ℕ) (ch c from : ℕ) (s : State) (m n : ℕ)
    → state_after bytes ch c (from + m) (state_after bytes ch c from s m) n ≡ state_after bytes ch c from s (m + n)
unfolding state_after
state_after-add bytes ch c from s m zero = rw add-zero refl
state_after-add bytes ch c from s m (suc n) =
    rw (add-suc m n, state_after-add bytes ch c from s m n, add_assoc from m n) refl

pub block_state-add : (bytes : List ℕ) (ch c f n : ℕ)
    → state_after bytes ch c f (block_state bytes ch c f) n ≡ block_state bytes ch c (f + n)
unfolding block_state
block_state-add bytes ch c f n =
    ap (λ from. state_after bytes ch c from (state_after bytes ch c 0 (header bytes c) f) n) (sym (zero-add f))
    ∙ state_after-add bytes ch c 0 (header bytes c) f n

-- a run's first code taken off
state_after-front : (bytes : List ℕ) (ch c from : ℕ) (s : State) (n : ℕ)
    → state_after bytes ch c (from + 1) (after s (code_at bytes ch c from)) n ≡ state_after bytes ch c from s (suc n)
unfolding state_after
state_after-front bytes ch c from s zero = rw add-zero refl
state_after-front bytes ch c from s (suc n) =
    let next : from + 1 + n ≡ from + suc n = omega arith in
    rw (state_after-front bytes ch c from s n, next) refl

-- the f-th predictor of a run
predictors-at : (bytes : List ℕ) (ch c from : ℕ) (s : State) (n f : ℕ) → f ≤ n
    → get_or (predictors s (map (code_at bytes ch c) (range_with_len from n))) f (pos 0)
    ≡ (state_after bytes ch c from s f).predictor
unfolding predictors state_after
predictors-at bytes ch c from s zero zero le = refl
predictors-at bytes ch c from s zero (suc f) le = absurd (omega arith)
predictors-at bytes ch c from s (suc n) zero le = refl
predictors-at bytes ch c from s (suc n) (suc f) le =
    predictors-at bytes ch c (from + 1) (after s (code_at bytes ch c from)) n f (omega arith)
    ∙ ap (λ (t : State). t.predictor) (state_after-front bytes ch c from s f)

length-predictors : (s : State) (codes : List ℕ) → length (predictors s codes) ≡ length codes + 1
unfolding predictors
length-predictors s [] = refl
length-predictors s (code ∷ codes) = ap suc (length-predictors (after s code) codes) ∙ omega arith

pub predictors-block : (bytes : List ℕ) (ch c n : ℕ)
    → predictors (header bytes c) (first_codes bytes ch c n) ≡ map (block_sample bytes ch c) (range_with_len 0 (n + 1))
unfolding block_state
predictors-block bytes ch c n =
    let count : length (predictors (header bytes c) (first_codes bytes ch c n)) ≡ n + 1 =
    length-predictors (header bytes c) (first_codes bytes ch c n)
    ∙ ap (λ k. k + 1) (length-map-range_with_len (code_at bytes ch c) 0 n) in
    ext_get_or (pos 0) _ _ (count ∙ sym (length-map-range_with_len (block_sample bytes ch c) 0 (n + 1)))
    (λ f lt.
    predictors-at bytes ch c 0 (header bytes c) n f (omega (arith, count))
    ∙ sym (get_or-map-range_with_len (block_sample bytes ch c) 0 (n + 1) f f (pos 0) (omega (arith, count)) (zero-add f)))
