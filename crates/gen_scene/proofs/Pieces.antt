-- A text that is written piece by piece.
use Rattle.std.proofs.Common.{◌≡◌, ℕ, ◌+◌, zero, suc, List, ◌++◌, refl, sym, ◌∙◌, ap, append_assoc, append-nil, zero-add, arith}
use Rattle.std.specs.List.{flat_map, range_with_len}
use Rattle.std.specs.Prelude.{◌*◌}
use Rattle.gen_scene.specs.Script.{rows}
use Rattle.gen_scene.specs.Draws.{state, stepped, drawn, draw}
use Rattle.gen_scene.proofs.DrawLemmas.{state-start, state-step}

flat_more : (f : ℕ → List ℕ) (a n : ℕ) → flat_map f (range_with_len a (n + 1)) ≡ flat_map f (range_with_len a n) ++ f (a + n)
flat_more f a zero = let e : a + 0 ≡ a = omega arith in rw e (append-nil (f a))
flat_more f a (suc n) =
    let one : suc n + 1 ≡ suc (n + 1) = omega arith in
    let place : a + suc n ≡ a + 1 + n = omega arith in
    rw (one, place) (ap (λ xs. f a ++ xs) (flat_more f (a + 1) n) ∙ sym (append_assoc (f a) (flat_map f (range_with_len (a + 1) n)) (f (a + 1 + n))))

-- one more piece
pub text_more : (f : ℕ → List ℕ) (old now new : List ℕ) (n : ℕ) → now ≡ old ++ rows n f → new ≡ now ++ f n → new ≡ old ++ rows (n + 1) f
unfolding rows
text_more f old now new n before is =
    let more = flat_more f 0 n ∙ ap (λ k. flat_map f (range_with_len 0 n) ++ f k) (zero-add n) in
    is ∙ ap (λ xs. xs ++ f n) before ∙ append_assoc old (flat_map f (range_with_len 0 n)) (f n) ∙ ap (λ xs. old ++ xs) (sym more)

-- and after one
pub text_joined : (old first middle second new : List ℕ) → middle ≡ old ++ first → new ≡ middle ++ second → new ≡ old ++ (first ++ second)
text_joined old first middle second new one two = two ∙ ap (λ xs. xs ++ second) one ∙ append_assoc old first second

-- three draws further on
pub three_steps : (start e a : ℕ) → a ≡ state start (3 * e) → stepped (stepped (stepped a)) ≡ state start (3 * (e + 1))
three_steps start e a is =
    let third : 3 * (e + 1) ≡ 3 * e + 1 + 1 + 1 = omega arith in
    rw (is, third, state-step start (3 * e + 1 + 1), state-step start (3 * e + 1), state-step start (3 * e)) refl

-- the three draws from a state on
pub first_draw_is : (start a x : ℕ) → a ≡ stepped start → x ≡ drawn a → x ≡ draw start 0
first_draw_is start a x one is = is ∙ ap drawn one ∙ ap (λ s. drawn (stepped s)) (sym (state-start start))

pub second_draw_is : (start a b x : ℕ) → a ≡ stepped start → b ≡ stepped a → x ≡ drawn b → x ≡ draw start 1
second_draw_is start a b x one two is =
    is ∙ ap drawn two ∙ ap (λ s. drawn (stepped s)) (one ∙ ap stepped (sym (state-start start)) ∙ sym (state-step start 0))

pub third_draw_is : (start a b c x : ℕ) → a ≡ stepped start → b ≡ stepped a → c ≡ stepped b → x ≡ drawn c → x ≡ draw start 2
third_draw_is start a b c x one two three is =
    is ∙ ap drawn three
    ∙ ap (λ s. drawn (stepped s)) (two ∙ ap stepped (one ∙ ap stepped (sym (state-start start)) ∙ sym (state-step start 0)) ∙ sym (state-step start 1))

-- no row yet
pub text_start : (f : ℕ → List ℕ) (old : List ℕ) → old ≡ old ++ rows 0 f
unfolding rows
text_start f old = sym (append-nil old)

-- all pieces, one after the other
pub all_pieces : (top a b c d e f one two three four : List ℕ) → one ≡ top ++ a → two ≡ one ++ (b ++ c) → three ≡ two ++ (d ++ e) → four ≡ three ++ f
    → four ≡ top ++ a ++ b ++ c ++ d ++ e ++ f
all_pieces top a b c d e f one two three four i j k l = rw (l, k, j, i) (simp append_assoc)
