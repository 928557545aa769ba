-- A rule that looks only at nodes of a lower rank: enough iterations of it solve its equations, and nothing else does.
use Rattle.std.proofs.Common.{◌≡◌, ℕ, zero, suc, ◌<◌, ◌≤◌, refl, ◌∙◌, arith}
use Rattle.mix_model.specs.Iteration.{iterate, Solves}

pub record LooksDown {A : Type 0} (rank : ℕ → ℕ) (rule : (ℕ → A) → ℕ → A) : Type 0 where
  pub looks : (v w : ℕ → A) (n : ℕ) → ((m : ℕ) → rank m < rank n → v m ≡ w m) → rule v n ≡ rule w n

-- more iterations than a node's rank change nothing there
iterate-agree : {A : Type 0} (rank : ℕ → ℕ) (rule : (ℕ → A) → ℕ → A) (start : A) → LooksDown rank rule → (i j n : ℕ) → rank n < i → rank n < j → iterate rule start i n ≡ iterate rule start j n
unfolding iterate
iterate-agree rank rule start down zero j n p q = absurd (omega arith)
iterate-agree rank rule start down (suc i) zero n p q = absurd (omega arith)
iterate-agree rank rule start down (suc i) (suc j) n p q =
    down.looks (iterate rule start i) (iterate rule start j) n (λ m below. iterate-agree rank rule start down i j m (omega arith) (omega arith))

pub iterate-solves : {A : Type 0} (rank : ℕ → ℕ) (rule : (ℕ → A) → ℕ → A) (start : A) (most : ℕ) → LooksDown rank rule → ((n : ℕ) → rank n ≤ most) → Solves rule (iterate rule start (suc most))
unfolding iterate
iterate-solves rank rule start most down bounded n =
    let within : rank n ≤ most = bounded n in
    iterate-agree rank rule start down (suc most) (suc (suc most)) n (omega arith) (omega arith)

solves-iterate : {A : Type 0} (rank : ℕ → ℕ) (rule : (ℕ → A) → ℕ → A) (start : A) → LooksDown rank rule → (v : ℕ → A) → Solves rule v → (i n : ℕ) → rank n < i → v n ≡ iterate rule start i n
unfolding iterate
solves-iterate rank rule start down v solves zero n p = absurd (omega arith)
solves-iterate rank rule start down v solves (suc i) n p =
    solves n ∙ down.looks v (iterate rule start i) n (λ m below. solves-iterate rank rule start down v solves i m (omega arith))

pub iterate-only : {A : Type 0} (rank : ℕ → ℕ) (rule : (ℕ → A) → ℕ → A) (start : A) (most : ℕ) → LooksDown rank rule → ((n : ℕ) → rank n ≤ most) → (v : ℕ → A) → Solves rule v → (n : ℕ) → v n ≡ iterate rule start (suc most) n
iterate-only rank rule start most down bounded v solves n =
    let within : rank n ≤ most = bounded n in
    solves-iterate rank rule start down v solves (suc most) n (omega arith)

-- two rules that agree make the same
pub iterate-same : {A : Type 0} (rule other : (ℕ → A) → ℕ → A) (start : A) → ((v w : ℕ → A) → ((m : ℕ) → v m ≡ w m) → (n : ℕ) → rule v n ≡ other w n) → (i n : ℕ) → iterate rule start i n ≡ iterate other start i n
unfolding iterate
iterate-same rule other start agree zero n = refl
iterate-same rule other start agree (suc i) n =
    agree (iterate rule start i) (iterate other start i) (iterate-same rule other start agree i) n
