-- Draws that go on from a state.
use Rattle.std.specs.Prelude.{◌≡◌, ℕ, zero, suc, ◌+◌, refl}
use Rattle.std.proofs.Common.{ap, arith}
use Rattle.gen_scene.specs.Draws.{stepped, state}

-- the draws go on from any state
pub state-resumed : (number n m : ℕ) → state (state number n) m ≡ state number (n + m)
unfolding state
state-resumed number n zero = let e : n + 0 ≡ n = omega arith in rw e refl
state-resumed number n (suc m) = let e : n + suc m ≡ suc (n + m) = omega arith in rw e (ap stepped (state-resumed number n m))

pub state-start : (number : ℕ) → state number 0 ≡ number
unfolding state
state-start number = refl

pub state-step : (number n : ℕ) → state number (n + 1) ≡ stepped (state number n)
unfolding state
state-step number n = let e : n + 1 ≡ suc n = omega arith in rw e refl

pub state-next : (number n : ℕ) → stepped (state number n) ≡ state number (n + 1)
unfolding state
state-next number n = let e : n + 1 ≡ suc n = omega arith in rw e refl
