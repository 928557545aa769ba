-- Values of nodes, where a rule says each node's value by the values of others.
use Rattle.std.specs.Prelude.{◌≡◌, ℕ, zero, suc, Bool, true}

-- The values after a number of iterations of the rule, from a start that each node has at first. An iteration gives each
-- node its value by the values that the one before it gave.
unfoldable pub iterate : {A : Type 0} → ((ℕ → A) → ℕ → A) → A → ℕ → ℕ → A
iterate rule start zero n = start
iterate rule start (suc count) n = rule (iterate rule start count) n

-- each value is what the rule says by these values: they solve the rule's equations
abbrev pub Solves : {A : Type 0} → ((ℕ → A) → ℕ → A) → (ℕ → A) → Type 0
Solves rule values = (n : ℕ) → values n ≡ rule values n

-- so it is at the nodes of a set
abbrev pub SolvesOn : {A : Type 0} → (ℕ → Bool) → ((ℕ → A) → ℕ → A) → (ℕ → A) → Type 0
SolvesOn inside rule values = (n : ℕ) → inside n ≡ true → values n ≡ rule values n
