-- Numbers of nodes that rise along each attached bus.
use Rattle.std.specs.Prelude.{◌≡◌, ℕ, ◌+◌, ◌<◌, ◌≤◌, List, Some, All, slice_index, slice_set}
use Rattle.scene_model.specs.declared.bus.Bus.{Bus}

-- the bus leads from a node to one with a higher number, if it is attached
abbrev pub Rises : (ℕ → ℕ) → Bus → Type 0
Rises number b = (to : ℕ) → b.to ≡ Some to → number b.node < number to

abbrev pub AllRise : (ℕ → ℕ) → List Bus → Type 0
AllRise number buses = All (Rises number) buses

abbrev pub depth_at : List ℕ → ℕ → ℕ
depth_at depths n = slice_index depths n

abbrev pub AreAtMost : ℕ → List ℕ → Type 0
AreAtMost most depths = (n : ℕ) → depth_at depths n ≤ most

-- whatever numbers rise along these buses and were no less than the depths are no less than them still
abbrev pub StaysBelow : List Bus → List ℕ → List ℕ → Type 0
StaysBelow buses old new =
    (number : ℕ → ℕ) → AllRise number buses → ((n : ℕ) → depth_at old n ≤ number n) → (n : ℕ) → depth_at new n ≤ number n

-- no numbers that rise along these buses are less than the depths anywhere
abbrev pub AreLeast : List Bus → List ℕ → Type 0
AreLeast buses depths = (number : ℕ → ℕ) → AllRise number buses → (n : ℕ) → depth_at depths n ≤ number n

-- the bus's target was no deeper than its node, and is now the next deeper
pub record IsDeeper (b : Bus) (old new : List ℕ) : Type 0 where
  pub to : ℕ
  pub to_is : b.to ≡ Some to
  pub was : depth_at old to ≤ depth_at old b.node
  pub new_is : new ≡ slice_set old to (depth_at old b.node + 1)
