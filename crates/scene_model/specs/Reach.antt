-- Which nodes can be reached from a node along attached buses.
use Rattle.std.specs.Prelude.{◌≡◌, ℕ, Bool, false, ◌||◌, ◌&&◌, ◌==◌, List, [], ◌∷◌, Option, None, Some, Contains}
use Rattle.scene_model.specs.declared.bus.Bus.{Bus}

-- an attached bus of these leads from the one node to the next
pub record Leads (buses : List Bus) (from : ℕ) (b : Bus) (next : ℕ) : Type 0 where
  pub among : Contains buses b
  pub node_is : b.node ≡ from
  pub to_is : b.to ≡ Some next

-- The path is a list of attached buses of these that lead, one after the other, from the one node to the other. The empty
-- path leads from a node to itself.
abbrev pub Path : List Bus → ℕ → List Bus → ℕ → Type 0
Path buses from [] to = from ≡ to
Path buses from (b ∷ path) to = (next : ℕ) × Leads buses from b next × Path buses next path to

-- some path of attached buses leads there
abbrev pub Reaches : List Bus → ℕ → ℕ → Type 0
Reaches buses from to = (path : List Bus) × Path buses from path to

-- no node is reached from itself along one or more attached buses
abbrev pub HasNoCycle : List Bus → Type 0
HasNoCycle buses = (n : ℕ) (b : Bus) (path : List Bus) → ¬ Path buses n (b ∷ path) n

-- whether what a bus is attached to passes the test
abbrev pub target_passes : (ℕ → Bool) → Option ℕ → Bool
target_passes test None = false
target_passes test (Some to) = test to

-- The same as a test, bus by bus: the other node is reached without the first bus, or that bus is taken once: its node is
-- reached from the one node without it, and the other node from its target.
unfoldable pub reaches : List Bus → ℕ → ℕ → Bool
reaches [] from to = from == to
reaches (b ∷ buses) from to =
    reaches buses from to || (reaches buses from b.node && target_passes (λ next. reaches buses next to) b.to)
