-- Marks on nodes, while those that can be reached are looked for.
use Rattle.std.specs.Prelude.{◌≡◌, ◌<◌, ℕ, Bool, true, false, not, List, length, Some, All, count_by, slice_index_or, slice_set}
use Rattle.scene_model.specs.declared.bus.Bus.{Bus}
use Rattle.scene_model.specs.Reach.{reaches}

abbrev pub mark : List Bool → ℕ → Bool
mark marks n = slice_index_or marks n false

abbrev pub unmarked : List Bool → ℕ
unmarked marks = count_by not marks

-- each mark stays
abbrev pub AreKept : List Bool → List Bool → Type 0
AreKept old new = (n : ℕ) → mark old n ≡ true → mark new n ≡ true

-- each marked node can be reached from that node
abbrev pub AreReached : List Bus → ℕ → List Bool → Type 0
AreReached buses from marks = (n : ℕ) → mark marks n ≡ true → reaches buses from n ≡ true

-- the bus isn't attached, or its node isn't marked, or its target is
abbrev pub IsSettledAt : List Bool → Bus → Type 0
IsSettledAt marks b = (to : ℕ) → b.to ≡ Some to → mark marks b.node ≡ true → mark marks to ≡ true

abbrev pub AreSettled : List Bus → List Bool → Type 0
AreSettled buses marks = All (IsSettledAt marks) buses

-- the bus leads from a marked node to one that wasn't, and now is
pub record IsMarkedAt (b : Bus) (old new : List Bool) : Type 0 where
  pub to : ℕ
  pub to_is : b.to ≡ Some to
  pub node_marked : mark old b.node ≡ true
  pub to_unmarked : mark old to ≡ false
  pub to_within : to < length old
  pub new_is : new ≡ slice_set old to true
