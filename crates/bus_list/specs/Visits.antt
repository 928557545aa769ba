-- The history of a bus list, and when a visit is lawful in it.
use Rattle.std.specs.Prelude.{◌≡◌, ℕ, ◌+◌, ◌≤◌, Bool, true, false, cond, ◌==◌, List, [], ◌∷◌, map, length, take, Option, Some, None, is_some}
use Rattle.bus_list.specs.declared.history.Entry.{Entry}
use Rattle.bus_list.specs.declared.history.Entry.TheVariants.{On, Off}
use Rattle.bus_list.specs.declared.visit.Visit.{Visit}

-- Whether the number stands in the list.
abbrev pub has : ℕ → List ℕ → Bool
has b [] = false
has b (x ∷ xs) = cond (b == x) true (has b xs)

-- No number stands in the list twice.
abbrev pub Distinct : List ℕ → Type 0
Distinct [] = Unit {0}
Distinct (x ∷ xs) = (has x xs ≡ false) × Distinct xs

-- P holds of each element.
abbrev pub Each : {A : Type 0} → (A → Type 0) → List A → Type 0
Each P [] = Unit {0}
Each P (x ∷ xs) = P x × Each P xs

module _ {F : Type 0} where
  -- The feed of the bus b after an entry, where it was x before. `None` where the bus isn't attached.
  abbrev pub feed_changed : Entry F → ℕ → Option F → Option F
  feed_changed (On c f) b x = cond (b == c) (Some f) x
  feed_changed (Off c) b x = cond (b == c) None x

  -- The same after some entries.
  abbrev pub replayed : List (Entry F) → ℕ → Option F → Option F
  replayed [] b x = x
  replayed (e ∷ es) b x = replayed es b (feed_changed e b x)

  -- The feed of the bus b after the whole history.
  abbrev pub attached_feed : List (Entry F) → ℕ → Option F
  attached_feed h b = replayed h b None

  -- The feed of the bus b after the first m entries.
  abbrev pub attached_feed_after : List (Entry F) → ℕ → ℕ → Option F
  attached_feed_after h m b = attached_feed (take m h) b

  -- The buses of pairs of a bus and its feed.
  abbrev pub buses_of : List (ℕ × F) → List ℕ
  buses_of ps = map (λ p. p.0) ps

  -- The moment after m entries is in the window. The last entry may be made before it is counted, hence the 1.
  pub record Within (h : List (Entry F)) (from until m : ℕ) : Type 0 where
    pub low : from ≤ m
    pub high : m ≤ until + 1
    pub made : m ≤ length h

  -- The bus was attached with that feed at a moment of the window.
  abbrev pub Stood : List (Entry F) → ℕ → ℕ → ℕ × F → Type 0
  Stood h from until p = (m : ℕ) × Within h from until m × (attached_feed_after h m p.0 ≡ Some p.1)

  -- The bus was attached at each moment of the window.
  abbrev pub Always : List (Entry F) → ℕ → ℕ → ℕ → Type 0
  Always h from until b = (m : ℕ) → Within h from until m → is_some (attached_feed_after h m b) ≡ true

  -- The visit is lawful: it gave no bus twice and each as it stood at a moment of its window; and where it came to the end of the
  -- list, it gave each bus that was attached at each moment of its window.
  pub record Lawful (h : List (Entry F)) (v : Visit F) : Type 0 where
    pub order : v.from ≤ v.until
    pub within : v.until ≤ length h
    pub apart : Distinct (buses_of v.pairs)
    pub stood : Each (Stood h v.from v.until) v.pairs
    pub whole : v.whole ≡ true → (b : ℕ) → Always h v.from v.until b → has b (buses_of v.pairs) ≡ true

  -- Each visit is lawful, and begins no earlier than the one before ended: the first no earlier than `low`. The last ends no later than
  -- `high`.
  abbrev pub LawfulFrom : List (Entry F) → ℕ → List (Visit F) → ℕ → Type 0
  LawfulFrom h low [] high = low ≤ high
  LawfulFrom h low (v ∷ vs) high = (low ≤ v.from) × Lawful h v × LawfulFrom h v.until vs high
