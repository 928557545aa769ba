-- The asks whose pages didn't come yet.
use Rattle.std.specs.Prelude.{◌≡◌, ℕ, ◌+◌, ◌<◌, ◌≤◌, List, [], ◌∷◌}
use Rattle.std.specs.Coded.{×_prop, →_prop, Coded-set, coded_ℕ}

-- of asks, each a round and a number, those of the present round count from the place up to the page that is asked for
-- next; the others are of earlier rounds
abbrev pub IsDue : ℕ → ℕ → ℕ → List (ℕ × ℕ) → Type 0
IsDue round place next [] = place ≡ next
IsDue round place next (k ∷ ks) =
    (k.0 < round → IsDue round place next ks)
    × (round ≤ k.0 → (k.0 ≡ round) × ((k.1 ≡ place) × IsDue round (place + 1) next ks))

pub IsDue-prop : (round place next : ℕ) (ks : List (ℕ × ℕ)) → IsProp (IsDue round place next ks)
IsDue-prop round place next [] = Coded-set coded_ℕ _ _
IsDue-prop round place next (k ∷ ks) =
    ×_prop (→_prop (IsDue-prop round place next ks))
    (→_prop (×_prop (Coded-set coded_ℕ _ _) (×_prop (Coded-set coded_ℕ _ _) (IsDue-prop round (place + 1) next ks))))

-- the first page of the present round, of pages that come in this order, is the one at the place
abbrev pub ComesFirst : ℕ → ℕ → List (ℕ × ℕ) → Type 0
ComesFirst round place [] = Unit {0}
ComesFirst round place (k ∷ ks) =
    (k.0 < round → ComesFirst round place ks) × (round ≤ k.0 → (k.0 ≡ round) × (k.1 ≡ place))
