-- The test of reachability says the same as a list of attached buses.
use Rattle.std.proofs.Common.{◌≡◌, ℕ, zero, suc, Bool, true, false, ◌||◌, ◌⊎◌, inl, inr, List, [], ◌∷◌, ◌++◌, Option, None, Some, refl, ◌∙◌, ap, arith, ◌↔◌, IsTrue}
use Rattle.std.specs.Prelude.{Contains}
use Rattle.std.proofs.lemmas.Bool.{or_cases, and_parts, and_from, false≢true, eqb-true, eq-eqb}
use Rattle.scene_model.specs.declared.bus.Bus.{Bus}
use Rattle.scene_model.specs.Reach.{Leads, Path, Reaches, target_passes, reaches}

or_left : (x y : Bool) → x ≡ true → (x || y) ≡ true
or_left x y e = rw e refl

or_right : (x y : Bool) → y ≡ true → (x || y) ≡ true
or_right true y e = refl
or_right false y e = e

-- what an attached bus leads to
passes_at : (p : ℕ → Bool) (o : Option ℕ) → target_passes p o ≡ true → (next : ℕ) × (o ≡ Some next) × (p next ≡ true)
passes_at p None e = absurd (false≢true e)
passes_at p (Some n) e = (n, refl, e)

passes_from : (p : ℕ → Bool) (o : Option ℕ) (next : ℕ) → o ≡ Some next → p next ≡ true → target_passes p o ≡ true
passes_from p o next e h = rw e h

-- an element of a list is its first or one of the rest
pub Contains_cases : {X : Type 0} (y : X) (xs : List X) (x : X) → Contains (y ∷ xs) x → (y ≡ x) ⊎ Contains xs x
Contains_cases y xs x (zero, _, e) = inl e
Contains_cases y xs x (suc k, h, e) = inr (k, omega arith, e)

pub Contains_first : {X : Type 0} (x : X) (xs : List X) → Contains (x ∷ xs) x
Contains_first x xs = (0, omega arith, refl)

pub Contains_later : {X : Type 0} (y : X) (xs : List X) (x : X) → Contains xs x → Contains (y ∷ xs) x
Contains_later y xs x (k, h, e) = (suc k, omega arith, e)

pub reaches_itself : (xs : List Bus) (n : ℕ) → reaches xs n n ≡ true
unfolding reaches
reaches_itself [] n = eq-eqb n n refl
reaches_itself (x ∷ xs) n = or_left _ _ (reaches_itself xs n)

-- the two ways in which a node is reached: without the first bus, or along it
along : (x : Bus) (xs : List Bus) (a b next : ℕ) → reaches xs a x.node ≡ true → x.to ≡ Some next → reaches xs next b ≡ true → reaches (x ∷ xs) a b ≡ true
unfolding reaches
along x xs a b next to_node e from_next =
    or_right (reaches xs a b) _ (and_from _ _ to_node (passes_from (λ n. reaches xs n b) x.to next e from_next))

without : (x : Bus) (xs : List Bus) (a b : ℕ) → reaches xs a b ≡ true → reaches (x ∷ xs) a b ≡ true
unfolding reaches
without x xs a b h = or_left _ _ h

record Along (x : Bus) (xs : List Bus) (a b : ℕ) : Type 0 where
  next : ℕ
  to_node : reaches xs a x.node ≡ true
  to_is : x.to ≡ Some next
  from_next : reaches xs next b ≡ true

two_ways : (x : Bus) (xs : List Bus) (a b : ℕ) → reaches (x ∷ xs) a b ≡ true → (reaches xs a b ≡ true) ⊎ Along x xs a b
unfolding reaches
two_ways x xs a b h =
    elim (or_cases (reaches xs a b) _ h) [
      | inl r ↦ inl r
      | inr r ↦
          let both = and_parts (reaches xs a x.node) _ r in
          let w = passes_at (λ n. reaches xs n b) x.to both.1 in
          inr (record { next = w.0; to_node = both.0; to_is = w.1; from_next = w.2 })
    ]

pub reaches_on : (xs : List Bus) (a b c : ℕ) → reaches xs a b ≡ true → reaches xs b c ≡ true → reaches xs a c ≡ true
reaches_on [] a b c p q =
    unfold reaches in eq-eqb a c (eqb-true a b p ∙ eqb-true b c q)
reaches_on (x ∷ xs) a b c p q =
    elim (two_ways x xs a b p) [
      | inl p' ↦ elim (two_ways x xs b c q) [
        | inl q' ↦ without x xs a c (reaches_on xs a b c p' q')
        | inr w ↦ along x xs a c w.next (reaches_on xs a b x.node p' w.to_node) w.to_is w.from_next
      ]
      | inr v ↦ elim (two_ways x xs b c q) [
        | inl q' ↦ along x xs a c v.next v.to_node v.to_is (reaches_on xs v.next b c v.from_next q')
        | inr w ↦ along x xs a c w.next v.to_node w.to_is w.from_next
      ]
    ]

pub reaches_next : (xs : List Bus) (b : Bus) (next : ℕ) → Contains xs b → b.to ≡ Some next → reaches xs b.node next ≡ true
reaches_next [] b next (k, h, _) e = absurd (omega arith)
reaches_next (x ∷ xs) b next h e =
    elim (Contains_cases x xs b h) [
      | inl same ↦ rw (← same) (along x xs x.node next next (reaches_itself xs x.node) (ap (λ (y : Bus). y.to) same ∙ e) (reaches_itself xs next))
      | inr later ↦ without x xs b.node next (reaches_next xs b next later e)
    ]

-- a list of attached buses passes the test
pub reaches_by : (buses path : List Bus) (a b : ℕ) → Path buses a path b → reaches buses a b ≡ true
reaches_by buses [] a b e = rw (← e) (reaches_itself buses a)
reaches_by buses (x ∷ path) a b (next, step, rest) =
    let one : reaches buses a next ≡ true = rw (← step.node_is) (reaches_next buses x next step.among step.to_is) in
    reaches_on buses a next b one (reaches_by buses path next b rest)

Path_on : (buses path more : List Bus) (a b c : ℕ) → Path buses a path b → Path buses b more c → Path buses a (path ++ more) c
Path_on buses [] more a b c e q = rw e q
Path_on buses (x ∷ path) more a b c (next, step, rest) q = (next, step, Path_on buses path more next b c rest q)

-- and what passes the test has such a list, in all buses of which these are some
path_from : (buses xs : List Bus) → ((x : Bus) → Contains xs x → Contains buses x) → (a b : ℕ) → reaches xs a b ≡ true → Reaches buses a b
path_from buses [] some a b h = unfold reaches in ([], eqb-true a b h)
path_from buses (x ∷ xs) some a b h =
    let rest : (y : Bus) → Contains xs y → Contains buses y = λ y h. some y (Contains_later x xs y h) in
    elim (two_ways x xs a b h) [
      | inl r ↦ path_from buses xs rest a b r
      | inr w ↦
          let p = path_from buses xs rest a x.node w.to_node in
          let q = path_from buses xs rest w.next b w.from_next in
          let step : Leads buses x.node x w.next = record { among = some x (Contains_first x xs); node_is = refl; to_is = w.to_is } in
          (p.0 ++ (x ∷ q.0), Path_on buses p.0 (x ∷ q.0) a x.node b p.1 (w.next, step, q.1))
    ]

pub reaches_is : (buses : List Bus) (a b : ℕ) → IsTrue (reaches buses a b) ↔ Reaches buses a b
reaches_is buses a b = (path_from buses buses (λ x h. h) a b, λ w. reaches_by buses w.0 a b w.1)
