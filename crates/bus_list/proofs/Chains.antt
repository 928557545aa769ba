-- Lists of numbers, and paths along links.
use Rattle.std.proofs.Common.{◌≡◌, ◌≢◌, ◌⊎◌, ℕ, ◌≤◌, ◌<◌, Bool, true, false, ◌||◌, ◌==◌, List, [], ◌∷◌, ◌++◌, refl, sym, ap, ◌∙◌, subst, inl, inr, ⊎_elim, arith, true≢false}
use Rattle.std.proofs.lemmas.Bool.{eq-eqb, ne_eqb, eqb-true, cases_eq, cases_Bool, or_parts, or_cases, or_left, or_right}
use Rattle.bus_list.specs.Visits.{has, Distinct, Each}
use Rattle.bus_list.specs.Invariant.{updated, first_of, last_of, Path}

pub same : (b : ℕ) → (b == b) ≡ true
same b = eq-eqb b b refl

pub cases : {P : Type 0} (a b : ℕ) → (a ≡ b → P) → (a ≢ b → P) → P
cases a b f g = ⊎_elim f g (cases_eq a b)

pub bool_cases : {P : Type 0} (b : Bool) → (b ≡ true → P) → (b ≡ false → P) → P
bool_cases b f g = ⊎_elim f g (cases_Bool b)

pub updated_here : {A : Type 0} (f : ℕ → A) (c : ℕ) (v : A) (x : ℕ) → x ≡ c → updated f c v x ≡ v
updated_here f c v x e = rw (eq-eqb x c e) refl

pub updated_else : {A : Type 0} (f : ℕ → A) (c : ℕ) (v : A) (x : ℕ) → x ≢ c → updated f c v x ≡ f x
updated_else f c v x e = rw (ne_eqb x c e) refl

pub has_append : (b : ℕ) (xs ys : List ℕ) → has b (xs ++ ys) ≡ (has b xs || has b ys)
has_append b [] ys = refl
has_append b (x ∷ xs) ys = bool_cases (b == x) (λ e. rw e refl) (λ e. rw e (has_append b xs ys))

pub has_head : (x : ℕ) (xs : List ℕ) → has x (x ∷ xs) ≡ true
has_head x xs = rw (same x) refl

pub has_not : (b x : ℕ) (xs : List ℕ) → has b (x ∷ xs) ≡ false → (b ≢ x) × (has b xs ≡ false)
has_not b x xs h = bool_cases (b == x)
    (λ e. absurd (true≢false (rw e at h)))
    (λ e. ((λ k. true≢false (sym (eq-eqb b x k) ∙ e)), rw e at h))

pub has_cons : (b x : ℕ) (xs : List ℕ) → b ≢ x → has b (x ∷ xs) ≡ has b xs
has_cons b x xs n = rw (ne_eqb b x n) refl

pub not_append : (b : ℕ) (xs ys : List ℕ) → has b (xs ++ ys) ≡ false → (has b xs ≡ false) × (has b ys ≡ false)
not_append b xs ys h = or_parts (has b xs) (has b ys) (sym (has_append b xs ys) ∙ h)

-- The middle of a list with no number twice.
pub distinct_middle : (xs ys : List ℕ) (x : ℕ) → Distinct (xs ++ x ∷ ys) → (has x xs ≡ false) × (has x ys ≡ false)
distinct_middle [] ys x d = (refl, d.0)
distinct_middle (z ∷ xs) ys x d =
    let r = distinct_middle xs ys x d.1 in
    let n = not_append z xs (x ∷ ys) d.0 in
    let m = has_not z x ys n.1 in
    (has_cons x z xs (λ e. m.0 (sym e)) ∙ r.0, r.1)

pub distinct_cut : (xs ys : List ℕ) (x : ℕ) → Distinct (xs ++ x ∷ ys) → Distinct (xs ++ ys)
distinct_cut [] ys x d = d.1
distinct_cut (z ∷ xs) ys x d =
    let n = not_append z xs (x ∷ ys) d.0 in
    (has_append z xs ys ∙ (λ i. n.0 i || (has_not z x ys n.1).1 i), distinct_cut xs ys x d.1)

pub has_cut : (b : ℕ) (xs ys : List ℕ) (x : ℕ) → b ≢ x → has b (xs ++ ys) ≡ has b (xs ++ x ∷ ys)
has_cut b xs ys x n = has_append b xs ys ∙ (ap (λ r. has b xs || r) (sym (has_cons b x ys n)) ∙ sym (has_append b xs (x ∷ ys)))

pub each_cut : (P : ℕ → Type 0) (xs ys : List ℕ) (x : ℕ) → Each P (xs ++ x ∷ ys) → Each P (xs ++ ys)
each_cut P [] ys x e = e.1
each_cut P (z ∷ xs) ys x e = (e.0, each_cut P xs ys x e.1)

pub each_has : (P : ℕ → Type 0) (xs : List ℕ) (b : ℕ) → Each P xs → has b xs ≡ true → P b
each_has P [] b e h = absurd (true≢false (sym h))
each_has P (x ∷ xs) b e h = bool_cases (b == x)
    (λ q. subst P (sym (eqb-true b x q)) e.0)
    (λ q. each_has P xs b e.1 (rw q at h))

-- Two ways to cut one list.
pub append_split : (xs ys pre tail : List ℕ) (c : ℕ) → xs ++ c ∷ ys ≡ pre ++ tail
    → ((u : List ℕ) × (pre ≡ xs ++ c ∷ u) × (ys ≡ u ++ tail)) ⊎ ((u : List ℕ) × (tail ≡ u ++ c ∷ ys) × (xs ≡ pre ++ u))
append_split xs ys [] tail c e = inr (xs, sym e, refl)
append_split [] ys (p ∷ pre) tail c e =
    let a : c ≡ p = cc in
    let b : ys ≡ pre ++ tail = cc in
    inl (pre, (λ i. sym a i ∷ pre), b)
append_split (x ∷ xs) ys (p ∷ pre) tail c e =
    let a : x ≡ p = cc in
    let b : xs ++ c ∷ ys ≡ pre ++ tail = cc in
    ⊎_elim
    (λ (r : (u : List ℕ) × (pre ≡ xs ++ c ∷ u) × (ys ≡ u ++ tail)). inl (r.0, (λ i. sym a i ∷ r.1 i), r.2))
    (λ (r : (u : List ℕ) × (tail ≡ u ++ c ∷ ys) × (xs ≡ pre ++ u)). inr (r.0, r.1, (λ i. a i ∷ r.2 i)))
    (append_split xs ys pre tail c b)

pub last_of_append : (z : ℕ) (xs ys : List ℕ) → last_of z (xs ++ ys) ≡ last_of (last_of z xs) ys
last_of_append z [] ys = refl
last_of_append z (x ∷ xs) ys = last_of_append x xs ys

-- What follows the last bus of a beginning of the chain.
pub path_at : (N : ℕ) (link : ℕ → ℕ) (z : ℕ) (xs ys : List ℕ) → Path N link (link z) (xs ++ ys) → link (last_of z xs) ≡ first_of N ys
path_at N link z [] [] p = p
path_at N link z [] (y ∷ ys) p = p.0
path_at N link z (x ∷ xs) ys p = path_at N link x xs ys p.1

-- A store to a link outside of the chain.
pub path_updated : (N : ℕ) (link : ℕ → ℕ) (a : ℕ) (xs : List ℕ) (c v : ℕ) → has c xs ≡ false → Path N link a xs → Path N (updated link c v) a xs
path_updated N link a [] c v h p = p
path_updated N link a (x ∷ xs) c v h p =
    let n = has_not c x xs h in
    (p.0, subst (λ y. Path N (updated link c v) y xs) (sym (updated_else link c v x (λ e. n.0 (sym e)))) (path_updated N link (link x) xs c v n.1 p.1))

-- A bus at the front.
pub path_front : (N : ℕ) (link : ℕ → ℕ) (xs : List ℕ) (c : ℕ) → c ≢ N → has N (c ∷ xs) ≡ false → link c ≡ link N → Path N link (link N) xs → Path N (updated link N c) (updated link N c N) (c ∷ xs)
path_front N link xs c cn h e p =
    let n = has_not N c xs h in
    (updated_here link N c N refl, subst (λ y. Path N (updated link N c) y xs) (sym (updated_else link N c c cn ∙ e)) (path_updated N link (link N) xs N c n.1 p))

-- The predecessor's link leads past the bus.
path_past : (N : ℕ) (link : ℕ → ℕ) (z : ℕ) (xs ys : List ℕ) (c : ℕ) → Distinct (z ∷ xs ++ c ∷ ys) → Path N link (link z) (xs ++ c ∷ ys)
    → Path N (updated link (last_of z xs) (link c)) (updated link (last_of z xs) (link c) z) (xs ++ ys)
path_past N link z [] ys c d p =
    let n = has_not z c ys d.0 in
    subst (λ y. Path N (updated link z (link c)) y ys) (sym (updated_here link z (link c) z refl)) (path_updated N link (link c) ys z (link c) n.1 p.1)
path_past N link z (x ∷ xs) ys c d p =
    let q = path_past N link x xs ys c d.1 p.1 in
    let n : z ≢ last_of x xs = λ e. true≢false (sym (subst (λ y. has y (x ∷ xs) ≡ true) (sym e) (last_in x xs)) ∙ (not_append z (x ∷ xs) (c ∷ ys) d.0).0) in
    (updated_else link (last_of x xs) (link c) z n ∙ p.0, q)
  where
    last_in : (x : ℕ) (xs : List ℕ) → has (last_of x xs) (x ∷ xs) ≡ true
    last_in x [] = rw (same x) refl
    last_in x (y ∷ ys) = bool_cases (last_of y ys == x) (λ e. rw e refl) (λ e. rw e (last_in y ys))

pub path_unlink : (N : ℕ) (link : ℕ → ℕ) (xs ys : List ℕ) (c : ℕ) → has N (xs ++ c ∷ ys) ≡ false → Distinct (xs ++ c ∷ ys) → Path N link (link N) (xs ++ c ∷ ys)
    → Path N (updated link (last_of N xs) (link c)) (updated link (last_of N xs) (link c) N) (xs ++ ys)
path_unlink N link xs ys c h d p = path_past N link N xs ys c (h, d) p

pub path_first : (N : ℕ) (link : ℕ → ℕ) (a : ℕ) (xs : List ℕ) → Path N link a xs → a ≡ first_of N xs
path_first N link a [] p = p
path_first N link a (x ∷ xs) p = p.0

pub path_rest : (N : ℕ) (link : ℕ → ℕ) (a : ℕ) (xs ys : List ℕ) (c : ℕ) → Path N link a (xs ++ c ∷ ys) → Path N link (link c) ys
path_rest N link a [] ys c p = p.1
path_rest N link a (x ∷ xs) ys c p = path_rest N link (link x) xs ys c p.1

pub has_more : (b c : ℕ) (xs ys : List ℕ) → has b (xs ++ ys) ≡ true → has b (xs ++ c ∷ ys) ≡ true
has_more b c xs ys h = has_append b xs (c ∷ ys) ∙ ⊎_elim
    (λ (e : has b xs ≡ true). or_left (has b xs) (has b (c ∷ ys)) e)
    (λ (e : has b ys ≡ true). or_right (has b xs) (has b (c ∷ ys)) (bool_cases (b == c) (λ q. rw q refl) (λ q. rw q e)))
    (or_cases (has b xs) (has b ys) (sym (has_append b xs ys) ∙ h))

pub not_less : (b c : ℕ) (xs ys : List ℕ) → has b (xs ++ c ∷ ys) ≡ false → has b (xs ++ ys) ≡ false
not_less b c xs ys h = bool_cases (has b (xs ++ ys)) (λ e. absurd (true≢false (sym (has_more b c xs ys e) ∙ h))) (λ e. e)

-- The last is the dummy, or in the list.
pub last_not : (z c : ℕ) (xs : List ℕ) → z ≢ c → has c xs ≡ false → last_of z xs ≢ c
last_not z c [] n h = n
last_not z c (x ∷ xs) n h = let m = has_not c x xs h in last_not x c xs (λ e. m.0 (sym e)) m.1

pub distinct_snoc : (xs : List ℕ) (b : ℕ) → has b xs ≡ false → Distinct xs → Distinct (xs ++ b ∷ [])
distinct_snoc [] b h d = (refl, tt)
distinct_snoc (x ∷ xs) b h d =
    let n = has_not b x xs h in
    (has_append x xs (b ∷ []) ∙ (λ i. d.0 i || has_cons x b [] (λ e. n.0 (sym e)) i), distinct_snoc xs b n.1 d.1)

pub has_snoc : (b c : ℕ) (xs : List ℕ) → has b xs ≡ true → has b (xs ++ c ∷ []) ≡ true
has_snoc b c xs h = has_append b xs (c ∷ []) ∙ or_left (has b xs) (has b (c ∷ [])) h

pub has_end : (b c : ℕ) (xs : List ℕ) → b ≡ c → has b (xs ++ c ∷ []) ≡ true
has_end b c xs e = has_append b xs (c ∷ []) ∙ or_right (has b xs) (has b (c ∷ [])) (rw (eq-eqb b c e) refl)

pub has_snoc_cases : {P : Type 0} (b c : ℕ) (xs : List ℕ) → has b (xs ++ c ∷ []) ≡ true → (has b xs ≡ true → P) → (b ≡ c → P) → P
has_snoc_cases b c xs h f g = cases b c g (λ n. f (⊎_elim (λ a. a) (λ a. absurd (true≢false (sym a ∙ has_cons b c [] n))) (or_cases (has b xs) (has b (c ∷ [])) (sym (has_append b xs (c ∷ [])) ∙ h))))

pub last_le : (N z : ℕ) (xs ys : List ℕ) → z ≤ N → Each (λ b. b < N) (xs ++ ys) → last_of z xs ≤ N
last_le N z [] ys le e = le
last_le N z (x ∷ xs) ys le e = last_le N x xs ys (let a = e.0 in omega arith) e.1

-- A path along a copy of the links.
pub path_copy : (N : ℕ) (link copy : ℕ → ℕ) (a : ℕ) (xs : List ℕ) → ((b : ℕ) → b ≤ N → link b ≡ copy b) → Each (λ b. b < N) xs → Path N link a xs → Path N copy a xs
path_copy N link copy a [] same e p = p
path_copy N link copy a (x ∷ xs) same e p = (p.0, subst (λ y. Path N copy y xs) (same x (let z = e.0 in omega arith)) (path_copy N link copy (link x) xs same e.1 p.1))
