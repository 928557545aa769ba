-- The keys of a map of the program beside the members that contracts see.
use Rattle.std.proofs.Common.{◌≡◌, ℕ, List, [], ◌∷◌, map, find, not, cond, length, suc, ◌+◌, option_map, Bool, true, false, String, Global, Bor, Option, None, Some, refl, ap, string_bytes, ◌||◌}
use Rattle.std.specs.List.{list_all, list_any, position, prefix_len}
use Rattle.std.specs.Map.{keys_of}
use Rattle.std.specs.Str.{bytes_eq}
use Rattle.toml.specs.declared.value.Value.{Value}
use Rattle.toml.specs.View.{members_view}
use Rattle.scene_script.specs.Fields.{has_only_keys, member_keys}

-- what is known, seen through its references
pub any_known : (key : List ℕ) (known : List (Bor (List ℕ))) → list_any (λ k. bytes_eq k.now key) known ≡ list_any (λ k. bytes_eq k key) (map (λ k. k.now) known)
any_known key [] = refl
any_known key (k ∷ known) = ap (λ b. bytes_eq k.now key || b) (any_known key known)

-- the keys of a map's entries are the keys of its members
pub keys_among : (known : List (Bor (List ℕ))) (entries : List (String Global × Value)) → list_all (λ key. list_any (λ k. bytes_eq k.now (string_bytes key)) known) (keys_of entries) ≡ has_only_keys (map (λ k. k.now) known) (members_view entries)
keys_among known [] = refl
keys_among known (e ∷ entries) = rw (any_known (string_bytes e.0) known, keys_among known entries) refl

-- the first element that passes, seen through a function
pub find_seen : {A B : Type 0} (f : A → B) (p : B → Bool) (xs : List A) → option_map f (find (λ x. p (f x)) xs) ≡ find p (map f xs)
find_seen f p [] = refl
find_seen f p (x ∷ xs) = by_test (p (f x)) (find_seen f p xs)
  where
    by_test : (b : Bool) → option_map f (find (λ x. p (f x)) xs) ≡ find p (map f xs) → option_map f (cond b (Some x) (find (λ x. p (f x)) xs)) ≡ cond b (Some (f x)) (find p (map f xs))
    by_test true rest = refl
    by_test false rest = rest

-- a value seen through two functions, one after the other
pub seen_twice : {A B C : Type 0} (f : A → B) (g : B → C) (x : Option A) → option_map (λ a. g (f a)) x ≡ option_map g (option_map f x)
seen_twice f g None = refl
seen_twice f g (Some a) = refl

-- one of the keys that are known, as the program and as contracts see them
abbrev is_new : List (Bor (List ℕ)) → String Global → Bool
is_new known key = not (list_any (λ k. bytes_eq k.now (string_bytes key)) known)

abbrev is_new_key : List (List ℕ) → List ℕ → Bool
is_new_key known key = not (list_any (λ k. bytes_eq k key) known)

-- the first key of a map's entries that isn't known is that of its members
pub unknown_among : (known : List (Bor (List ℕ))) (entries : List (String Global × Value)) → option_map string_bytes (find (λ key. not (list_any (λ k. bytes_eq k.now (string_bytes key)) known)) (keys_of entries)) ≡ find (λ key. not (list_any (λ k. bytes_eq k key) (map (λ k. k.now) known))) (member_keys (members_view entries))
unknown_among known [] = refl
unknown_among known (e ∷ entries) = rw (any_known (string_bytes e.0) known) (by_test (is_new_key (map (λ k. k.now) known) (string_bytes e.0)) (unknown_among known entries))
  where
    by_test : (b : Bool) → option_map string_bytes (find (is_new known) (keys_of entries)) ≡ find (is_new_key (map (λ k. k.now) known)) (member_keys (members_view entries)) → option_map string_bytes (cond b (Some e.0) (find (is_new known) (keys_of entries))) ≡ cond b (Some (string_bytes e.0)) (find (is_new_key (map (λ k. k.now) known)) (member_keys (members_view entries)))
    by_test true rest = refl
    by_test false rest = rest

-- what any element and the place of the first one are, seen through a function
pub any_seen : {A B : Type 0} (f : A → B) (p : B → Bool) (xs : List A) → list_any (λ x. p (f x)) xs ≡ list_any p (map f xs)
any_seen f p [] = refl
any_seen f p (x ∷ xs) = ap (λ b. p (f x) || b) (any_seen f p xs)

prefix_seen : {A B : Type 0} (f : A → B) (p : B → Bool) (xs : List A) → prefix_len (λ x. p (f x)) xs ≡ prefix_len p (map f xs)
prefix_seen f p [] = refl
prefix_seen f p (x ∷ xs) = ap (λ n. cond (p (f x)) (1 + n) 0) (prefix_seen f p xs)

length_seen : {A B : Type 0} (f : A → B) (xs : List A) → length xs ≡ length (map f xs)
length_seen f [] = refl
length_seen f (x ∷ xs) = ap suc (length_seen f xs)

pub position_seen : {A B : Type 0} (f : A → B) (p : B → Bool) (xs : List A) → position (λ x. p (f x)) xs ≡ position p (map f xs)
position_seen f p xs = rw (prefix_seen f (λ y. not (p y)) xs, length_seen f xs) refl
