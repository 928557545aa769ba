-- The asks whose pages didn't come yet, as they are made and served.
use Rattle.std.proofs.Common.{◌≡◌, ℕ, ◌+◌, ◌≤◌, ◌∙◌, List, [], ◌∷◌, ◌++◌, map, length, ap, sym, refl, take, drop, inl, inr, append_assoc, arith}
use Rattle.std.proofs.lemmas.Bool.{cases_lt}
use Rattle.std.proofs.lemmas.List.{map-append, length-map, take-append-le, take-append-drop, drop-append-le}
use Rattle.std.proofs.Math.Seq.{drop-append_seam, take-append_seam}
use Rattle.stream_reel.specs.Asks.{wanted_by, key_of}
use Rattle.stream_reel.specs.Due.{IsDue, ComesFirst}
use Rattle.stream_reel.specs.declared.buffer.Ask.{Ask}
use Rattle.stream_reel.specs.declared.buffer.Buffer.{Buffer}

-- one more page is asked for
due_grows : (round place next : ℕ) (ks : List (ℕ × ℕ)) → IsDue round place next ks → IsDue round place (next + 1) (ks ++ (round, next) ∷ [])
due_grows round place next [] due = ((λ older. absurd (omega (arith, older))), (λ not. (refl, (sym due, ap (λ n. n + 1) due))))
due_grows round place next (k ∷ ks) due = (
  (λ older. due_grows round place next ks (due.0 older)),
  (λ not. let d = due.1 not in (d.0, (d.1.0, due_grows round (place + 1) next ks d.1.1))),
)

-- a later round begins, and nothing is asked for in it yet
pub due_turned : (round place next number : ℕ) (ks : List (ℕ × ℕ)) → IsDue round place next ks → IsDue (round + 1) number number ks
due_turned round place next number [] due = refl
due_turned round place next number (k ∷ ks) due =
    let rest : (k.0 ≤ round) × IsDue (round + 1) number number ks = elim (cases_lt k.0 round) [
      | inl older ↦ (omega (arith, older), due_turned round place next number ks (due.0 older))
      | inr not ↦ let d = due.1 not in (omega (arith, d.0), due_turned round (place + 1) next number ks d.1.1)
    ] in
    ((λ older. rest.1), (λ not. absurd (omega (arith, rest.0, not))))

-- one more page is asked for, where no more came than were asked for
pub due_asked : (asks next_asks : List Ask) (came : List Buffer) (a : Ask) (round place next : ℕ) (rest : List (ℕ × ℕ))
    → next_asks ≡ asks ++ a ∷ [] → wanted_by a ≡ (round, next) → length came ≤ length asks
    → ((left : List (ℕ × ℕ)) → map wanted_by asks ≡ map key_of came ++ left → IsDue round place next left)
    → map wanted_by next_asks ≡ map key_of came ++ rest → IsDue round place (next + 1) rest
due_asked asks next_asks came a round place next rest grown wanted few due same =
    let xs = map wanted_by asks in
    let ys = map key_of came in
    let n = length ys in
    let inside : n ≤ length xs = omega (arith, few, length-map came key_of, length-map asks wanted_by) in
    let whole : xs ++ (round, next) ∷ [] ≡ ys ++ rest = rw (grown, map-append wanted_by asks (a ∷ []), wanted) at same in
    let tail : rest ≡ drop n xs ++ (round, next) ∷ [] =
    sym (drop-append_seam ys rest) ∙ ap (λ zs. drop n zs) (sym whole) ∙ drop-append-le n xs ((round, next) ∷ []) inside in
    let front : take n xs ≡ ys =
    sym (take-append-le n xs ((round, next) ∷ []) inside) ∙ ap (λ zs. take n zs) whole ∙ take-append_seam ys rest in
    let before : xs ≡ ys ++ drop n xs = sym (take-append-drop n xs) ∙ ap (λ zs. zs ++ drop n xs) front in
    rw tail (due_grows round place next (drop n xs) (due (drop n xs) before))

came_first : (asks : List Ask) (came next_came : List Buffer) (b : Buffer) (rest : List (ℕ × ℕ)) → next_came ≡ came ++ b ∷ []
    → map wanted_by asks ≡ map key_of next_came ++ rest → map wanted_by asks ≡ map key_of came ++ key_of b ∷ rest
came_first asks came next_came b rest grown same =
    rw (grown, map-append key_of came (b ∷ []), append_assoc (map key_of came) (key_of b ∷ []) rest) at same

-- the page at the place came, and is heard
pub due_heard : (asks : List Ask) (came next_came : List Buffer) (b : Buffer) (round place next : ℕ) (rest : List (ℕ × ℕ))
    → next_came ≡ came ++ b ∷ [] → b.round ≡ round
    → ((left : List (ℕ × ℕ)) → map wanted_by asks ≡ map key_of came ++ left → IsDue round place next left)
    → map wanted_by asks ≡ map key_of next_came ++ rest → IsDue round (place + 1) next rest
due_heard asks came next_came b round place next rest grown here due same =
    let d = due (key_of b ∷ rest) (came_first asks came next_came b rest grown same) in
    (d.1 (omega (arith, here))).1.1

-- another page came
pub due_other : (asks : List Ask) (came next_came : List Buffer) (b : Buffer) (round place next : ℕ) (rest : List (ℕ × ℕ))
    → next_came ≡ came ++ b ∷ [] → (b.round ≡ round → b.number ≡ place → ⊥)
    → ((left : List (ℕ × ℕ)) → map wanted_by asks ≡ map key_of came ++ left → IsDue round place next left)
    → map wanted_by asks ≡ map key_of next_came ++ rest → IsDue round place next rest
due_other asks came next_came b round place next rest grown other due same =
    let d = due (key_of b ∷ rest) (came_first asks came next_came b rest grown same) in
    elim (cases_lt b.round round) [
      | inl older ↦ d.0 older
      | inr not ↦ let e = d.1 not in absurd (other e.0 e.1.0)
    ]

-- of the pages that come first, the first one of the present round is the one at the place
pub comes_first : (round place next : ℕ) (ks rest : List (ℕ × ℕ)) → IsDue round place next (ks ++ rest) → ComesFirst round place ks
comes_first round place next [] rest due = tt
comes_first round place next (k ∷ ks) rest due =
    ((λ older. comes_first round place next ks rest (due.0 older)), (λ not. let d = due.1 not in (d.0, d.1.0)))
