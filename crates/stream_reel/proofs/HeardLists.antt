-- Lists of what was heard, and the buffers in which they stand.
use Rattle.std.proofs.Common.{◌≡◌, ℕ, ◌+◌, ◌<◌, ◌∙◌, Bool, true, false, cond, ◌&&◌, List, [], ◌∷◌, ◌++◌, map, All, Decides, ap, sym, refl, append_assoc, slice_index_or, append-nil, true≢false, arith}
use Rattle.std.specs.List.{list_all, AllPass}
use Rattle.std.specs.Cmp.Lexicographic.{pointwise}
use Rattle.std.specs.Ordering.{int_eq}
use Rattle.std.proofs.lemmas.List.{map-append}
use Rattle.std.proofs.lemmas.List.Folds.{list_all-append, list_all-map}
use Rattle.std.proofs.lemmas.List.Sums.{AllPass-from_list_all, list_all-from_AllPass}
use Rattle.std.proofs.lemmas.Slice.Eq.{slice_eq-Decides}
use Rattle.std.proofs.lemmas.Bool.Decides.{Decides-int_eq}
use Rattle.clip_decode.specs.Frames.{interleaved}
use Rattle.clip_decode.specs.Pages.{page_frames}
use Rattle.stream_reel.specs.Heard.{Entry, entry_of, heard_of, Follows, InOrder, IsPageOf, IsLawful}
use Rattle.stream_reel.specs.Asks.{back_of, awaited, AllCame}
use Rattle.stream_reel.specs.declared.buffer.Ask.{Ask}
use Rattle.stream_reel.specs.declared.buffer.Buffer.{Buffer}
use Rattle.stream_reel.specs.declared.buffer.Held.{Held}

and_left : (a b : Bool) → (a && b) ≡ true → a ≡ true
and_left true b h = refl
and_left false b h = h

and_right : (a b : Bool) → (a && b) ≡ true → b ≡ true
and_right true b h = h
and_right false b h = absurd (true≢false (sym h))

and_both : (a b : Bool) → a ≡ true → b ≡ true → (a && b) ≡ true
and_both a b p q = rw (p, q) refl

heard-cons : (b : Bool) (u : Buffer) (us bs cs : List Entry) → us ≡ bs ++ cs
    → cond b (entry_of u ∷ us) us ≡ cond b (entry_of u ∷ bs) bs ++ cs
heard-cons true u us bs cs e = ap (λ xs. entry_of u ∷ xs) e
heard-cons false u us bs cs e = e

heard-append : (xs ys : List Held) → heard_of (xs ++ ys) ≡ heard_of xs ++ heard_of ys
heard-append [] ys = refl
heard-append (h ∷ hs) ys = heard-cons h.heard h.buffer _ _ _ (heard-append hs ys)

-- the order of all but the last
front_in_order : (xs : List Entry) (a : Entry) → InOrder (xs ++ a ∷ []) → InOrder xs
front_in_order [] a h = tt
front_in_order (x ∷ []) a h = (tt, tt)
front_in_order (x ∷ y ∷ ys) a h = (h.0, front_in_order (y ∷ ys) a h.1)

-- what follows the last may be added
order_grows : (xs : List Entry) (a b : Entry) → InOrder (xs ++ a ∷ []) → Follows a b → InOrder ((xs ++ a ∷ []) ++ b ∷ [])
order_grows [] a b h f = (f, (tt, tt))
order_grows (x ∷ []) a b h f = (h.0, (f, (tt, tt)))
order_grows (x ∷ y ∷ ys) a b h f = (h.0, order_grows (y ∷ ys) a b h.1 f)

-- the last may be another one that follows the same
last_changes : (xs : List Entry) (a b : Entry) → InOrder (xs ++ a ∷ []) → ((x : Entry) → Follows x a → Follows x b) → InOrder (xs ++ b ∷ [])
last_changes [] a b h f = (tt, tt)
last_changes (x ∷ []) a b h f = (f x h.0, (tt, tt))
last_changes (x ∷ y ∷ ys) a b h f = (h.0, last_changes (y ∷ ys) a b h.1 f)

-- a later round may begin anywhere
pub round_begins : (heard : List Entry) (round place next_round next_place : ℕ) → round < next_round
    → InOrder (heard ++ awaited round place ∷ []) → InOrder (heard ++ awaited next_round next_place ∷ [])
round_begins heard round place next_round next_place later order =
    last_changes heard (awaited round place) (awaited next_round next_place) order
    (λ x f. (omega (arith, f.0), (λ same. absurd (omega (arith, f.0, same)))))

came_later : (came : List Entry) (x : Entry) (heard : List Entry) → AllCame came heard → AllCame (came ++ x ∷ []) heard
came_later came x heard before test all = before test (and_left _ _ (sym (list_all-append test came (x ∷ [])) ∙ all))

came_heard : (came : List Entry) (x : Entry) (heard : List Entry) → AllCame came heard → AllCame (came ++ x ∷ []) (heard ++ x ∷ [])
came_heard came x heard before test all =
    let both : (list_all test came && list_all test (x ∷ [])) ≡ true = sym (list_all-append test came (x ∷ [])) ∙ all in
    list_all-append test heard (x ∷ []) ∙ and_both _ _ (before test (and_left _ _ both)) (and_right _ _ both)

abbrev page_test : List ℕ → Entry → Bool
page_test bytes e = pointwise int_eq e.samples (interleaved (page_frames bytes e.number))

page_test_tells : (bytes : List ℕ) (e : Entry) → Decides (page_test bytes e) (IsPageOf bytes e)
page_test_tells bytes e = slice_eq-Decides Decides-int_eq _ _ _ refl

-- all that was heard is of the file, where what came is the beginning of what was filled
pub all_lawful : (bytes : List ℕ) (came known filled : List Buffer) (back : List Held) (round place : ℕ)
    → came ++ known ≡ filled → All (λ b. IsPageOf bytes (entry_of b)) filled
    → AllCame (map entry_of came) (heard_of back)
    → InOrder (heard_of back ++ awaited round place ∷ [])
    → IsLawful bytes (heard_of back)
all_lawful bytes came known filled back round place in_order pages before order =
    let test : Entry → Bool = page_test bytes in
    let each : AllPass (λ b. test (entry_of b)) filled = (λ k d small. (page_test_tells bytes (entry_of (slice_index_or filled k d))).1 (pages k d small)) in
    let all : list_all test (map entry_of filled) ≡ true = list_all-map test entry_of filled ∙ list_all-from_AllPass (λ b. test (entry_of b)) filled each in
    let parts : list_all test (map entry_of came ++ map entry_of known) ≡ true = rw (← in_order, map-append entry_of came known) at all in
    let front : list_all test (map entry_of came) ≡ true = and_left _ _ (sym (list_all-append test (map entry_of came) (map entry_of known)) ∙ parts) in
    let heard : AllPass test (heard_of back) = AllPass-from_list_all test (heard_of back) (before test front) in
    record {
      order = front_in_order (heard_of back) (awaited round place) order;
      pages = λ k d small. (page_test_tells bytes (slice_index_or (heard_of back) k d)).0 (heard k d small);
    }

-- a buffer was taken behind those that are here
pub heard_push : (asks : List Ask) (kept : List Held) (h : Held) → heard_of (back_of asks (kept ++ h ∷ [])) ≡ heard_of (back_of asks kept) ++ heard_of (h ∷ [])
heard_push asks kept h =
    ap heard_of (sym (append_assoc (map (λ (a : Ask). a.held) asks) kept (h ∷ []))) ∙ heard-append (back_of asks kept) (h ∷ [])

pub came_push : (came next_came : List Buffer) (asks : List Ask) (kept next_kept : List Held) (b : Buffer) (flag : Bool)
    → next_came ≡ came ++ b ∷ [] → next_kept ≡ kept ++ record { buffer = b; heard = flag } ∷ []
    → AllCame (map entry_of came) (heard_of (back_of asks kept))
    → AllCame (map entry_of next_came) (heard_of (back_of asks next_kept))
came_push came next_came asks kept next_kept b true c k before =
    rw (c, k, map-append entry_of came (b ∷ []), heard_push asks kept (record { buffer = b; heard = true }))
    (came_heard (map entry_of came) (entry_of b) (heard_of (back_of asks kept)) before)
came_push came next_came asks kept next_kept b false c k before =
    rw (c, k, map-append entry_of came (b ∷ []), heard_push asks kept (record { buffer = b; heard = false }), append-nil (heard_of (back_of asks kept)))
    (came_later (map entry_of came) (entry_of b) (heard_of (back_of asks kept)) before)

pub order_push : (asks : List Ask) (kept next_kept : List Held) (b : Buffer) (round place : ℕ)
    → next_kept ≡ kept ++ record { buffer = b; heard = true } ∷ [] → b.round ≡ round → b.number ≡ place
    → InOrder (heard_of (back_of asks kept) ++ awaited round place ∷ [])
    → InOrder (heard_of (back_of asks next_kept) ++ awaited round (place + 1) ∷ [])
order_push asks kept next_kept b round place k r n order =
    let heard = heard_of (back_of asks kept) in
    let here : InOrder (heard ++ entry_of b ∷ []) = last_changes heard (awaited round place) (entry_of b) order (λ x f. rw (r, n) f) in
    rw (k, heard_push asks kept (record { buffer = b; heard = true }))
    (order_grows heard (entry_of b) (awaited round (place + 1)) here (omega (arith, r), (λ same. omega (arith, n))))

pub unheard_push : (asks : List Ask) (kept next_kept : List Held) (b : Buffer)
    → next_kept ≡ kept ++ record { buffer = b; heard = false } ∷ []
    → heard_of (back_of asks next_kept) ≡ heard_of (back_of asks kept)
unheard_push asks kept next_kept b k = rw (k, heard_push asks kept (record { buffer = b; heard = false })) (append-nil (heard_of (back_of asks kept)))

abbrev last_or : {A : Type 0} → A → List A → A
last_or d [] = d
last_or d (x ∷ xs) = last_or x xs

last_there : {A : Type 0} (xs : List A) (d x : A) → last_or d (xs ++ x ∷ []) ≡ x
last_there [] d x = refl
last_there (y ∷ ys) d x = last_there ys y x

pub same_last : {A : Type 0} (xs ys : List A) (x y : A) → xs ++ x ∷ [] ≡ ys ++ y ∷ [] → x ≡ y
same_last xs ys x y e = sym (last_there xs x x) ∙ (ap (last_or x) e ∙ last_there ys x y)

pub last_heard : (asks : List Ask) (kept next_kept before : List Held) (b : Buffer) (last : Held) (round place : ℕ)
    → next_kept ≡ kept ++ record { buffer = b; heard = true } ∷ [] → next_kept ≡ before ++ last ∷ [] → b.round ≡ round → b.number ≡ place
    → (heard_of (back_of asks next_kept) ≡ heard_of (back_of asks kept) ++ record { round = round; number = place; samples = last.buffer.page.samples } ∷ [])
    × (last.buffer ≡ b)
last_heard asks kept next_kept before b last round place k l r n =
    let h : Held = record { buffer = b; heard = true } in
    let same : last ≡ h = same_last before kept last h (sym l ∙ k) in
    (rw (k, heard_push asks kept h, same, ← r, ← n) refl, ap (λ (x : Held). x.buffer) same)
