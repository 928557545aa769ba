-- The buffers that a listener sent back and those that it has.
use Rattle.std.proofs.Common.{◌≡◌, ◌<◌, ℕ, List, [], ◌∷◌, ◌++◌, map, length, All, append_assoc, refl, arith}
use Rattle.std.proofs.Math.Seq.{drop-append_seam}
use Rattle.std.proofs.lemmas.List.{map-append, take_at}
use Rattle.std.proofs.lemmas.List.Elements.{All-nil, All-cons, All-head, All-tail, All-drop, All-push, All-take, All-contains, Contains-push}
use Rattle.stream_reel.specs.Asks.{back_of, HasChannels}
use Rattle.stream_reel.specs.declared.buffer.Ask.{Ask}
use Rattle.stream_reel.specs.declared.buffer.Buffer.{Buffer}
use Rattle.stream_reel.specs.declared.buffer.Held.{Held}

pub all_front : {A : Type 0} (P : A → Type 0) (xs ys : List A) → All P (xs ++ ys) → All P xs
all_front P xs ys all = rw (take_at xs ys (length xs) refl) at (All-take P (length xs) (xs ++ ys) all)

pub all_back : {A : Type 0} (P : A → Type 0) (xs ys : List A) → All P (xs ++ ys) → All P ys
all_back P xs ys all = rw (drop-append_seam xs ys) at (All-drop P (length xs) (xs ++ ys) all)

-- each of which the image has it
pub all_mapped : {A B : Type 0} (P : B → Type 0) (f : A → B) (xs : List A) → All P (map f xs) → All (λ x. P (f x)) xs
all_mapped P f [] all = All-nil (λ x. P (f x))
all_mapped P f (x ∷ xs) all =
    All-cons (λ x. P (f x)) x xs (All-head P (f x) (map f xs) all) (all_mapped P f xs (All-tail P (f x) (map f xs) all))

pub all_last : {A : Type 0} (P : A → Type 0) (xs ys : List A) (x : A) → ys ≡ xs ++ x ∷ [] → All P ys → P x
all_last P xs ys x e all = All-contains P ys x all (rw e (Contains-push xs x))

pub all_first : {A : Type 0} (P : A → Type 0) (xs rest : List A) (x : A) → xs ≡ x ∷ rest → All P xs → P x
all_first P xs rest x e all = (rw e at all) 0 x (omega arith)

-- the first of the buffers that are here is sent back
pub asked_back : (asks next_asks : List Ask) (kept next_kept : List Held) (a : Ask) → next_asks ≡ asks ++ a ∷ [] → kept ≡ a.held ∷ next_kept
    → back_of next_asks next_kept ≡ back_of asks kept
asked_back asks next_asks kept next_kept a e k =
    rw (e, k, map-append (λ (a : Ask). a.held) asks (a ∷ [])) (append_assoc (map (λ (a : Ask). a.held) asks) (a.held ∷ []) next_kept)

-- a buffer was taken: where all that came have their channels, all that are here or were sent back have
pub room_push : (channels : ℕ) (came next_came : List Buffer) (asks : List Ask) (kept next_kept : List Held) (h : Held)
    → next_came ≡ came ++ h.buffer ∷ [] → next_kept ≡ kept ++ h ∷ []
    → (All (HasChannels channels) came → All (λ (h : Held). HasChannels channels h.buffer) (back_of asks kept))
    → All (HasChannels channels) next_came → All (λ (h : Held). HasChannels channels h.buffer) (back_of asks next_kept)
room_push channels came next_came asks kept next_kept h c k before all =
    let P : Held → Type 0 = λ h. HasChannels channels h.buffer in
    let here = before (all_front (HasChannels channels) came (h.buffer ∷ []) (rw c at all)) in
    let last : P h = all_last (HasChannels channels) came next_came h.buffer c all in
    rw (k, ← append_assoc (map (λ (a : Ask). a.held) asks) kept (h ∷ [])) (All-push P (back_of asks kept) h here last)

-- one more page is asked for, which there is
pub asked_push : (pages : ℕ) (asks next_asks : List Ask) (a : Ask) → next_asks ≡ asks ++ a ∷ [] → a.number < pages
    → All (λ (a : Ask). a.number < pages) asks → All (λ (a : Ask). a.number < pages) next_asks
asked_push pages asks next_asks a e inside before = rw e (All-push (λ (a : Ask). a.number < pages) asks a before inside)
