-- What a filler filled, and what was asked of it.
use Rattle.std.proofs.Common.{◌≡◌, ◌+◌, ◌<◌, ◌∙◌, List, [], ◌∷◌, ◌++◌, map, length, All, ap, sym, refl, subst, append-nil, arith}
use Rattle.std.proofs.lemmas.List.{map-append, length-append, length-map}
use Rattle.std.proofs.lemmas.List.Elements.{All-push}
use Rattle.stream_reel.specs.Asks.{wanted_by, key_of}
use Rattle.stream_reel.specs.declared.buffer.Ask.{Ask}
use Rattle.stream_reel.specs.declared.buffer.Buffer.{Buffer}
use Rattle.stream_reel.proofs.Buffers.{all_front, all_last}

-- one more ask was taken, and its buffer filled
pub served_grows : (asks next_asks : List Ask) (filled next_filled : List Buffer) (a : Ask) (b : Buffer)
    → map wanted_by asks ≡ map key_of filled → next_asks ≡ asks ++ a ∷ [] → next_filled ≡ filled ++ b ∷ [] → wanted_by a ≡ key_of b
    → map wanted_by next_asks ≡ map key_of next_filled
served_grows asks next_asks filled next_filled a b before e f same =
    rw (e, f, map-append wanted_by asks (a ∷ []), map-append key_of filled (b ∷ []), before, same) refl

pub all_grow : (P : Buffer → Type 0) (filled next_filled : List Buffer) (b : Buffer) → All P filled → next_filled ≡ filled ++ b ∷ [] → P b → All P next_filled
all_grow P filled next_filled b all e holds = rw e (All-push P filled b all holds)

-- what was sent, where none is kept any more
pub all_sent : (P : Buffer → Type 0) (sent kept next_kept : List Buffer) → next_kept ≡ [] → All P (sent ++ kept) → All P (sent ++ next_kept)
all_sent P sent kept next_kept none all =
    subst (All P) (sym (ap (λ xs. sent ++ xs) none ∙ append-nil sent)) (all_front P sent kept all)

-- an ask that can't be served came: one came before,
pub lost_before : (P : Ask → Type 0) (asks next_asks : List Ask) (a : Ask) (sent kept next_kept : List Buffer) → next_asks ≡ asks ++ a ∷ [] → next_kept ≡ []
    → (All P asks → length (sent ++ kept) + 2 < length asks) → All P next_asks → length (sent ++ next_kept) + 2 < length next_asks
lost_before P asks next_asks a sent kept next_kept e none before all =
    let b = before (all_front P asks (a ∷ []) (rw e at all)) in
    rw (e, none) (omega (arith, b, length-append asks (a ∷ []), length-append sent kept, length-append sent []))

-- both buffers are here,
pub lost_full : (P : Ask → Type 0) (asks next_asks : List Ask) (a : Ask) (sent kept next_kept : List Buffer) → next_asks ≡ asks ++ a ∷ [] → next_kept ≡ []
    → map wanted_by asks ≡ map key_of (sent ++ kept) → length kept ≡ 2 → length (sent ++ next_kept) + 2 < length next_asks
lost_full P asks next_asks a sent kept next_kept e none served full =
    let same : length asks ≡ length (sent ++ kept) = sym (length-map asks wanted_by) ∙ (ap length served ∙ length-map (sent ++ kept) key_of) in
    rw (e, none) (omega (arith, same, full, length-append asks (a ∷ []), length-append sent kept, length-append sent []))

-- or it wants no page that there is
pub lost_wrong : (P : Ask → Type 0) (asks next_asks : List Ask) (a : Ask) → next_asks ≡ asks ++ a ∷ [] → (P a → ⊥) → All P next_asks → ⊥
lost_wrong P asks next_asks a e not all = not (all_last P asks next_asks a e all)
