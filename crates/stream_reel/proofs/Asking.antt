-- A listener asks for pages, one after the other.
use Rattle.std.proofs.Common.{◌≡◌, ℕ, zero, suc, ◌+◌, ◌∙◌, ◌∷◌, ◌++◌, map, ap, sym, refl, append_assoc, arith}
use Rattle.rtrb.specs.Ring.{sent}
use Rattle.stream_reel.specs.Asks.{wanted_by, asks_from}
use Rattle.stream_reel.specs.Steps.{AskedFor}
use Rattle.stream_reel.specs.declared.listener.Listener.{Listener}

asks-append : (round number m n : ℕ) → asks_from round number (m + n) ≡ asks_from round number m ++ asks_from round (number + m) n
asks-append round number zero n =
    let sum : zero + n ≡ n = omega arith in
    let same : number + zero ≡ number = omega arith in
    rw (sum, same) refl
asks-append round number (suc m) n =
    let sum : suc m + n ≡ suc (m + n) = omega arith in
    let next : (number + 1) + m ≡ number + suc m = omega arith in
    rw (sum, ← next) (ap (λ ks. (round, number) ∷ ks) (asks-append round ((number + 1)) m n))

pub asked_twice : (a b d : Listener) (m n : ℕ) → AskedFor a b m → AskedFor b d n → AskedFor a d (m + n)
asked_twice a b d m n first second = record {
  asked =
      second.asked ∙ ap (λ ks. ks ++ asks_from b.round b.next n) first.asked
      ∙ append_assoc (map wanted_by (sent a.asks)) (asks_from a.round a.next m) (asks_from b.round b.next n)
      ∙ ap (λ ks. map wanted_by (sent a.asks) ++ ks)
      (rw (first.round, first.next) (sym (asks-append a.round a.next m n)));
  next = omega (arith, first.next, second.next);
  kept = omega (arith, first.kept, second.kept);
  free = omega (arith, first.free, second.free);
  back = second.back ∙ first.back;
  fills = second.fills ∙ first.fills;
  looked = second.looked ∙ first.looked;
  round = second.round ∙ first.round;
  place = second.place ∙ first.place;
}
