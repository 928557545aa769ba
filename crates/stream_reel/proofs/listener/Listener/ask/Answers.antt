use Rattle.std.proofs.Common.{◌≡◌, ◌+◌, [], ◌⊎◌, Bool, inl, true, false, cond, refl, arith}
use Rattle.std.proofs.lemmas.List.{nil_from_length}
use Rattle.stream_reel.specs.Steps.{CannotAsk}
use Rattle.stream_reel.proofs.Asking.{asked_twice}
use Rattle.stream_reel.proofs.listener.Listener.ask.Goals as goal

pub returns-then-ask_one-clause-asked : goal.returns-then-ask_one-clause-asked
returns-then-ask_one-clause-asked c =
    let first = rw c.if-ask_one.true at c.ask_one.ensures.asked in
    let second = c.ask_one-then-ask_one.ensures in
    record {
      count = 1 + cond c.ask_one-then-ask_one.result 1 0;
      asked = asked_twice _ _ _ 1 (cond c.ask_one-then-ask_one.result 1 0) first second.asked;
      beside = beside_by c.ask_one-then-ask_one.result refl;
    }
  where
    beside_by : (asked : Bool) → c.ask_one-then-ask_one.result ≡ asked → (c.ask_one-then-ask_one.new.self.kept ≡ []) ⊎ CannotAsk c.ask_one-then-ask_one.new.self
    beside_by true did =
        let first = rw c.if-ask_one.true at c.ask_one.ensures.asked in
        let second = rw did at c.ask_one-then-ask_one.ensures.asked in
        inl (nil_from_length _ (omega (arith, c.ask_one.ensures.few, first.kept, second.kept)))
    beside_by false not = c.ask_one-then-ask_one.ensures.beside not
