use Rattle.std.proofs.Common.{◌≡◌, ◌<◌, ℕ, length, take}
use Rattle.mix_model.specs.Signals.{total, share, input}
use Rattle.mix_model.specs.OrderedBuses.{frame_state_of, sum_at, AreWithin}
use Rattle.mix_model.proofs.frame.inputs.Given as goal

abbrev pub invariant-loop-bus : goal.invariant-loop-bus
invariant-loop-bus l =
    let m = frame_state_of l.nodes l.ordered_buses l.time l.clips l.cursors in
    record {
      sums_are : (n : ℕ) → n < length l.sums → sum_at l.sums n ≡ total (share m l.channel (input m l.channel) n) (take l.bus-index l.ordered_buses);
      within : AreWithin l.bus-index l.sums;
    }
