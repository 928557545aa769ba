use Rattle.std.proofs.Common.{◌≡◌}
use Rattle.kernel_bench.proofs.pages.decode_rounds.Given as goal

abbrev pub invariant-loop : goal.invariant-loop
invariant-loop l = l.page.channels ≡ l.clip.wave.channels
