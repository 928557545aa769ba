use Rattle.std.proofs.Common.{sym, subst, pos, ◌^◌, arith}
use Rattle.std.proofs.lemmas.Int.{ints}
use Rattle.std.proofs.lemmas.List.{get_or-replicate}
use Rattle.mix_fixed.specs.Kernels.{IsWithin}
use Rattle.kernel_bench.proofs.sums.add_round.Goals as goal

zero_is_within : IsWithin (2 ^ 62) (pos 0)
zero_is_within = record { low = grind (arith, ints); high = grind (arith, ints) }

pub add_scaled-requires-clause-sums : goal.add_scaled-requires-clause-sums
add_scaled-requires-clause-sums c = λ j below. subst (IsWithin (2 ^ 62)) (sym (get_or-replicate 1024 j (pos 0) (pos 0) below)) zero_is_within
