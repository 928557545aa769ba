use Rattle.std.proofs.Common.{◌≡◌, ◌≤◌, ℕ, ◌+◌, ◌<◌, ℤ, ◌+ℤ◌, All, length}
use Rattle.mix_fixed.specs.Sound.{Is24, sat24}
use Rattle.fx_nodes.specs.Effects.{delayed}
use Rattle.fx_nodes.specs.Samples.{Holds, Reads, sample}
use Rattle.fx_nodes.proofs.delay_line.run.Given as goal

abbrev pub invariant-loop-i : goal.invariant-loop-i
invariant-loop-i l = record {
  ring_len : length l.ring ≡ length l.initial.ring;
  len : length l.samples ≡ length l.initial.samples;
  inside : l.place < length l.initial.ring;
  ring : All Is24 l.ring;
  range : All Is24 l.samples;
  rest : (k : ℕ) → l.i ≤ k → sample l.samples k ≡ sample l.initial.samples k;
  value : (f : ℕ → ℤ) (s : ℕ) → Holds f (length l.initial.ring) l.decay s l.fn.place l.initial.ring → Reads f s l.initial.samples
      → ((k : ℕ) → k < l.i → sample l.samples k ≡ sat24 (f (s + k) +ℤ delayed f (length l.initial.ring) l.decay (s + k)))
      × Holds f (length l.initial.ring) l.decay (s + l.i) l.place l.ring;
}
