-- A decoder's run over codes, one code or one run after the other.
use Rattle.std.proofs.Common.{◌≡◌, ℕ, ◌+◌, ◌-◌, ◌<◌, ◌≤◌, ◌∙◌, arith, subst, List, ℤ, ap, sym, add_assoc}
use Rattle.ima_adpcm.specs.Decoder.{State, after}
use Rattle.ima_adpcm.specs.Blocks.{state_after, samples_after, code_at}
use Rattle.ima_adpcm.specs.Frames.{ChannelRun, Put}
use Rattle.ima_adpcm.proofs.FrameLemmas.{written-none, written-more, written-append}
use Rattle.ima_adpcm.proofs.StateLemmas.{state_after-none, state_after-more, state_after-add}

pub run-none : (bytes : List ℕ) (ch c from at : ℕ) (s : State) (out : List ℤ) → ChannelRun bytes ch c from 0 at s s out out
run-none bytes ch c from at s out = record {
  state = sym (state_after-none bytes ch c from s);
  written = written-none ch c at (samples_after bytes ch c from s) out;
}

-- one more code
pub run-more : (bytes : List ℕ) (ch c from n at code : ℕ) (value : ℤ) (s t u : State) (old mid new : List ℤ) → c < ch
    → ChannelRun bytes ch c from n at s t old mid → code ≡ code_at bytes ch c (from + n) → u ≡ after t code
    → Put ch (at + n) c value mid new → value ≡ u.predictor
    → ChannelRun bytes ch c from (n + 1) at s u old new
run-more bytes ch c from n at code value s t u old mid new hc run here step put is =
    let state : u ≡ state_after bytes ch c from s (n + 1) =
    step ∙ ap (after t) here ∙ ap (λ v. after v (code_at bytes ch c (from + n))) run.state
    ∙ sym (state_after-more bytes ch c from s n) in
    record {
      state = state;
      written = written-more ch c at n (samples_after bytes ch c from s) value old mid new hc run.written put
          (is ∙ ap (λ (v : State). v.predictor) state);
    }

-- a run, and then one that goes on where it stopped
pub run-append : (bytes : List ℕ) (ch c from n m at : ℕ) (s t u : State) (old mid new : List ℤ) → c < ch
    → ChannelRun bytes ch c from n at s t old mid → ChannelRun bytes ch c (from + n) m (at + n) t u mid new
    → ChannelRun bytes ch c from (n + m) at s u old new
run-append bytes ch c from n m at s t u old mid new hc first later = record {
  state = later.state ∙ ap (λ v. state_after bytes ch c (from + n) v m) first.state
      ∙ state_after-add bytes ch c from s n m;
  written = written-append ch c at n m (samples_after bytes ch c from s) (samples_after bytes ch c (from + n) t)
      old mid new hc first.written later.written
      (λ i. ap (λ v. samples_after bytes ch c (from + n) v i) first.state
      ∙ ap (λ (v : State). v.predictor)
      (state_after-add bytes ch c from s n (i + 1) ∙ ap (state_after bytes ch c from s) (sym (add_assoc n i 1))));
}

-- the codes from `from` to `a` and then from `a` to `b`
pub run-join : (bytes : List ℕ) (ch c from a b at : ℕ) (s t u : State) (old mid new : List ℤ) → c < ch → from ≤ a → a ≤ b
    → ChannelRun bytes ch c from (a - from) at s t old mid → ChannelRun bytes ch c a (b - a) (at + (a - from)) t u mid new
    → ChannelRun bytes ch c from (b - from) at s u old new
run-join bytes ch c from a b at s t u old mid new hc low high first later =
    let count : a - from + (b - a) ≡ b - from = omega arith in
    let start : a ≡ from + (a - from) = omega arith in
    subst (λ n. ChannelRun bytes ch c from n at s u old new) count
    (run-append bytes ch c from (a - from) (b - a) at s t u old mid new hc first
    (subst (λ k. ChannelRun bytes ch c k (b - a) (at + (a - from)) t u mid new) start later))
