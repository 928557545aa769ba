-- What a sound puts out: its clip's samples, frame by frame, and part by part.
use Rattle.std.proofs.Common.{◌≡◌, ℕ, zero, suc, ◌+◌, ◌-◌, ◌*◌, ◌/◌, ◌%◌, ◌<◌, ◌≤◌, ◌⊎◌, inl, inr, Bool, true, false, ℤ, pos, List, Option, refl, sym, ◌∙◌, ap, arith}
use Rattle.std.specs.Prelude.{if◌then◌else◌, nat_lt}
use Rattle.std.specs.Option.{option_map_or}
use Rattle.std.proofs.Math.Nat.{add-mul-div_left, add-mul-mod_self_left}
use Rattle.std.proofs.lemmas.Bool.{cases_lt, lt-ltb, ltb-true}
use Rattle.mix_fixed.proofs.Rounding.{quotient_below}
use Rattle.mix_fixed.specs.Kernels.{at}
use Rattle.scene_clips.specs.SceneClipData.{SceneClipData}
use Rattle.scene_clips.specs.ClipFrames.{clip_length, clip_sample}
use Rattle.scene_model.specs.declared.node.NodeKind.{NodeKind}
use Rattle.mix_model.specs.Pulled.{node}
use Rattle.mix_model.specs.Mix.{next_frame}
use Rattle.mix_model.specs.Signals.{input, kind_output, clip_sample_at, sample_at}
use Rattle.mix_model.specs.Spans.{cursor_on, IsSteady, played, cursor_in}
use Rattle.mix_model.proofs.Spans.{cursor_steady, played_more, played_run, played_silent, played_start}
use Rattle.engine.specs.Span.{Span, state_at, output_at, AreOutputs}
use Rattle.engine.specs.Sounds.{ArePlayed, PlaysFrom, place_in}

pub sound_outputs : (s : Span) (n : ℕ) (c : SceneClipData) (looped : Bool) (cursor count : ℕ) (xs : List ℤ) → 1 ≤ c.channels → PlaysFrom s n c looped cursor → IsSteady s.first.plan s.first.time count
    → ArePlayed c looped cursor (count * c.channels) xs → AreOutputs s (count * c.channels) n xs
sound_outputs s n c looped cursor count xs some plays steady cells j below =
    let i = j / c.channels in
    let k = j % c.channels in
    let frames = clip_length c.bytes c.rate in
    let short : i < count = quotient_below j count c.channels some below in
    let place : cursor_on s.first.plan s.first.time n (s.frames n) (s.first.cursor n) i ≡ played frames looped cursor i =
    cursor_steady s.first.plan s.first.time count n (s.frames n) (s.first.cursor n) steady i (omega (arith, short))
    ∙ ap (λ (b : Bool). cursor_in b (s.frames n) (node s.first.plan n).looped (s.first.cursor n) i) plays.is_pulled
    ∙ ap (λ f. played f (node s.first.plan n).looped (s.first.cursor n) i) plays.frames_are
    ∙ ap (λ x. played frames (node s.first.plan n).looped x i) plays.cursor_is
    ∙ ap (λ b. played frames b cursor i) plays.looped_is in
    let heard : clip_sample_at s.first.clips plays.resource (played frames looped cursor i) k ≡ sample_at c (played frames looped cursor i) k =
    ap (λ (o : Option SceneClipData). option_map_or (λ (x : SceneClipData). sample_at x (played frames looped cursor i) k) o (pos 0)) plays.clip_is in
    let output : output_at s n j ≡ clip_sample_at s.first.clips plays.resource (played frames looped cursor i) k =
    ap (λ ch. kind_output s.first.clips (j % ch) (cursor_on s.first.plan s.first.time n (s.frames n) (s.first.cursor n) (j / ch)) (input (state_at s j) (j % s.channels) n) (node s.first.plan n).kind) plays.channels_are
    ∙ ap (λ (kind : NodeKind). kind_output s.first.clips k (cursor_on s.first.plan s.first.time n (s.frames n) (s.first.cursor n) i) (input (state_at s j) (j % s.channels) n) kind) plays.kind_is
    ∙ ap (λ x. clip_sample_at s.first.clips plays.resource x k) place in
    cells j below ∙ sym heard ∙ sym output

-- ---- the frames up to a clip's end, or those of silence after it

pub plays_inside : (frames place : ℕ) (looped : Bool) (part : ℕ) → place < frames → part ≤ frames - place → (i : ℕ) → i < part → played frames looped place i ≡ place_in frames place i
plays_inside frames place looped part inside most i below =
    played_run frames place looped i (omega (arith, inside, most, below)) ∙ sym (ap (λ (b : Bool). if b then place + i else frames) (lt-ltb place frames inside))

at_end : (frames place i : ℕ) → place ≡ frames → place_in frames place i ≡ frames
at_end frames place i e = by_test (nat_lt place frames) refl
  where
    by_test : (b : Bool) → nat_lt place frames ≡ b → (if b then place + i else frames) ≡ frames
    by_test true is = let less = ltb-true place frames is in absurd (omega (arith, less, e))
    by_test false is = refl

pub plays_silent : (frames place : ℕ) → place ≡ frames → (i : ℕ) → played frames false place i ≡ place_in frames place i
plays_silent frames place e i = ap (λ p. played frames false p i) e ∙ played_silent frames i ∙ sym (at_end frames place i e)

pub plays_first : (frames place : ℕ) (looped : Bool) → place ≡ frames → (i : ℕ) → i < 1 → played frames looped place i ≡ place_in frames place i
plays_first frames place looped e i below =
    let none : i ≡ 0 = omega (arith, below) in
    ap (played frames looped place) none ∙ played_start frames place looped ∙ e ∙ sym (at_end frames place i e)

-- ---- one part more

pub part_more : (c : SceneClipData) (looped : Bool) (cursor done part place : ℕ) (old new : List ℤ) → 1 ≤ c.channels → place ≡ played (clip_length c.bytes c.rate) looped cursor done
    → ((i : ℕ) → i < part → played (clip_length c.bytes c.rate) looped place i ≡ place_in (clip_length c.bytes c.rate) place i)
    → ((j : ℕ) → j < done * c.channels → at new j ≡ at old j)
    → ((j : ℕ) → j < part * c.channels → at new (done * c.channels + j) ≡ sample_at c (place_in (clip_length c.bytes c.rate) place (j / c.channels)) (j % c.channels))
    → ArePlayed c looped cursor (done * c.channels) old → ArePlayed c looped cursor ((done + part) * c.channels) new
part_more c looped cursor done part place old new some here plays before written are j below = by_place (cases_lt j (done * c.channels))
  where
    frames : ℕ
    frames = clip_length c.bytes c.rate

    there : (k : ℕ) → k < part * c.channels → done * c.channels + k ≡ j → at new j ≡ sample_at c (played frames looped cursor (j / c.channels)) (j % c.channels)
    there k inside e =
        let i = k / c.channels in
        let short : i < part = quotient_below k part c.channels some inside in
        let split : j ≡ k + c.channels * done = omega (arith, e) in
        let frame : j / c.channels ≡ done + i = ap (λ x. x / c.channels) split ∙ add-mul-div_left k done some ∙ omega arith in
        let channel : j % c.channels ≡ k % c.channels = ap (λ x. x % c.channels) split ∙ add-mul-mod_self_left k c.channels done in
        let cursor_is : played frames looped cursor (j / c.channels) ≡ place_in frames place i =
        ap (played frames looped cursor) frame ∙ played_more frames cursor looped done i ∙ ap (λ p. played frames looped p i) (sym here) ∙ plays i short in
        ap (at new) (sym e) ∙ written k inside ∙ sym (ap (λ p. sample_at c p (j % c.channels)) cursor_is ∙ ap (sample_at c (place_in frames place i)) channel)

    by_place : (j < done * c.channels) ⊎ (done * c.channels ≤ j) → at new j ≡ sample_at c (played frames looped cursor (j / c.channels)) (j % c.channels)
    by_place (inl less) = before j less ∙ are j less
    by_place (inr past) =
        let wide : (done + part) * c.channels ≡ done * c.channels + part * c.channels = omega arith in
        there (j - done * c.channels) (omega (arith, below, wide, past)) (omega (arith, past))

-- ---- what is written of a part

pub run_heard : (c : SceneClipData) (place part : ℕ) (xs : List ℤ) → 1 ≤ c.channels → place < clip_length c.bytes c.rate → part ≤ clip_length c.bytes c.rate - place
    → ((j : ℕ) → j < part * c.channels → at xs j ≡ clip_sample c.bytes c.rate c.channels (place + j / c.channels) (j % c.channels))
    → (j : ℕ) → j < part * c.channels → at xs j ≡ sample_at c (place_in (clip_length c.bytes c.rate) place (j / c.channels)) (j % c.channels)
run_heard c place part xs some inside most values j below =
    let frames = clip_length c.bytes c.rate in
    let i = j / c.channels in
    let short : i < part = quotient_below j part c.channels some below in
    let there : nat_lt (place + i) frames ≡ true = lt-ltb (place + i) frames (omega (arith, inside, most, short)) in
    values j below
    ∙ sym (ap (λ (b : Bool). if b then clip_sample c.bytes c.rate c.channels (place + i) (j % c.channels) else pos 0) there)
    ∙ sym (ap (λ (b : Bool). sample_at c (if b then place + i else frames) (j % c.channels)) (lt-ltb place frames inside))

pub silence_heard : (c : SceneClipData) (place : ℕ) (xs : List ℤ) (j : ℕ) → place ≡ clip_length c.bytes c.rate → at xs j ≡ pos 0
    → at xs j ≡ sample_at c (place_in (clip_length c.bytes c.rate) place (j / c.channels)) (j % c.channels)
silence_heard c place xs j e none =
    let frames = clip_length c.bytes c.rate in
    none ∙ sym (ap (λ p. sample_at c p (j % c.channels)) (at_end frames place (j / c.channels) e) ∙ silent (nat_lt frames frames) refl)
  where
    silent : (b : Bool) → nat_lt (clip_length c.bytes c.rate) (clip_length c.bytes c.rate) ≡ b
        → (if b then clip_sample c.bytes c.rate c.channels (clip_length c.bytes c.rate) (j % c.channels) else pos 0) ≡ pos 0
    silent true is = let less = ltb-true (clip_length c.bytes c.rate) (clip_length c.bytes c.rate) is in absurd (omega (arith, less))
    silent false is = refl

-- ---- a sound stays in its clip

pub next_most : (frames : ℕ) (looped : Bool) (c : ℕ) → next_frame frames looped c ≤ frames
next_most frames looped c = by_test (nat_lt (c + 1) frames) refl looped
  where
    by_test : (b : Bool) → nat_lt (c + 1) frames ≡ b → (l : Bool) → (if b then c + 1 else (if l then 0 else frames)) ≤ frames
    by_test true e l = let less = ltb-true (c + 1) frames e in omega (arith, less)
    by_test false e true = omega arith
    by_test false e false = omega arith

pub played_most : (frames : ℕ) (looped : Bool) (cursor i : ℕ) → cursor ≤ frames → played frames looped cursor i ≤ frames
unfolding played
played_most frames looped cursor zero most = most
played_most frames looped cursor (suc i) most = next_most frames looped (played frames looped cursor i)
