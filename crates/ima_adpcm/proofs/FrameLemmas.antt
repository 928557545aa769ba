-- Writing samples one after the other, and channels one after the other.
use Rattle.std.proofs.Common.{◌≡◌, ◌≢◌, ℕ, zero, suc, ◌+◌, ◌-◌, ◌*◌, ◌/◌, ◌%◌, ◌<◌, ◌≤◌, arith, refl, ap, ◌∙◌, sym, List, ◌++◌, length, drop, map, get_or, set, ℤ, pos, inl, inr, below_more, get_or-set_same, get_or-set_other, length-append, length-drop, zero-add, add-one}
use Rattle.std.specs.List.{range_with_len}
use Rattle.std.proofs.lemmas.List.{ext_get_or, get_or_append_left, get_or-drop}
use Rattle.std.proofs.Math.Seq.{get_or-append_right}
use Rattle.std.proofs.lemmas.List.FromFn.{length-map-range_with_len, get_or-map-range_with_len}
use Rattle.std.proofs.Math.Nat.{div-add-mod, mul_comm, mod-lt, div-lt_iff_lt-mul}
use Rattle.ima_adpcm.proofs.LayoutLemmas.{below_or_not}
use Rattle.std.proofs.lemmas.Nat.{div-mul-add, mod-mul-add, le-div}
use Rattle.ima_adpcm.specs.Frames.{sample_at, Put, ChannelWritten}

-- two samples of different frames or channels stand at different places
places_differ_frame : (ch f c g d : ℕ) → c < ch → d < ch → g ≢ f → g * ch + d ≢ f * ch + c
places_differ_frame ch f c g d hc hd ne same =
    ne (sym (div-mul-add g ch d hd) ∙ ap (λ k. k / ch) same ∙ div-mul-add f ch c hc)

places_differ_channel : (ch f c g d : ℕ) → c < ch → d < ch → d ≢ c → g * ch + d ≢ f * ch + c
places_differ_channel ch f c g d hc hd ne same =
    ne (sym (mod-mul-add g ch d hd) ∙ ap (λ k. k % ch) same ∙ mod-mul-add f ch c hc)

pub put-set : (ch f c : ℕ) (value : ℤ) (old : List ℤ) → c < ch → f * ch + c < length old
    → Put ch f c value old (set old (f * ch + c) value)
put-set ch f c value old hc inside = record {
  here = get_or-set_same old (f * ch + c) value (pos 0) inside;
  other_frames = λ g d hd ne.
      get_or-set_other old (f * ch + c) (g * ch + d) value (pos 0) (places_differ_frame ch f c g d hc hd ne);
  other_channels = λ g d hd ne.
      get_or-set_other old (f * ch + c) (g * ch + d) value (pos 0) (places_differ_channel ch f c g d hc hd ne);
}

pub written-none : (ch c at : ℕ) (value : ℕ → ℤ) (old : List ℤ) → ChannelWritten ch c at 0 value old old
written-none ch c at value old = record {
  here = λ i lt. absurd (omega arith);
  before = λ f d hd lt. refl;
  beyond = λ f d hd le. refl;
  other_channels = λ f d hd ne. refl;
}

-- the same samples, told otherwise
pub written-as : (ch c at n : ℕ) (value other : ℕ → ℤ) (old new : List ℤ)
    → ChannelWritten ch c at n value old new → ((i : ℕ) → value i ≡ other i) → ChannelWritten ch c at n other old new
written-as ch c at n value other old new w same = record {
  here = λ i lt. w.here i lt ∙ same i;
  before = w.before;
  beyond = w.beyond;
  other_channels = w.other_channels;
}

-- one more sample of the channel
pub written-more : (ch c at n : ℕ) (value : ℕ → ℤ) (v : ℤ) (old mid new : List ℤ) → c < ch
    → ChannelWritten ch c at n value old mid → Put ch (at + n) c v mid new → v ≡ value n
    → ChannelWritten ch c at (n + 1) value old new
written-more ch c at n value v old mid new hc w p is = record {
  here = below_more _ _ (λ i lt. p.other_frames (at + i) c hc (omega arith) ∙ w.here i lt) (p.here ∙ is);
  before = λ f d hd lt. p.other_frames f d hd (omega arith) ∙ w.before f d hd lt;
  beyond = λ f d hd le. p.other_frames f d hd (omega arith) ∙ w.beyond f d hd (omega arith);
  other_channels = λ f d hd ne. p.other_channels f d hd ne ∙ w.other_channels f d hd ne;
}

-- some frames of the channel, and then the ones after them
pub written-append : (ch c at n m : ℕ) (value later : ℕ → ℤ) (old mid new : List ℤ) → c < ch
    → ChannelWritten ch c at n value old mid → ChannelWritten ch c (at + n) m later mid new
    → ((i : ℕ) → later i ≡ value (n + i))
    → ChannelWritten ch c at (n + m) value old new
written-append ch c at n m value later old mid new hc w v same = record {
  here = λ i lt. elim (below_or_not i n) [
    | inl low ↦ v.before (at + i) c hc (omega arith) ∙ w.here i low
    | inr high ↦
        ap (λ f. sample_at ch new f c) (omega arith) ∙ v.here (i - n) (omega arith)
        ∙ same (i - n) ∙ ap value (omega arith)
  ];
  before = λ f d hd lt. v.before f d hd (omega arith) ∙ w.before f d hd lt;
  beyond = λ f d hd le. v.beyond f d hd (omega arith) ∙ w.beyond f d hd (omega arith);
  other_channels = λ f d hd ne. v.other_channels f d hd ne ∙ w.other_channels f d hd ne;
}

-- frame 0, and then the frames from 1 on
pub written-first : (ch c frames : ℕ) (value later : ℕ → ℤ) (v : ℤ) (old mid new : List ℤ) → c < ch → 0 < frames
    → Put ch 0 c v old mid → ChannelWritten ch c 1 (frames - 1) later mid new
    → v ≡ value 0 → ((i : ℕ) → later i ≡ value (i + 1))
    → ChannelWritten ch c 0 frames value old new
written-first ch c frames value later v old mid new hc some p w first rest = record {
  here = here;
  before = λ f d hd lt. absurd (omega arith);
  beyond = λ f d hd le. w.beyond f d hd (omega arith) ∙ p.other_frames f d hd (omega arith);
  other_channels = λ f d hd ne. w.other_channels f d hd ne ∙ p.other_channels f d hd ne;
}
  where
    here : (i : ℕ) → i < frames → sample_at ch new (0 + i) c ≡ value i
    here zero lt = w.before 0 c hc (omega arith) ∙ p.here ∙ first
    here (suc i) lt =
        ap (λ f. sample_at ch new f c) (omega arith) ∙ w.here i (omega arith) ∙ rest i ∙ ap value (add-one i)

-- the frames of channels 0 to `done - 1` have the samples `value c f`, and all else is as before
pub record ChannelsWritten (ch frames done : ℕ) (value : ℕ → ℕ → ℤ) (old new : List ℤ) : Type 0 where
  pub here : (f d : ℕ) → f < frames → d < done → sample_at ch new f d ≡ value d f
  pub beyond : (f d : ℕ) → d < ch → frames ≤ f → sample_at ch new f d ≡ sample_at ch old f d
  pub other_channels : (f d : ℕ) → d < ch → done ≤ d → sample_at ch new f d ≡ sample_at ch old f d

pub channels-none : (ch frames : ℕ) (value : ℕ → ℕ → ℤ) (old : List ℤ) → ChannelsWritten ch frames 0 value old old
channels-none ch frames value old = record {
  here = λ f d hf hd. absurd (omega arith);
  beyond = λ f d hd le. refl;
  other_channels = λ f d hd le. refl;
}

-- one more channel, whole
pub channels-more : (ch frames c : ℕ) (value : ℕ → ℕ → ℤ) (old mid new : List ℤ) → c < ch
    → ChannelsWritten ch frames c value old mid → ChannelWritten ch c 0 frames (value c) mid new
    → ChannelsWritten ch frames (c + 1) value old new
channels-more ch frames c value old mid new hc w p = record {
  here = λ f d hf hd. below_more (λ e. sample_at ch new f e ≡ value e f) c
      (λ e lt. p.other_channels f e (omega arith) (omega arith) ∙ w.here f e hf lt)
      (ap (λ g. sample_at ch new g c) (sym (zero-add f)) ∙ p.here f hf) d hd;
  beyond = λ f d hd le. p.beyond f d hd (omega arith) ∙ w.beyond f d hd le;
  other_channels = λ f d hd le. p.other_channels f d hd (omega arith) ∙ w.other_channels f d hd (omega arith);
}

-- the list of all channels' samples, by place
abbrev interleaved : (ch frames : ℕ) (value : ℕ → ℕ → ℤ) → List ℤ
interleaved ch frames value = map (λ k. value (k % ch) (k / ch)) (range_with_len 0 (frames * ch))

-- each place is that of a sample
place_of : (ch k : ℕ) → k / ch * ch + k % ch ≡ k
place_of ch k = omega (arith, div-add-mod k ch, mul_comm (k / ch) ch)

channels_at : (ch frames : ℕ) (value : ℕ → ℕ → ℤ) (old new : List ℤ) (k : ℕ) → 0 < ch
    → ChannelsWritten ch frames ch value old new
    → get_or new k (pos 0) ≡ get_or (interleaved ch frames value ++ drop (frames * ch) old) k (pos 0)
channels_at ch frames value old new k some w =
    let count : length (interleaved ch frames value) ≡ frames * ch =
    length-map-range_with_len (λ j. value (j % ch) (j / ch)) 0 (frames * ch) in
    let channel : k % ch < ch = mod-lt k some in
    elim (below_or_not k (frames * ch)) [
      | inl lt ↦
          ap (λ j. get_or new j (pos 0)) (sym (place_of ch k))
          ∙ w.here (k / ch) (k % ch) ((div-lt_iff_lt-mul some).1 lt) channel
          ∙ sym (get_or-map-range_with_len (λ j. value (j % ch) (j / ch)) 0 (frames * ch) k k (pos 0) lt (zero-add k))
          ∙ sym (get_or_append_left (interleaved ch frames value) (drop (frames * ch) old) (pos 0) k (omega arith))
      | inr ge ↦
          ap (λ j. get_or new j (pos 0)) (sym (place_of ch k))
          ∙ w.beyond (k / ch) (k % ch) channel (le-div frames k ch some ge)
          ∙ ap (λ j. get_or old j (pos 0)) (place_of ch k ∙ omega arith)
          ∙ sym (get_or-drop (frames * ch) old (k - frames * ch) (pos 0))
          ∙ ap (λ n. get_or (drop (frames * ch) old) (k - n) (pos 0)) (sym count)
          ∙ sym (get_or-append_right (interleaved ch frames value) (drop (frames * ch) old) k (pos 0) (omega arith))
    ]

-- each place behind the frames is as before
pub places-beyond : (ch frames : ℕ) (old new : List ℤ) → 0 < ch
    → ((f d : ℕ) → d < ch → frames ≤ f → sample_at ch new f d ≡ sample_at ch old f d)
    → (k : ℕ) → frames * ch ≤ k → get_or new k (pos 0) ≡ get_or old k (pos 0)
places-beyond ch frames old new some beyond k behind =
    ap (λ j. get_or new j (pos 0)) (sym (place_of ch k))
    ∙ beyond (k / ch) (k % ch) (mod-lt k some) (le-div frames k ch some behind)
    ∙ ap (λ j. get_or old j (pos 0)) (place_of ch k)

-- the samples of all channels, interleaved, and then what was there
pub channels-all : (ch frames : ℕ) (value : ℕ → ℕ → ℤ) (old new : List ℤ) → 0 < ch → frames * ch ≤ length old
    → length new ≡ length old → ChannelsWritten ch frames ch value old new
    → new ≡ interleaved ch frames value ++ drop (frames * ch) old
channels-all ch frames value old new some room same w =
    ext_get_or (pos 0) new (interleaved ch frames value ++ drop (frames * ch) old)
    (omega (
      arith,
      same,
      length-map-range_with_len (λ k. value (k % ch) (k / ch)) 0 (frames * ch),
      length-append (interleaved ch frames value) (drop (frames * ch) old),
      length-drop (frames * ch) old,
    ))
    (λ k lt. channels_at ch frames value old new k some w)
