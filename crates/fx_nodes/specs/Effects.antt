-- Effects on stereo frames of 24 bits. A signal gives the sample of one channel at each frame's number.
use Rattle.std.specs.Prelude.{◌&&◌, Bool, ℕ, zero, suc, ◌+◌, ◌-◌, ◌*◌, ◌/◌, ◌%◌, min, nat_le, nat_lt, if◌then◌else◌, ℤ, pos, ◌+ℤ◌, List, [], ◌∷◌, map, length, slice_index_or}
use Rattle.std.specs.List.{range_with_len}
use Rattle.mix_fixed.specs.Sound.{sat24, scale, largest_gain, unity_gain}
use Rattle.fx_nodes.specs.declared.effect.Effect.{Effect}
use Rattle.fx_nodes.specs.declared.effect.Effect.TheVariants.{Delay, Pan, Fade, Level}

-- the most effects of a chain, the frames of the longest delay, and the latest frame at which a fade ends
abbrev pub most_effects : ℕ
most_effects = 16

abbrev pub most_delay : ℕ
most_delay = 1048576

abbrev pub most_fade_end : ℕ
most_fade_end = 16777216

-- whether the numbers of an effect are within their limits
abbrev pub is_in_range : Effect → Bool
is_in_range (Delay frames decay) = nat_le 1 frames && nat_le frames most_delay && nat_le decay unity_gain
is_in_range (Pan place) = nat_le place unity_gain
is_in_range (Fade from to first last) = nat_lt from to && nat_le to most_fade_end && nat_le first largest_gain && nat_le last largest_gain
is_in_range (Level gain) = nat_le gain largest_gain

-- What comes out of a delay line of n frames at frame q * n + i: nothing in its first n frames, and then what went in n
-- frames before, with what came out at that frame, by the decay d.
unfoldable pub delayed_in : (ℕ → ℤ) → ℕ → ℕ → ℕ → ℕ → ℤ
delayed_in x n d zero i = pos 0
delayed_in x n d (suc q) i = sat24 (x (q * n + i) +ℤ scale (delayed_in x n d q i) d)

-- what comes out of it at frame t
unfoldable pub delayed : (ℕ → ℤ) → ℕ → ℕ → ℕ → ℤ
delayed x n d t = delayed_in x n d (t / n) (t % n)

-- The gain of a channel, left 0 and right 1, of a sound that is placed between left, 0, and right, 65536: the nearer
-- channel keeps its level.
abbrev pub pan_gain : ℕ → ℕ → ℕ
pan_gain zero place = min unity_gain (131072 - 2 * place)
pan_gain (suc c) place = min unity_gain (2 * place)

-- The gain of a fade at frame t: the first before frame `from`, the last from frame `to` on, and on the straight line
-- between the two in between, rounded down.
unfoldable pub fade_gain : ℕ → ℕ → ℕ → ℕ → ℕ → ℕ
fade_gain from to first last t =
    if nat_lt t from then first else
    if nat_lt t to then (first * (to - t) + last * (t - from)) / (to - from) else
    last

-- an effect on channel c: the sample at frame t of what it makes of the channel's signal
abbrev pub fx : Effect → ℕ → (ℕ → ℤ) → ℕ → ℤ
fx (Delay frames decay) c x t = sat24 (x t +ℤ delayed x frames decay t)
fx (Pan place) c x t = scale (x t) (pan_gain c place)
fx (Fade from to first last) c x t = sat24 (scale (x t) (fade_gain from to first last t))
fx (Level gain) c x t = sat24 (scale (x t) gain)

-- channel c of interleaved stereo frames: the sample of frame t is the sample 2 * t + c, and 0 past the end
abbrev pub channel : List ℤ → ℕ → ℕ → ℤ
channel frames c t = slice_index_or frames (2 * t + c) (pos 0)

-- what an effect makes of interleaved stereo frames, channel by channel
unfoldable pub effect_value : Effect → List ℤ → List ℤ
effect_value effect frames = map (λ s. fx effect (s % 2) (channel frames (s % 2)) (s / 2)) (range_with_len 0 (length frames))

-- what effects make of them, one after the other
abbrev pub chain_value : List Effect → List ℤ → List ℤ
chain_value [] frames = frames
chain_value (effect ∷ effects) frames = chain_value effects (effect_value effect frames)
