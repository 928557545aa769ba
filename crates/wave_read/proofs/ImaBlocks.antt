-- IMA blocks: how many frames they hold, and that those frames stand in the data.
use Rattle.std.proofs.Common.{◌≡◌, ℕ, zero, suc, ◌+◌, ◌-◌, ◌*◌, ◌/◌, ◌%◌, ◌<◌, ◌≤◌, inl, inr, refl, arith}
use Rattle.std.specs.Prelude.{Option, Some, None}
use Rattle.std.specs.Int.{div_ceil}
use Rattle.std.proofs.lemmas.Bool.{cases_lt, lt-ltb, le-ltb}
use Rattle.std.proofs.lemmas.Nat.{le-div, mul-le, div-add-mod'}
use Rattle.std.proofs.Math.Nat.{div-mul-le_self, div-le_self, mul-div_cancel}
use Rattle.wave_read.specs.Frames.{frames_per_block, frames_in_short_block, frames_held, counted}

-- a place below the count rounded up is that of a block with a frame
pub below_ceil : (n m b : ℕ) → 0 < m → b < div_ceil n m → b * m < n
below_ceil n m b positive below = elim (cases_lt b (n / m)) [
  | inl less ↦ omega (arith, mul-le (b + 1) m (n / m) m (omega arith) (omega arith), div-mul-le_self n m)
  | inr more ↦
      let same : b ≡ n / m = omega arith in
      let left : 1 ≤ n % m = omega arith in
      rw same (omega (arith, div-mul-le_self n m))
]

pub per_block_positive : (align ch : ℕ) → 0 < frames_per_block align ch
unfolding frames_per_block
per_block_positive align ch = omega arith

pub short_le : (len align ch : ℕ) → 1 ≤ ch → len ≤ align → frames_in_short_block len ch ≤ frames_per_block align ch
unfolding frames_per_block frames_in_short_block
short_le len align ch some fits = elim (cases_lt len (4 * ch)) [
  | inl less ↦ rw (lt-ltb len (4 * ch) less) (omega arith)
  | inr more ↦ rw (le-ltb len (4 * ch) more)
      (let groups = (len - 4 * ch) / (4 * ch) in
      let held : groups * (4 * ch) ≤ len - 4 * ch = div-mul-le_self (len - 4 * ch) (4 * ch) in
      let most : 8 * groups ≤ (2 * (align - 4 * ch)) / ch = le-div (8 * groups) (2 * (align - 4 * ch)) ch (omega arith) (omega arith) in
      omega arith)
]

pub short_needs_header : (len ch : ℕ) → 0 < frames_in_short_block len ch → 4 * ch ≤ len
unfolding frames_in_short_block
short_needs_header len ch some = elim (cases_lt len (4 * ch)) [
  | inl less ↦ absurd (omega (arith, rw (lt-ltb len (4 * ch) less) at some))
  | inr more ↦ more
]

-- over plain numbers: frame j of block b takes `part` bytes of it, of q whole blocks of spb frames and s frames in what is left
group_inside : (b j q spb s align len left part : ℕ) → b * spb + j < q * spb + s → s ≤ spb → q * align + left ≡ len
    → part ≤ align → (j < s → part ≤ left) → b * align + part ≤ len
group_inside b j q spb s align len left part below most split small short = elim (cases_lt b q) [
  | inl less ↦ omega (arith, mul-le (b + 1) align q align (omega arith) (omega arith))
  | inr more ↦ elim (cases_lt q b) [
    | inl past ↦ absurd (omega (arith, mul-le (q + 1) spb b spb (omega arith) (omega arith)))
    | inr other ↦
        let same : b ≡ q = omega arith in
        let held : j < s = omega (arith, rw same at below) in
        rw same (omega (arith, short held))
  ]
]

pub headers_inside : (align ch len frames b : ℕ) → 1 ≤ ch → 4 * ch ≤ align → frames ≤ frames_held align ch len
    → b < div_ceil frames (frames_per_block align ch) → b * align + 4 * ch ≤ len
unfolding frames_held
headers_inside align ch len frames b some small held below =
    let spb = frames_per_block align ch in
    let first : b * spb < frames = below_ceil frames spb b (per_block_positive align ch) below in
    let left : len % align < align = omega arith in
    group_inside b 0 (len / align) spb (frames_in_short_block (len % align) ch) align len (len % align) (4 * ch)
    (omega arith) (short_le (len % align) align ch some (omega arith)) (omega arith) small (short_needs_header (len % align) ch)

-- a block is its header and groups of eight frames
per_block_is : (align ch m : ℕ) → 1 ≤ ch → align ≡ (m + 1) * (4 * ch) → frames_per_block align ch ≡ 8 * m + 1
unfolding frames_per_block
per_block_is align ch m some e =
    let twice : 2 * (align - 4 * ch) ≡ 8 * m * ch = omega arith in
    rw (twice, mul-div_cancel (8 * m) {n = ch} some) refl

whole_group : (align ch j : ℕ) → 1 ≤ ch → 4 * ch ≤ align → align % (4 * ch) ≡ 0 → j < frames_per_block align ch
    → 4 * ch * (1 + div_ceil j 8) ≤ align
whole_group align ch j some small even inside =
    let k = align / (4 * ch) in
    let parts : k * (4 * ch) + align % (4 * ch) ≡ align = div-add-mod' align (4 * ch) in
    let least : 1 ≤ k = le-div 1 align (4 * ch) (omega arith) (omega arith) in
    let m = k - 1 in
    let k_is : k ≡ m + 1 = omega arith in
    let align_is : align ≡ (m + 1) * (4 * ch) = rw (← k_is) (omega arith) in
    let below : j < 8 * m + 1 = rw (per_block_is align ch m some align_is) at inside in
    let most : 1 + div_ceil j 8 ≤ m + 1 = omega arith in
    omega (arith, mul-le (4 * ch) (1 + div_ceil j 8) (4 * ch) (m + 1) (omega arith) most)

short_group : (len ch j : ℕ) → 1 ≤ ch → j < frames_in_short_block len ch → 4 * ch * (1 + div_ceil j 8) ≤ len
unfolding frames_in_short_block
short_group len ch j some inside = elim (cases_lt len (4 * ch)) [
  | inl less ↦ absurd (omega (arith, rw (lt-ltb len (4 * ch) less) at inside))
  | inr more ↦
      let x = (len - 4 * ch) / (4 * ch) in
      let below : j < 1 + 8 * x = rw (le-ltb len (4 * ch) more) at inside in
      let most : 1 + div_ceil j 8 ≤ 1 + x = omega arith in
      let held : x * (4 * ch) ≤ len - 4 * ch = div-mul-le_self (len - 4 * ch) (4 * ch) in
      omega (arith, mul-le (4 * ch) (1 + div_ceil j 8) (4 * ch) (1 + x) (omega arith) most)
]

pub groups_inside : (align ch len frames n : ℕ) → 1 ≤ ch → 4 * ch ≤ align → align % (4 * ch) ≡ 0 → frames ≤ frames_held align ch len
    → n < frames → n / frames_per_block align ch * align + 4 * ch * (1 + div_ceil (n % frames_per_block align ch) 8) ≤ len
unfolding frames_held
groups_inside align ch len frames n some small even held below =
    let spb = frames_per_block align ch in
    let positive : 0 < spb = per_block_positive align ch in
    let parts : n / spb * spb + n % spb ≡ n = div-add-mod' n spb in
    let inside : n % spb < spb = omega arith in
    group_inside (n / spb) (n % spb) (len / align) spb (frames_in_short_block (len % align) ch) align len (len % align)
    (4 * ch * (1 + div_ceil (n % spb) 8)) (omega arith) (short_le (len % align) align ch some (omega arith)) (omega arith)
    (whole_group align ch (n % spb) some small even inside) (short_group (len % align) ch (n % spb) some)

pub counted_le : (count : Option ℕ) (n : ℕ) → counted count n ≤ n
counted_le None n = omega arith
counted_le (Some zero) n = omega arith
counted_le (Some (suc m)) n = omega arith

-- a frame takes at least half a byte
per_block_fits : (align ch : ℕ) → 1 ≤ ch → 4 * ch ≤ align → frames_per_block align ch ≤ 2 * align
unfolding frames_per_block
per_block_fits align ch some small =
    let less : (2 * (align - 4 * ch)) / ch ≤ 2 * (align - 4 * ch) = div-le_self (2 * (align - 4 * ch)) ch in
    omega arith

short_fits : (len ch : ℕ) → 1 ≤ ch → frames_in_short_block len ch ≤ 2 * len
unfolding frames_in_short_block
short_fits len ch some = elim (cases_lt len (4 * ch)) [
  | inl less ↦ rw (lt-ltb len (4 * ch) less) (omega arith)
  | inr more ↦ rw (le-ltb len (4 * ch) more)
      (let groups = (len - 4 * ch) / (4 * ch) in
      let held : groups * (4 * ch) ≤ len - 4 * ch = div-mul-le_self (len - 4 * ch) (4 * ch) in
      let each : groups * 4 ≤ groups * (4 * ch) = mul-le groups 4 groups (4 * ch) (omega arith) (omega arith) in
      omega arith)
]

pub whole_fits : (align ch len : ℕ) → 1 ≤ ch → 4 * ch ≤ align → len / align * frames_per_block align ch ≤ 2 * len
whole_fits align ch len some small =
    omega (
      arith,
      mul-le (len / align) (frames_per_block align ch) (len / align) (2 * align) (omega arith) (per_block_fits align ch some small),
      div-mul-le_self len align,
    )

pub held_fits : (align ch len : ℕ) → 1 ≤ ch → 4 * ch ≤ align → frames_held align ch len ≤ 2 * len
unfolding frames_held
held_fits align ch len some small =
    let whole : len / align * frames_per_block align ch ≤ len / align * (2 * align) =
    mul-le (len / align) (frames_per_block align ch) (len / align) (2 * align) (omega arith) (per_block_fits align ch some small) in
    let short = short_fits (len % align) ch some in
    let parts : len / align * align + len % align ≡ len = div-add-mod' len align in
    omega arith
