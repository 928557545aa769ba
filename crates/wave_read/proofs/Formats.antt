-- A format that is read is lawful.
use Rattle.std.proofs.Common.{◌≡◌, ℕ, ◌*◌, ◌/◌, ◌%◌, ◌<◌, ◌≤◌, Bool, true, false, cond, eqb, leb, List, refl, sym, subst, arith}
use Rattle.std.specs.Prelude.{Result, Ok, Err}
use Rattle.std.proofs.lemmas.Bool.{and_parts, leb-true, eqb-true}
use Rattle.std.proofs.lemmas.Nat.{mul-le}
use Rattle.wave_read.specs.Numbers.{u16_at, u32_at}
use Rattle.wave_read.specs.Format.{tag_of, kind_of, channel_count, sample_rate, pcm_width, sample_width, format_of, is_from, ◌>>=◌}
use Rattle.wave_read.specs.Laws.{IsG711Layout, IsLayout, IsFormat}
use Rattle.wave_read.specs.declared.format.Format.{Format}
use Rattle.wave_read.specs.declared.kind.Kind.{Kind}
use Rattle.wave_read.specs.declared.kind.Kind.TheVariants.{Pcm, Alaw, Ulaw, Ima}
use Rattle.wave_read.specs.declared.wave_fault.WaveFault.{WaveFault}

-- a step that went well, and the next on what it gave
pub bound : {A B : Type 0} (r : Result A WaveFault) (f : A → Result B WaveFault) (y : B) → r >>= f ≡ Ok y
    → (x : A) × (r ≡ Ok x) × (f x ≡ Ok y)
bound (Ok x) f y e = (x, refl, e)
bound (Err fault) f y e = absurd (cc)

tested : {A : Type 0} (b : Bool) (x y : A) (fault : WaveFault) → cond b (Ok x) (Err fault) ≡ Ok y → (b ≡ true) × (x ≡ y)
tested true x y fault e = (refl, cc)
tested false x y fault e = absurd (cc)

from_parts : (low high n : ℕ) → is_from low high n ≡ true → (low ≤ n) × (n ≤ high)
from_parts low high n e =
    let p = and_parts (leb low n) (leb n high) e in
    (leb-true low n p.0, leb-true n high p.1)

-- what the width of a kind tells
record HasLayout (kind : Kind) (ch width align : ℕ) : Type 0 where
  positive : 0 < align
  layout : IsLayout kind ch width align

pcm_lawful : (ch align bits width : ℕ) → 1 ≤ ch → pcm_width ch align bits ≡ Ok width → HasLayout Pcm ch width align
unfolding pcm_width
pcm_lawful ch align bits width some e =
    let t = tested _ (8 * (align / ch)) width _ e in
    let outer = and_parts _ _ t.0 in
    let inner = and_parts _ _ outer.0 in
    let even : align % ch ≡ 0 = eqb-true (align % ch) 0 inner.0 in
    let size = from_parts 1 4 (align / ch) inner.1 in
    let least : 1 ≤ align / ch = size.0 in
    let most : align / ch ≤ 4 = size.1 in
    let same : 8 * (align / ch) ≡ width = t.1 in
    let back : width / 8 ≡ align / ch = omega arith in
    let frame : align ≡ ch * (align / ch) = omega arith in
    record {
      positive = omega (arith, mul-le 1 1 ch (align / ch) some least);
      layout = record { whole = omega arith; width_least = omega arith; width_most = omega arith; frame = rw back frame };
    }

g711_lawful : (ch align width : ℕ) (fault : WaveFault) → 1 ≤ ch → cond (eqb align ch) (Ok 8) (Err fault) ≡ Ok width
    → (0 < align) × IsG711Layout ch width align
g711_lawful ch align width fault some e =
    let t = tested (eqb align ch) 8 width fault e in
    let same : align ≡ ch = eqb-true align ch t.0 in
    let eight : 8 ≡ width = t.1 in
    (omega arith, record { byte = sym eight; frame = rw (← eight) (omega arith) })

layout_lawful : (kind : Kind) (ch align bits width : ℕ) → 1 ≤ ch → sample_width kind ch align bits ≡ Ok width → HasLayout kind ch width align
layout_lawful Pcm ch align bits width some e = pcm_lawful ch align bits width some e
layout_lawful Alaw ch align bits width some e =
    let g = g711_lawful ch align width _ some e in record { positive = g.0; layout = g.1 }
layout_lawful Ulaw ch align bits width some e =
    let g = g711_lawful ch align width _ some e in record { positive = g.0; layout = g.1 }
layout_lawful Ima ch align bits width some e =
    let t = tested _ 4 width _ e in
    let parts = and_parts _ _ t.0 in
    let header : 4 * ch ≤ align = leb-true (4 * ch) align parts.0 in
    let groups : align % (4 * ch) ≡ 0 = eqb-true (align % (4 * ch)) 0 parts.1 in
    record { positive = omega arith; layout = record { nibble = sym t.1; header = header; groups = groups } }

pub format_lawful : (body : List ℕ) (f : Format) → format_of body ≡ Ok f → IsFormat f
unfolding format_of
format_lawful body f e =
    let tag = bound (tag_of body) _ f e in
    let kind = bound (kind_of tag.0) _ f tag.2 in
    let channels = bound (channel_count (u16_at body 2)) _ f kind.2 in
    let rate = bound (sample_rate (u32_at body 4)) _ f channels.2 in
    let width = bound (sample_width kind.0 channels.0 (u16_at body 12) (u16_at body 14)) _ f rate.2 in
    let c = tested _ (u16_at body 2) channels.0 _ channels.1 in
    let r = tested _ (u32_at body 4) rate.0 _ rate.1 in
    let c_range = from_parts 1 8 (u16_at body 2) c.0 in
    let r_range = from_parts 1 768000 (u32_at body 4) r.0 in
    let least : 1 ≤ channels.0 = rw (← c.1) c_range.0 in
    let l = layout_lawful kind.0 channels.0 (u16_at body 12) (u16_at body 14) width.0 least width.1 in
    lawful kind.0 channels.0 rate.0 width.0 (u16_at body 12) f least (rw (← c.1) c_range.1) (rw (← r.1) r_range.0) (rw (← r.1) r_range.1) l width.2
  where
    lawful : (kind : Kind) (ch rate width align : ℕ) (f : Format) → 1 ≤ ch → ch ≤ 8 → 1 ≤ rate → rate ≤ 768000
        → HasLayout kind ch width align
        → ◌≡◌ {A = Result Format WaveFault} (Ok (record { kind = kind; channels = ch; rate = rate; width = width; align = align })) (Ok f) → IsFormat f
    lawful kind ch rate width align f least most slow fast l e =
        let made : Format = record { kind = kind; channels = ch; rate = rate; width = width; align = align } in
        let same : made ≡ f = cc in
        let P : Format → Type 0 = λ g. IsFormat g in
        subst P same (record {
          channels_least = least;
          channels_most = most;
          rate_least = slow;
          rate_most = fast;
          positive = l.positive;
          layout = l.layout;
        })
