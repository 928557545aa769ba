-- A word is read to an effect exactly where it writes it.
use Rattle.std.proofs.Common.{◌≡◌, ℕ, ◌∙◌, nat_lt, nat_le, Bool, true, false, ◌&&◌, List, ◌∷◌, ◌++◌, Some, ap, refl, subst, sym, arith}
use Rattle.std.specs.Prelude.{codes}
use Rattle.std.specs.Str.{bytes_eq}
use Rattle.std.proofs.lemmas.Bool.{leb-true, ltb-true}
use Rattle.std.proofs.lemmas.Slice.Eq.{bytes_eq-Decides}
use Rattle.fx_nodes.specs.Effects.{is_in_range}
use Rattle.fx_nodes.specs.Forms.{IsNumber, IsWritten, colon}
use Rattle.fx_nodes.specs.Words.{◌>>=◌, delay_of, effect_of_word, fade_of, in_range, level_of, named, number, pan_of, split_at_colon}
use Rattle.fx_nodes.specs.declared.effect.Effect.{Effect}
use Rattle.fx_nodes.specs.declared.effect.Effect.TheVariants.{Delay, Pan, Fade, Level}
use Rattle.fx_nodes.proofs.Colons.{both, bound, no_colon, none_is, number_of, number_read, some_same, splits, unsplit}

-- what writes the effect that is found
found : (word : List ℕ) (x e : Effect) → Some x ≡ Some e → IsWritten word x → IsWritten word e
found word x e same written = subst (IsWritten word) (some_same x e same) written

fade_form : (numbers rest more a b c d : List ℕ) (from to first last : ℕ) → numbers ≡ a ++ colon ∷ rest → rest ≡ b ++ colon ∷ more → more ≡ c ++ colon ∷ d
    → IsNumber a from → IsNumber b to → IsNumber c first → IsNumber d last → IsWritten (codes "fade" ++ colon ∷ numbers) (Fade from to first last)
fade_form numbers rest more a b c d from to first last one two three na nb nc nd =
    (a, b, c, d, ap (λ w. codes "fade" ++ colon ∷ w) (one ∙ ap (λ w. a ++ colon ∷ w) (two ∙ ap (λ w. b ++ colon ∷ w) three)), na, nb, nc, nd)

delay_read : (numbers : List ℕ) (e : Effect) → delay_of numbers ≡ Some e → IsWritten (codes "delay" ++ colon ∷ numbers) e
unfolding delay_of
delay_read numbers e is =
    let p = bound (split_at_colon numbers) (λ parts. number parts.0 >>= (λ frames. number parts.1 >>= (λ decay. Some (Delay frames decay)))) e is in
    let q = bound (number p.0.0) (λ frames. number p.0.1 >>= (λ decay. Some (Delay frames decay))) e p.2 in
    let r = bound (number p.0.1) (λ decay. Some (Delay q.0 decay)) e q.2 in
    found (codes "delay" ++ colon ∷ numbers) (Delay q.0 r.0) e r.2
    (p.0.0, p.0.1, ap (λ w. codes "delay" ++ colon ∷ w) (unsplit numbers p.0 p.1), number_read p.0.0 q.0 q.1, number_read p.0.1 r.0 r.1)

pan_read : (numbers : List ℕ) (e : Effect) → pan_of numbers ≡ Some e → IsWritten (codes "pan" ++ colon ∷ numbers) e
unfolding pan_of
pan_read numbers e is =
    let p = bound (number numbers) (λ place. Some (Pan place)) e is in
    found (codes "pan" ++ colon ∷ numbers) (Pan p.0) e p.2 (numbers, refl, number_read numbers p.0 p.1)

level_read : (numbers : List ℕ) (e : Effect) → level_of numbers ≡ Some e → IsWritten (codes "level" ++ colon ∷ numbers) e
unfolding level_of
level_read numbers e is =
    let p = bound (number numbers) (λ gain. Some (Level gain)) e is in
    found (codes "level" ++ colon ∷ numbers) (Level p.0) e p.2 (numbers, refl, number_read numbers p.0 p.1)

fade_read : (numbers : List ℕ) (e : Effect) → fade_of numbers ≡ Some e → IsWritten (codes "fade" ++ colon ∷ numbers) e
unfolding fade_of
fade_read numbers e is =
    let last = λ (from to first : ℕ) (gains : List ℕ × List ℕ). number gains.1 >>= (λ last. Some (Fade from to first last)) in
    let first = λ (from to : ℕ) (gains : List ℕ × List ℕ). number gains.0 >>= (λ first. last from to first gains) in
    let to = λ (from : ℕ) (ends gains : List ℕ × List ℕ). number ends.0 >>= (λ to. first from to gains) in
    let from = λ (times ends gains : List ℕ × List ℕ). number times.0 >>= (λ from. to from ends gains) in
    let p = bound (split_at_colon numbers) (λ times. split_at_colon times.1 >>= (λ ends. split_at_colon ends.1 >>= (λ gains. from times ends gains))) e is in
    let q = bound (split_at_colon p.0.1) (λ ends. split_at_colon ends.1 >>= (λ gains. from p.0 ends gains)) e p.2 in
    let r = bound (split_at_colon q.0.1) (λ gains. from p.0 q.0 gains) e q.2 in
    let a = bound (number p.0.0) (λ from. to from q.0 r.0) e r.2 in
    let b = bound (number q.0.0) (λ to. first a.0 to r.0) e a.2 in
    let c = bound (number r.0.0) (λ first. last a.0 b.0 first r.0) e b.2 in
    let d = bound (number r.0.1) (λ last. Some (Fade a.0 b.0 c.0 last)) e c.2 in
    found (codes "fade" ++ colon ∷ numbers) (Fade a.0 b.0 c.0 d.0) e d.2
    (fade_form numbers p.0.1 q.0.1 p.0.0 q.0.0 r.0.0 r.0.1 a.0 b.0 c.0 d.0 (unsplit numbers p.0 p.1) (unsplit p.0.1 q.0 q.1) (unsplit q.0.1 r.0 r.1)
    (number_read p.0.0 a.0 a.1) (number_read q.0.0 b.0 b.1) (number_read r.0.0 c.0 c.1) (number_read r.0.1 d.0 d.1))

named_read : (name numbers : List ℕ) (e : Effect) → named name numbers ≡ Some e → IsWritten (name ++ colon ∷ numbers) e
unfolding named
named_read name numbers e is = by_delay (bytes_eq name (codes "delay")) refl
  where
    as_named : (other : List ℕ) → bytes_eq name other ≡ true → IsWritten (other ++ colon ∷ numbers) e → IsWritten (name ++ colon ∷ numbers) e
    as_named other test = subst (λ n. IsWritten (n ++ colon ∷ numbers) e) (sym ((bytes_eq-Decides name other).0 test))

    by_level : bytes_eq name (codes "delay") ≡ false → bytes_eq name (codes "pan") ≡ false → bytes_eq name (codes "fade") ≡ false
        → (b : Bool) → bytes_eq name (codes "level") ≡ b → IsWritten (name ++ colon ∷ numbers) e
    by_level no1 no2 no3 true test = as_named (codes "level") test (level_read numbers e (rw (no1, no2, no3, test) at is))
    by_level no1 no2 no3 false test = absurd (none_is e (rw (no1, no2, no3, test) at is))

    by_fade : bytes_eq name (codes "delay") ≡ false → bytes_eq name (codes "pan") ≡ false → (b : Bool) → bytes_eq name (codes "fade") ≡ b
        → IsWritten (name ++ colon ∷ numbers) e
    by_fade no1 no2 true test = as_named (codes "fade") test (fade_read numbers e (rw (no1, no2, test) at is))
    by_fade no1 no2 false test = by_level no1 no2 test (bytes_eq name (codes "level")) refl

    by_pan : bytes_eq name (codes "delay") ≡ false → (b : Bool) → bytes_eq name (codes "pan") ≡ b → IsWritten (name ++ colon ∷ numbers) e
    by_pan no1 true test = as_named (codes "pan") test (pan_read numbers e (rw (no1, test) at is))
    by_pan no1 false test = by_fade no1 test (bytes_eq name (codes "fade")) refl

    by_delay : (b : Bool) → bytes_eq name (codes "delay") ≡ b → IsWritten (name ++ colon ∷ numbers) e
    by_delay true test = as_named (codes "delay") test (delay_read numbers e (rw test at is))
    by_delay false test = by_pan test (bytes_eq name (codes "pan")) refl

in_range_read : (effect e : Effect) → in_range effect ≡ Some e → (effect ≡ e) × (is_in_range effect ≡ true)
in_range_read effect e is = by_test (is_in_range effect) refl
  where
    by_test : (b : Bool) → is_in_range effect ≡ b → (effect ≡ e) × (is_in_range effect ≡ true)
    by_test true test = (some_same effect e (rw test at is), test)
    by_test false test = absurd (none_is e (rw test at is))

pub effect_read : (word : List ℕ) (e : Effect) → effect_of_word word ≡ Some e → IsWritten word e × (is_in_range e ≡ true)
unfolding effect_of_word
effect_read word e is =
    let p = bound (split_at_colon word) (λ parts. named parts.0 parts.1 >>= (λ effect. in_range effect)) e is in
    let q = bound (named p.0.0 p.0.1) (λ effect. in_range effect) e p.2 in
    let r = in_range_read q.0 e q.2 in
    let written : IsWritten word q.0 = subst (λ w. IsWritten w q.0) (sym (unsplit word p.0 p.1)) (named_read p.0.0 p.0.1 q.0 q.1) in
    subst (λ f. IsWritten word f × (is_in_range f ≡ true)) r.0 (written, r.1)

pub effect_written : (word : List ℕ) (e : Effect) → IsWritten word e → is_in_range e ≡ true → effect_of_word word ≡ Some e
unfolding effect_of_word named delay_of pan_of fade_of level_of
effect_written word (Delay n d) w ok =
    let limits = both (nat_le 1 n && nat_le n 1048576) (nat_le d 65536) ok in
    let most = leb-true n 1048576 (both (nat_le 1 n) _ limits.0).1 in
    let gain = leb-true d 65536 limits.1 in
    rw (w.2, splits (codes "delay") (w.0 ++ colon ∷ w.1) refl, splits w.0 w.1 (no_colon w.0 n w.3), number_of w.0 n w.3 (omega (arith, most)), number_of w.1 d w.4 (omega (arith, gain)), ok) refl
effect_written word (Pan place) w ok =
    let most = leb-true place 65536 ok in
    rw (w.1, splits (codes "pan") w.0 refl, number_of w.0 place w.2 (omega (arith, most)), ok) refl
effect_written word (Fade from to first last) w ok =
    let limits = both (nat_lt from to && nat_le to 16777216 && nat_le first 1048576) (nat_le last 1048576) ok in
    let more = both (nat_lt from to && nat_le to 16777216) (nat_le first 1048576) limits.0 in
    let times = both (nat_lt from to) (nat_le to 16777216) more.0 in
    let order = ltb-true from to times.0 in
    let end = leb-true to 16777216 times.1 in
    let one = leb-true first 1048576 more.1 in
    let two = leb-true last 1048576 limits.1 in
    rw (
      w.4,
      splits (codes "fade") (w.0 ++ colon ∷ (w.1 ++ colon ∷ (w.2 ++ colon ∷ w.3))) refl,
      splits w.0 (w.1 ++ colon ∷ (w.2 ++ colon ∷ w.3)) (no_colon w.0 from w.5),
      splits w.1 (w.2 ++ colon ∷ w.3) (no_colon w.1 to w.6),
      splits w.2 w.3 (no_colon w.2 first w.7),
      number_of w.0 from w.5 (omega (arith, order, end)),
      number_of w.1 to w.6 (omega (arith, end)),
      number_of w.2 first w.7 (omega (arith, one)),
      number_of w.3 last w.8 (omega (arith, two)),
      ok,
    ) refl
effect_written word (Level gain) w ok =
    let most = leb-true gain 1048576 ok in
    rw (w.1, splits (codes "level") w.0 refl, number_of w.0 gain w.2 (omega (arith, most)), ok) refl
