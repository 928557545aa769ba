-- The slots that a tag's seat tried in vain.
use Rattle.std.proofs.Common.{◌≡◌, ◌≢◌, ℕ, ◌+◌, ◌%◌, List, [], ◌∷◌, ◌++◌, length, refl, ap, ◌∙◌, subst, arith, Option, length-append, append_assoc}
use Rattle.std.specs.Int.{bit_at}
use Rattle.std.proofs.lemmas.Bool.{ne_eqb}
use Rattle.std.proofs.lemmas.Nat.Bits.{bit_at-lt}
use Rattle.atomic_table.specs.Table.{Me}
use Rattle.slot_tags.specs.declared.view.Note.{Note}
use Rattle.slot_tags.specs.declared.view.Note.TheVariants.{FetchOr}
use Rattle.slot_tags.specs.declared.view.View.{View}
use Rattle.slot_tags.specs.Steps.{noted, tried}
use Rattle.slot_tags.specs.Notes.{EachFoundSet, Missed}

one_more : (from : ℕ) (xs : List Note) (slot found : ℕ) → EachFoundSet from xs → from + length xs ≡ slot → bit_at found (slot % 32) ≡ 1 → EachFoundSet from (xs ++ FetchOr slot found ∷ [])
one_more from [] slot found each at busy = let e : slot ≡ from = omega arith in ((e, subst (λ s. bit_at found (s % 32) ≡ 1) e busy), tt)
one_more from (x ∷ xs) slot found each at busy = (each.0, one_more (from + 1) xs slot found each.1 (omega arith) busy)

module _ {J : Type 0} where
  pub missed_more : (slot found : ℕ) (start me me' : Me (Option J) View) → Missed slot start me → me' ≡ (tried slot found me.0, me.1) → bit_at found (slot % 32) ≢ 0 → Missed (slot + 1) start me'
  missed_more slot found start me me' m step busy = record {
    tries = m.tries ++ FetchOr slot found ∷ [];
    each = let e = m.each in length-append m.tries (FetchOr slot found ∷ []) ∙ omega arith;
    all_set = let e = m.each in let below = bit_at-lt found (slot % 32) in one_more 0 m.tries slot found m.all_set (omega arith) (omega arith);
    me_is = step ∙ rw (ne_eqb (bit_at found (slot % 32)) 0 busy) refl
        ∙ ap (λ (x : Me (Option J) View). (noted (FetchOr slot found) x.0, x.1)) m.me_is
        ∙ ap (λ (l : List Note). (record start.0 { notes = l }, start.1)) (append_assoc start.0.notes m.tries (FetchOr slot found ∷ []));
  }
