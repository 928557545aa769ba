-- Tapes after some calls.
use Rattle.std.proofs.Common.{◌≡◌, ℕ, zero, suc, ◌<◌, ◌≤◌, List, [], ◌∷◌, ◌++◌, length, set, get_or, Some, refl, sym, ◌∙◌, ap, subst, arith}
use Rattle.std.specs.Prelude.{slice_get}
use Rattle.std.proofs.lemmas.List.{append_assoc, append-nil}
use Rattle.std.proofs.lemmas.List.Elements.{AllZip-get_or}
use Rattle.std.proofs.lemmas.Option.{get_or_from_slice_get, slice_get_within}
use Rattle.clip_decode.specs.ClipData.{ClipData}
use Rattle.exec_reel.specs.ClipPages.{page_total}
use Rattle.exec_reel.specs.ReadPages.{IsNotYet}
use Rattle.exec_reel.specs.declared.view.Note.TheVariants.{LoadPointer}
use Rattle.resource_mgr.specs.Tapes.{AreLater, AreShown, IsLater, WasNotShown, bytes_of, clip_of, files_of, notes_of, shown_to}
use Rattle.resource_mgr.specs.declared.tape.Tape.{Tape}
use Rattle.resource_mgr.proofs.Readers.{later_refl, later_trans, not_yet_later}

pub same_bytes : (t t' : Tape) → IsLater t t' → bytes_of t' ≡ bytes_of t
same_bytes t t' later = ap (λ (c : ClipData). c.bytes) later.same.1

pub laters_refl : (ts : List Tape) → AreLater ts ts
laters_refl [] = tt
laters_refl (t ∷ ts) = (later_refl t.reader, laters_refl ts)

pub laters_trans : (ts ms ts' : List Tape) → AreLater ts ms → AreLater ms ts' → AreLater ts ts'
laters_trans [] [] [] a b = tt
laters_trans [] [] (t' ∷ ts') a b = b
laters_trans [] (m ∷ ms) ts' a b = absurd a
laters_trans (t ∷ ts) [] ts' a b = absurd a
laters_trans (t ∷ ts) (m ∷ ms) [] a b = b
laters_trans (t ∷ ts) (m ∷ ms) (t' ∷ ts') a b = (later_trans t.reader m.reader t'.reader a.0 b.0, laters_trans ts ms ts' a.1 b.1)

-- one of them
pub laters_set : (ts : List Tape) (k : ℕ) (d t' : Tape) → IsLater (get_or ts k d) t' → AreLater ts (set ts k t')
laters_set [] k d t' later = tt
laters_set (x ∷ ts) zero d t' later = (later, laters_refl ts)
laters_set (x ∷ ts) (suc k) d t' later = (later_refl x.reader, laters_set ts k d t' later)

pub laters_files : (ts ts' : List Tape) → AreLater ts ts' → files_of ts' ≡ files_of ts
laters_files [] [] a = refl
laters_files [] (t' ∷ ts') a = absurd a
laters_files (t ∷ ts) [] a = absurd a
laters_files (t ∷ ts) (t' ∷ ts') a = ap (λ b. b ∷ files_of ts') (same_bytes t t' a.0) ∙ ap (λ bs. bytes_of t ∷ bs) (laters_files ts ts' a.1)

pub laters_at : (ts ts' : List Tape) (k : ℕ) (t t' : Tape) → AreLater ts ts' → slice_get ts k ≡ Some t → slice_get ts' k ≡ Some t' → IsLater t t'
laters_at ts ts' k t t' later here there =
    subst (λ (x : Tape). IsLater x t') (get_or_from_slice_get ts k t t here)
    (subst (λ (x : Tape). IsLater (get_or ts k t) x) (get_or_from_slice_get ts' k t' t' there)
    (AllZip-get_or IsLater ts ts' k t t' later (slice_get_within ts k t here)))

shown_still : (t t' : Tape) → IsLater t t' → page_total (clip_of t) ≤ shown_to t → page_total (clip_of t') ≤ shown_to t'
shown_still t t' later shown =
    let rises = later.rises in
    subst (λ (c : ClipData). page_total c ≤ shown_to t') (sym later.same.1) (omega (arith, shown, rises))

pub laters_shown : (ts ts' : List Tape) → AreLater ts ts' → AreShown ts → AreShown ts'
laters_shown ts ts' later shown k d inside =
    let same : length ts ≡ length ts' = laters_long ts ts' later in
    let there : k < length ts = omega (arith, inside, same) in
    shown_still (get_or ts k d) (get_or ts' k d) (AllZip-get_or IsLater ts ts' k d d later there) (shown k d there)
  where
    laters_long : (ts ts' : List Tape) → AreLater ts ts' → length ts ≡ length ts'
    laters_long [] [] a = refl
    laters_long [] (t' ∷ ts') a = absurd a
    laters_long (t ∷ ts) [] a = absurd a
    laters_long (t ∷ ts) (t' ∷ ts') a = ap suc (laters_long ts ts' a.1)

-- ---- a page that wasn't shown

pub not_shown : (t t' : Tape) (k shown : ℕ) → k < page_total (clip_of t) → IsNotYet t.reader t'.reader k shown → WasNotShown t t' k shown
not_shown t t' k shown there n = record {
  later = not_yet_later t.reader t'.reader k shown n;
  there = there;
  before = n.before;
  most = n.most;
  shown_is = n.shown_is;
  earlier = [];
  notes = n.notes ∙ sym (ap (λ notes. notes ++ LoadPointer shown ∷ []) (append-nil (notes_of t)));
}

pub not_shown_after : (t m t' : Tape) (k shown : ℕ) → IsLater t m → WasNotShown m t' k shown → WasNotShown t t' k shown
not_shown_after t m t' k shown later n = record {
  later = later_trans t.reader m.reader t'.reader later n.later;
  there = subst (λ (c : ClipData). k < page_total c) later.same.1 n.there;
  before = let a = later.rises in let b = n.before in omega (arith, a, b);
  most = n.most;
  shown_is = n.shown_is;
  earlier = later.more ++ n.earlier;
  notes = n.notes
      ∙ ap (λ notes. (notes ++ n.earlier) ++ LoadPointer shown ∷ []) later.notes
      ∙ ap (λ notes. notes ++ LoadPointer shown ∷ []) (append_assoc (notes_of t) later.more n.earlier);
}

-- a tape to which all pages were shown answers each
pub none_missing : (t t' : Tape) (k shown : ℕ) → page_total (clip_of t) ≤ shown_to t → WasNotShown t t' k shown → ⊥
none_missing t t' k shown whole n = let there = n.there in let before = n.before in omega (arith, there, before, whole)
