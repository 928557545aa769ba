-- Readers of reels after some calls.
use Rattle.std.proofs.Common.{◌≡◌, ℕ, ◌+◌, ◌<◌, ◌≤◌, ◌⊎◌, inl, inr, Bool, true, false, ◌==◌, cond, List, [], ◌∷◌, ◌++◌, refl, sym, ◌∙◌, ap, subst, arith}
use Rattle.std.specs.Prelude.{Result, Ok, Err, MatchResult}
use Rattle.std.proofs.lemmas.Bool.{cases_lt}
use Rattle.std.proofs.lemmas.List.{append_assoc, append-nil}
use Rattle.exec_reel.specs.ClipPages.{page_total}
use Rattle.exec_reel.specs.ReadPages.{Gave, IsNotYet}
use Rattle.exec_reel.specs.Reels.{clip_of_reader, shown_of, taken_of, notes_of_reader}
use Rattle.exec_reel.specs.Rule.{is_among, IsAmong}
use Rattle.exec_reel.specs.declared.view.Note.TheVariants.{LoadPointer}
use Rattle.exec_reel.specs.declared.not_yet.NotYet.{NotYet}
use Rattle.exec_reel.specs.declared.reader.Reader.{Reader}
use Rattle.resource_mgr.specs.Reading.{HasFirst, IsLaterReader}

still_among : (j k : ℕ) (xs : List ℕ) → IsAmong j xs → IsAmong j (k ∷ xs)
still_among j k xs among = by_test (k == j)
  where
    by_test : (b : Bool) → cond b true (is_among j xs) ≡ true
    by_test true = refl
    by_test false = among

pub gave_later : (r r' : Reader) (k : ℕ) → Gave r r' k → IsLaterReader r r'
gave_later r r' k g = record {
  same = g.same;
  rises = g.rises;
  taken = λ j among. by_move (is_among k (taken_of r)) refl j among;
  more = g.look ++ g.move;
  notes = g.notes ∙ append_assoc (notes_of_reader r) g.look g.move;
}
  where
    by_move : (b : Bool) → is_among k (taken_of r) ≡ b → (j : ℕ) → IsAmong j (taken_of r) → IsAmong j (taken_of r')
    by_move true e j among = subst (IsAmong j) (sym (g.moves.there e).1) among
    by_move false e j among = subst (IsAmong j) (sym (g.moves.taken e).1) (still_among j k (taken_of r) among)

pub not_yet_later : (r r' : Reader) (k shown : ℕ) → IsNotYet r r' k shown → IsLaterReader r r'
not_yet_later r r' k shown n = record {
  same = n.same;
  rises = let e = n.shown_is in let rises = n.rises in omega (arith, e, rises);
  taken = λ j among. subst (IsAmong j) (sym n.taken) among;
  more = LoadPointer shown ∷ [];
  notes = n.notes;
}

pub later_refl : (r : Reader) → IsLaterReader r r
later_refl r = record {
  same = (refl, refl);
  rises = omega arith;
  taken = λ j among. among;
  more = [];
  notes = sym (append-nil (notes_of_reader r));
}

pub later_trans : (r m r' : Reader) → IsLaterReader r m → IsLaterReader m r' → IsLaterReader r r'
later_trans r m r' first then = record {
  same = (then.same.0 ∙ first.same.0, then.same.1 ∙ first.same.1);
  rises = let a = first.rises in let b = then.rises in omega (arith, a, b);
  taken = λ j among. then.taken j (first.taken j among);
  more = first.more ++ then.more;
  notes = then.notes ∙ ap (λ notes. notes ++ then.more) first.notes ∙ append_assoc (notes_of_reader r) first.more then.more;
}

-- pages that were shown before are given
pub asked : {T : Type 0} (r r' : Reader) (k : ℕ) (x : Result T NotYet) → MatchResult x (λ _. Gave r r' k) (λ (early : NotYet). IsNotYet r r' k early.shown) → k < shown_of r → Gave r r' k
asked r r' k (Ok given) g below = g
asked r r' k (Err early) n below = let before = n.before in absurd (omega (arith, before, below))

pub has_fewer : (m n : ℕ) (r : Reader) → m ≤ n → HasFirst n r → HasFirst m r
has_fewer m n r few has = record {
  most = let e = has.most in omega (arith, e, few);
  shown = let e = has.shown in omega (arith, e, few);
  each = λ k below. has.each k (omega (arith, below, few));
}

pub has_still : (n : ℕ) (r r' : Reader) → IsLaterReader r r' → HasFirst n r → HasFirst n r'
has_still n r r' later has = record {
  most = subst (λ clip. n ≤ page_total clip) (sym later.same.1) has.most;
  shown = let a = has.shown in let b = later.rises in omega (arith, a, b);
  each = λ k below. later.taken k (has.each k below);
}

-- one more
pub has_next : (k : ℕ) (r r' : Reader) → k < page_total (clip_of_reader r) → Gave r r' k → HasFirst k r → HasFirst (k + 1) r'
has_next k r r' there g has = record {
  most = subst (λ clip. k + 1 ≤ page_total clip) (sym g.same.1) (omega (arith, there));
  shown = let below = g.below in omega (arith, below);
  each = λ j below. by_place j below (cases_lt j k);
}
  where
    by_place : (j : ℕ) → j < k + 1 → (j < k) ⊎ (k ≤ j) → IsAmong j (taken_of r')
    by_place j below (inl less) = (gave_later r r' k g).taken j (has.each j less)
    by_place j below (inr past) = let same : k ≡ j = omega (arith, below, past) in subst (λ i. IsAmong i (taken_of r')) same g.has
