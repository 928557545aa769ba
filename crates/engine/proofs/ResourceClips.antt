-- The clip of a resource, and its tape.
use Rattle.std.proofs.Common.{◌≡◌, ◌⊎◌, inl, inr, ℕ, ◌<◌, ◌≤◌, Bool, List, length, map, set, get_or, Option, Some, None, sym, ◌∙◌, ap, subst, arith}
use Rattle.std.specs.Prelude.{IfSome, slice_get}
use Rattle.std.proofs.lemmas.List.{get_or-map, get_or-set_same, length-map}
use Rattle.std.proofs.lemmas.Option.{get_or_from_slice_get, slice_get_cases}
use Rattle.scene_clips.specs.SceneClipData.{SceneClipData}
use Rattle.resource_mgr.specs.Tapes.{WasNotShown, bytes_of, files_of}
use Rattle.resource_mgr.specs.declared.tape.Tape.{Tape}
use Rattle.engine.specs.Needs.{IsMissingAt, IsMissingOf}

pub there_is : {X : Type 0} (xs : List X) (k : ℕ) (d : X) → k < length xs → slice_get xs k ≡ Some (get_or xs k d)
there_is {X = X} xs k d inside = by_place (slice_get_cases xs k).1
  where
    by_place : ((x : X) × (k < length xs) × (slice_get xs k ≡ Some x) × (get_or xs k x ≡ x)) ⊎ ((length xs ≤ k) × (slice_get xs k ≡ None)) → slice_get xs k ≡ Some (get_or xs k d)
    by_place (inl (x, below, here, e)) = here ∙ ap Some (sym (get_or_from_slice_get xs k x d here))
    by_place (inr (past, none)) = absurd (omega (arith, inside, past))

pub of_there : {X : Type 0} (P : X → Type 0) (xs : List X) (k : ℕ) (d : X) → k < length xs → IfSome (slice_get xs k) P → P (get_or xs k d)
of_there {X = X} P xs k d inside is = subst (λ (o : Option X). IfSome o P) (there_is xs k d inside) is

pub alike_at : (tapes : List Tape) (clips : List SceneClipData) (k : ℕ) (t : Tape) (c : SceneClipData) → files_of tapes ≡ map (λ (x : SceneClipData). x.bytes) clips → k < length clips
    → bytes_of (get_or tapes k t) ≡ (get_or clips k c).bytes
alike_at tapes clips k t c alike inside =
    let long : length tapes ≡ length clips = sym (length-map tapes bytes_of) ∙ ap length alike ∙ length-map clips (λ (x : SceneClipData). x.bytes) in
    sym (get_or-map bytes_of tapes k t (bytes_of t) (omega (arith, inside, long)))
    ∙ ap (λ fs. get_or fs k (bytes_of t)) alike
    ∙ get_or-map (λ (x : SceneClipData). x.bytes) clips k c (bytes_of t) inside

pub same_long : (tapes : List Tape) (clips : List SceneClipData) → files_of tapes ≡ map (λ (x : SceneClipData). x.bytes) clips → length tapes ≡ length clips
same_long tapes clips alike = sym (length-map tapes bytes_of) ∙ ap length alike ∙ length-map clips (λ (x : SceneClipData). x.bytes)

-- its tape wasn't shown a page
pub missing_of : (clips : List SceneClipData) (tapes : List Tape) (looped : Bool) (place count k : ℕ) (c : SceneClipData) (d t' : Tape) (page shown : ℕ) → k < length clips → k < length tapes
    → IsMissingAt (get_or clips k c) looped place count (get_or tapes k d) t' page shown → IsMissingOf clips looped place count tapes (set tapes k t') k page shown
missing_of clips tapes looped place count k c d t' page shown inside there m = record {
  clip = get_or clips k c;
  clip_is = there_is clips k c inside;
  after = m.after;
  within = m.within;
  inside = m.inside;
  made = m.made;
  tape = λ x x' here now.
      let old : get_or tapes k d ≡ x = get_or_from_slice_get tapes k x d here in
      let new : t' ≡ x' = sym (get_or-set_same tapes k t' d there) ∙ get_or_from_slice_get (set tapes k t') k x' d now in
      subst (λ (y : Tape). WasNotShown y x' page shown) old (subst (λ (y : Tape). WasNotShown (get_or tapes k d) y page shown) new m.tape);
}
