-- The opening, the splits and the join keep the rule.
use Rattle.std.proofs.Common.{◌≡◌, ℕ, zero, suc, ◌+◌, ◌*◌, ◌/◌, ◌%◌, ◌^◌, ◌<◌, List, [], ◌∷◌, map, replicate, length, get_or, set, refl, sym, ap, ◌∙◌, subst, inl, inr, arith, Option, None}
use Rattle.std.specs.Int.{bit_at}
use Rattle.std.proofs.lemmas.Nat.Bits.{bit_at-zero}
use mathlib.Core.Option.{some, none, some-injective, some-ne-none}
use lib.ListN.{get_elem?}
use base.Stored.{Gv}
use Rattle.atomic_table.specs.Table.{Splits, Joins, opening}
use Rattle.atomic_table.proofs.Lists.{set_else}
use Rattle.slot_tags.specs.declared.view.Role.{Role}
use Rattle.slot_tags.specs.declared.view.Role.TheVariants.{Splitter, Free, Won, Held, Open, Given, Spent}
use Rattle.slot_tags.specs.declared.view.JobCode.{JobCode}
use Rattle.slot_tags.specs.declared.view.Sizes.{Sizes}
use Rattle.slot_tags.specs.declared.view.View.{View}
use Rattle.slot_tags.specs.Rule.{Slots, slots_of, HasSlot, KnowsLast, ArePast, HoldsAs, Knows, Tagged, Kept, CanEnd}
use Rattle.slot_tags.specs.Steps.{first_view, spent, unchanged, split_off, new_tag, new_slot_seat, returned_as, joined}
use Rattle.slot_tags.proofs.Frame.{moved, still, added, past_append}
use Rattle.slot_tags.proofs.Facts.{splitter_bare, has_as, limit_as, holds_as, holds_from, code_none, is_set, nowhere}

zeros : (n i : ℕ) → ◌≡◌ {A = ℕ} (get_or (replicate n 0) i 0) 0
zeros zero i = refl
zeros (suc n) zero = refl
zeros (suc n) (suc i) = zeros n i

module _ {A : Type 0} where
  length_replicate : (n : ℕ) (a : A) → length (replicate n a) ≡ n
  length_replicate zero a = refl
  length_replicate (suc n) a = ap suc (length_replicate n a)

  length_homes : (l : List A) → length (map (λ (x : A). some x) l) ≡ length l
  length_homes [] = refl
  length_homes (x ∷ xs) = ap suc (length_homes xs)

  all_home : (n : ℕ) (a : A) (i : ℕ) → i < n → get_elem? (map some (replicate n a)) i ≡ some (some a)
  all_home zero a i lt = absurd (omega arith)
  all_home (suc n) a zero lt = refl
  all_home (suc n) a (suc i) lt = all_home n a i (omega arith)

  the_only : (a b : A) (i : ℕ) → get_elem? (a ∷ []) i ≡ some b → a ≡ b
  the_only a b zero e = some-injective a b e
  the_only a b (suc i) e = absurd (some-ne-none b (sym e))

module _ {J : Type 0} (code : J → Gv) (k : Sizes) where
  abbrev slots : ℕ
  slots = 32 * k.groups

  pub opens : 0 < k.last → k.last < 2 ^ 32 → (words : List ℕ) → words ≡ replicate (33 * k.groups) 0 → Kept code k (opening words (replicate {A = Option J} slots None) (first_view k))
  opens some_last bound words e = subst (λ ws. Kept code k (opening ws (replicate {A = Option J} slots None) (first_view k))) (sym e) record {
    words = length_replicate (33 * k.groups) 0;
    homes = length_homes (replicate {A = Option J} slots None) ∙ length_replicate {A = Option J} slots None;
    bound = bound;
    tagged = record {
      owner = λ x. none;
      slot = λ x lt. (
        all_home slots None x lt,
        inl (ap (λ n. bit_at n (x % 32)) (zeros (33 * k.groups) (x / 32)) ∙ bit_at-zero (x % 32), let z = zeros (33 * k.groups) (k.groups + x) in omega arith),
      );
      seat = λ i v at. subst (λ u. Knows code slots k.last (slots_of k.groups (replicate (33 * k.groups) 0) (map some (replicate {A = Option J} slots None))) (λ x. none) i u) (the_only (first_view k) v i at)
          record { owns = λ x h. absurd h; limit = refl; holds = tt; past = tt };
    };
  }

  -- a seat is split: neither part has a slot
  splits : (id : ℕ) (v left right : View) → v.role ≡ Splitter → (left.role ≡ Splitter) × (left.last ≡ v.last) × (left.given ≡ v.given)
      → ((x : ℕ) → HasSlot right.role right.slot x → ⊥) → (KnowsLast Splitter v.last k.last → KnowsLast right.role right.last k.last) → ((t : Slots (Option J)) → HoldsAs code right.role k.last t right.slot right.number right.job)
      → ((c : ℕ → ℕ) → ArePast c v.given → ArePast c right.given) → Splits (Kept code k) id v left right
  splits id v left right role same bare limit holds past s h at =
      let t : Slots (Option J) = slots_of k.groups s.words s.homes in
      let old = h.tagged.seat id v at in
      let known : v.last ≡ k.last = limit_as v.role Splitter v.last k.last role old.limit in
      record {
        words = h.words;
        homes = h.homes;
        bound = h.bound;
        tagged = added code slots k.last t (set s.views id left) right
            (still code slots k.last t t s.views id v left h.tagged at (nowhere slots t)
            (λ x. splitter_bare v.role v.slot x role) (λ x. splitter_bare left.role left.slot x same.0)
            (limit_as Splitter left.role left.last k.last (sym same.0) (same.1 ∙ known))
            (holds_from code left.role Splitter k.last t left.slot left.number left.job same.0 tt)
            (subst (λ g. ArePast t.count g) (sym same.2) old.past))
            bare (limit known) (holds t) (past t.count old.past);
      }

  pub splits_tag : (id : ℕ) (v : View) → v.role ≡ Splitter → Splits (Kept code k) id v (split_off v) (new_tag v)
  splits_tag id v role = splits id v (split_off v) (new_tag v) role (role, refl, refl) (λ x h. absurd h) (λ l. l) (λ t. tt) (λ c p. p)

  pub splits_slot_seat : (id : ℕ) (v : View) → v.role ≡ Splitter → Splits (Kept code k) id v (unchanged v) (new_slot_seat v)
  splits_slot_seat id v role = splits id v (unchanged v) (new_slot_seat v) role (role, refl, refl) (λ x. splitter_bare v.role v.slot x role)
      (λ l. limit_as Splitter v.role v.last k.last (sym role) l) (λ t. holds_from code v.role Splitter k.last t v.slot v.number v.job role tt) (λ c p. tt)

  -- the number of a tag that ends is one that its slot's counter has reached
  returned_past : (r : Role) (t : Slots (Option J)) (slot number : ℕ) (job : Option JobCode) → CanEnd k.last r number job → HoldsAs code r k.last t slot number job → ArePast t.count (returned_as r slot number)
  returned_past Splitter t slot number job can h = absurd can
  returned_past Free t slot number job can h = tt
  returned_past Won t slot number job can h = absurd can
  returned_past Held t slot number job can h = (let e = h.0 in omega arith, tt)
  returned_past Open t slot number job can h = absurd can
  returned_past Given t slot number job can h = (h, tt)
  returned_past Spent t slot number job can h = absurd can

  -- the seat of a tag that ends is spent, and a slot that it still has is retired
  ends : (r : Role) (t : Slots (Option J)) (views : List View) (id : ℕ) (w : View) → Tagged code slots k.last t views → get_elem? views id ≡ some w → w.role ≡ r → CanEnd k.last r w.number w.job → Tagged code slots k.last t (set views id spent)
  ends Splitter t views id w h at role can = absurd can
  ends Free t views id w h at role can = still code slots k.last t t views id w spent h at (nowhere slots t) (λ x a. has_as w.role Free w.slot x role a) (λ x a. a) tt tt tt
  ends Won t views id w h at role can = absurd can
  ends Held t views id w h at role can =
      let old = h.seat id w at in
      let mine = old.owns w.slot (subst (λ z. HasSlot z w.slot w.slot) (sym role) refl) in
      let holds = holds_as code w.role Held k.last t w.slot w.number w.job role old.holds in
      moved code slots k.last t t views id w.slot w spent none h at record { same = λ x lt n. (refl, refl, refl); grows = λ x. omega arith }
      (λ lt. inr mine.1) (λ x a. sym (has_as w.role Held w.slot x role a))
      (λ lt. (
        holds.2.1 ∙ ap (λ (y : Option J). some (some y)) (code_none code holds.2.0 (holds.2.2 ∙ can.1)),
        inr (is_set k.last t views w.slot id (h.owner w.slot) (h.slot w.slot lt) mine.1, let a = holds.0 in let b = holds.1 in let c = can.0 in omega arith),
      ))
      (λ x a. absurd a) tt tt tt
  ends Open t views id w h at role can = absurd can
  ends Given t views id w h at role can = still code slots k.last t t views id w spent h at (nowhere slots t) (λ x a. has_as w.role Given w.slot x role a) (λ x a. a) tt tt tt
  ends Spent t views id w h at role can = absurd can

  pub joins : (id other : ℕ) (v w : View) → v.role ≡ Splitter → CanEnd k.last w.role w.number w.job → Joins (Kept code k) id v other w (joined v w) spent
  joins id other v w role can s h at apart there =
      let t : Slots (Option J) = slots_of k.groups s.words s.homes in
      let at_other : get_elem? s.views other ≡ some w = sym (set_else s.views id other (joined v w) apart) ∙ there in
      let old = h.tagged.seat id v at in
      let ended = h.tagged.seat other w at_other in
      record {
        words = h.words;
        homes = h.homes;
        bound = h.bound;
        tagged = ends w.role t (set s.views id (joined v w)) other w
            (still code slots k.last t t s.views id v (joined v w) h.tagged at (nowhere slots t)
            (λ x. splitter_bare v.role v.slot x role) (λ x. splitter_bare v.role v.slot x role) old.limit old.holds
            (past_append t.count v.given (returned_as w.role w.slot w.number) old.past (returned_past w.role t w.slot w.number w.job can ended.holds)))
            there refl can;
      }

module _ {J : Type 0} (code : J → Gv) (key k : Sizes) (about : key ≡ k) (id : ℕ) (v : View) (role : v.role ≡ Splitter) where
  pub splits_tag_as : Splits (Kept code key) id v (split_off v) (new_tag v)
  splits_tag_as = subst (λ a. Splits (Kept code a) id v (split_off v) (new_tag v)) (sym about) (splits_tag code k id v role)

  pub splits_slot_seat_as : Splits (Kept code key) id v (unchanged v) (new_slot_seat v)
  splits_slot_seat_as = subst (λ a. Splits (Kept code a) id v (unchanged v) (new_slot_seat v)) (sym about) (splits_slot_seat code k id v role)

  pub joins_as : (other : ℕ) (w : View) → CanEnd k.last w.role w.number w.job → Joins (Kept code key) id v other w (joined v w) spent
  joins_as other w can = subst (λ a. Joins (Kept code a) id v other w (joined v w) spent) (sym about) (joins code k id other v w role can)
