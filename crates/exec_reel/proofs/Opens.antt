-- The opening of a table meets the rule.
use Rattle.std.proofs.Common.{◌≡◌, ℕ, zero, suc, ◌^◌, ◌≤◌, ◌<◌, List, [], ◌∷◌, map, length, refl, sym, ap, ◌∙◌, subst, arith}
use mathlib.Core.Option.{some, none, some-injective, some-ne-none}
use lib.ListN.{get_elem?}
use Rattle.atomic_table.specs.Table.{opening}
use Rattle.atomic_table.proofs.Lists.{at_map}
use Rattle.exec_reel.specs.Cells.{AreCells}
use Rattle.exec_reel.specs.ClipPages.{page_total}
use Rattle.exec_reel.specs.declared.cell.Cell.{Cell}
use Rattle.exec_reel.specs.declared.cell.Cell.TheVariants.{Decoder}
use Rattle.exec_reel.specs.declared.view.Opening.{Opening}
use Rattle.exec_reel.specs.declared.view.Stage.TheVariants.{Ready}
use Rattle.exec_reel.specs.Rule.{Board, Knows, Kept}
use Rattle.exec_reel.specs.Steps.{first_view}
use Rattle.exec_reel.proofs.Among.{none_among}

module _ {A : Type 0} where
  length_map : {B : Type 0} (f : A → B) (l : List A) → length (map f l) ≡ length l
  length_map f [] = refl
  length_map f (x ∷ xs) = ap suc (length_map f xs)

  the_only : (a b : A) (i : ℕ) → get_elem? (a ∷ []) i ≡ some b → (i ≡ 0) × (a ≡ b)
  the_only a b zero e = (refl, some-injective a b e)
  the_only a b (suc i) e = absurd (some-ne-none b (sym e))

abbrev first_board : ℕ → Board
first_board filled = record { counter = filled; pointer = filled; stage = Ready; turn = λ n. 0; taken = λ j. none; drawer = 0; reader = none }

pub opens : (k : Opening) (words : List ℕ) (cells : List Cell) → page_total k.clip < 2 ^ 32 → k.filled ≤ page_total k.clip → words ≡ k.filled ∷ k.filled ∷ [] → AreCells k.clip k.filled cells → Kept k (opening words cells (first_view k))
opens k words cells few most e h = record {
  board = first_board k.filled;
  few = few;
  words = e;
  homes = length_map some cells ∙ h.count;
  turns = record {
    bounds = (omega arith, most);
    works = tt;
    cursor = (h.cursor.0, at_map some cells (page_total k.clip) (Decoder h.cursor.0) h.cursor.1, h.cursor.2);
    page = λ j lt. record {
      before = λ less. at_map some cells j _ (h.full j lt less);
      here = λ same. at_map some cells j _ (h.empty j lt (omega arith));
      behind = λ less. at_map some cells j _ (h.empty j lt (omega arith));
    };
    seat = λ i v at. let only = the_only (first_view k) v i at in
        subst (λ u. Knows k.clip (first_board k.filled) i u) only.1 record { clip_is = refl; role = (sym only.0, refl, refl); shown = omega arith; taken = λ j m. absurd (none_among m) };
  };
}
