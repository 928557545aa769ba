-- The cells of a table are made one after the other.
use Rattle.std.proofs.Common.{◌≡◌, ◌≢◌, ℕ, ◌+◌, ◌≤◌, ◌<◌, List, [], ◌∷◌, ◌++◌, length, sym, ap, ◌∙◌, arith, length-append}
use mathlib.Core.Option.{some}
use mathlib.Core.Logic.{dite}
use native.Mathlib.Decide.{ℕ_discrete}
use lib.ListN.{get_elem?}
use Rattle.atomic_table.proofs.Lists.{at_last, at_longer}
use Rattle.clip_decode.specs.ClipData.{ClipData}
use Rattle.clip_decode.specs.Pages.{PageData}
use Rattle.clip_decode.specs.declared.cursor.Cursor.{Cursor}
use Rattle.exec_reel.specs.Cells.{ComesAfter, LiesAt, ArePages, AreCells}
use Rattle.exec_reel.specs.ClipPages.{page_total, page_of, empty_page}
use Rattle.exec_reel.specs.declared.cell.Cell.{Cell}
use Rattle.exec_reel.specs.declared.cell.Cell.TheVariants.{Decoder, Page}

pub no_cells : (clip : ClipData) (filled : ℕ) (cells : List Cell) → cells ≡ [] → ArePages clip filled 0 cells
no_cells clip filled cells e = record { count = ap length e; full = λ j lt. absurd (omega arith); empty = λ j lt. absurd (omega arith) }

module _ (clip : ClipData) (filled n : ℕ) (cells : List Cell) (h : ArePages clip filled n cells) where
  old_or_new : (y : Cell) (j : ℕ) (x : Cell) → j < n + 1 → (j < n → get_elem? cells j ≡ some x) → (j ≡ n → y ≡ x) → get_elem? (cells ++ y ∷ []) j ≡ some x
  old_or_new y j x lt old new = dite (ℕ_discrete j n)
      (λ (e : j ≡ n). ap (get_elem? (cells ++ y ∷ [])) e ∙ at_last cells y n h.count ∙ ap (λ z. some z) (new e))
      (λ (ne : j ≢ n). at_longer cells (y ∷ []) j x (old (omega arith)))

  pub pages_more : (page : PageData) → LiesAt clip filled n page → ArePages clip filled (n + 1) (cells ++ Page page ∷ [])
  pages_more page lies = record {
    count = let c = h.count in length-append cells (Page page ∷ []) ∙ omega arith;
    full = λ j lt less. old_or_new (Page page) j (Page (page_of clip j)) lt (λ below. h.full j below less) (λ e. ap (λ p. Page p) (lies.full (omega arith) ∙ ap (page_of clip) (sym e)));
    empty = λ j lt most. old_or_new (Page page) j (Page (empty_page clip)) lt (λ below. h.empty j below most) (λ e. ap (λ p. Page p) (lies.empty (omega arith)));
  }

  pub all_cells : (cursor : Cursor) → n ≡ page_total clip → filled ≤ n → ComesAfter clip filled n cursor → AreCells clip filled (cells ++ Decoder cursor ∷ [])
  all_cells cursor e most comes = record {
    count = let c = h.count in length-append cells (Decoder cursor ∷ []) ∙ omega arith;
    full = λ j lt less. at_longer cells (Decoder cursor ∷ []) j (Page (page_of clip j)) (h.full j (omega arith) less);
    empty = λ j lt least. at_longer cells (Decoder cursor ∷ []) j (Page (empty_page clip)) (h.empty j (omega arith) least);
    cursor = (cursor, ap (get_elem? (cells ++ Decoder cursor ∷ [])) (sym e) ∙ at_last cells (Decoder cursor) n h.count, record { page = comes.after most; stands = comes.stands });
  }
