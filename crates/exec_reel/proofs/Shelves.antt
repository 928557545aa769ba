-- The pages that a reader has taken, by number.
use Rattle.std.proofs.Common.{◌≡◌, ◌≢◌, ℕ, Bool, true, false, ◌+◌, ◌<◌, cond, List, [], ◌∷◌, ◌++◌, length, set, get_or, sym, ap, ◌∙◌, refl, arith, length-append, length-set, is_some, Option, Some, None}
use mathlib.Core.Option.{some, some-injective}
use mathlib.Core.Logic.{dite}
use native.Mathlib.Decide.{ℕ_discrete}
use lib.ListN.{get_elem?}
use Rattle.atomic_table.proofs.Lists.{at_last, at_longer, at_index, set_here, set_else}
use Rattle.clip_decode.specs.ClipData.{ClipData}
use Rattle.clip_decode.specs.Pages.{PageData}
use Rattle.exec_reel.specs.ClipPages.{page_total, page_of}
use Rattle.exec_reel.specs.ReaderPages.{AreNone, kept_at, KeepsPages}
use Rattle.exec_reel.specs.Rule.{is_among, IsAmong}
use Rattle.exec_reel.proofs.Among.{among_here, among_else}

pub none_yet : (pages : List (Option PageData)) → pages ≡ [] → AreNone 0 pages
none_yet pages e = record { count_is = ap length e; each = λ j lt. absurd (omega arith) }

pub one_more_none : (n : ℕ) (pages : List (Option PageData)) → AreNone n pages → AreNone (n + 1) (pages ++ None ∷ [])
one_more_none n pages h = record {
  count_is = let c = h.count_is in length-append pages (None ∷ []) ∙ omega arith;
  each = λ j lt. dite (ℕ_discrete j n)
      (λ (e : j ≡ n). ap (get_elem? (pages ++ None ∷ [])) e ∙ at_last pages None n h.count_is)
      (λ (ne : j ≢ n). at_longer pages (None ∷ []) j None (h.each j (omega arith)));
}

-- a new reader has taken no page
pub keeps_none : (clip : ClipData) (taken : List ℕ) (n : ℕ) (pages : List (Option PageData)) → taken ≡ [] → n ≡ page_total clip → AreNone n pages → KeepsPages clip taken pages
keeps_none clip taken n pages none size h = record {
  count = h.count_is ∙ size;
  each = λ j lt. h.each j (omega arith) ∙ ap (λ l. some (kept_at clip l j)) (sym none);
}

module _ (clip : ClipData) (taken : List ℕ) (pages : List (Option PageData)) (h : KeepsPages clip taken pages) (k : ℕ) (lt : k < page_total clip) where
  -- what lies at the place of page k
  pub lies_at : (x : Option PageData) → x ≡ get_or pages k x → x ≡ kept_at clip taken k
  lies_at x e = let c = h.count in some-injective x (kept_at clip taken k) (sym (at_index pages k x (omega arith) e) ∙ h.each k lt)

  by_flag : (b : Bool) (x : Option PageData) → x ≡ cond b (Some (page_of clip k)) None → ((page : PageData) → x ≡ Some page → (b ≡ true) × (page ≡ page_of clip k)) × (x ≡ None → b ≡ false)
  by_flag true x e = ((λ page s. (refl, cc)), λ n. absurd (cc))
  by_flag false x e = ((λ page s. absurd (cc)), λ n. refl)

  -- a page that lies there was taken, and is the clip's
  pub is_taken : (x : Option PageData) (page : PageData) → x ≡ get_or pages k x → x ≡ Some page → IsAmong k taken × (page ≡ page_of clip k)
  is_taken x page e some_page = (by_flag (is_among k taken) x (lies_at x e)).0 page some_page

  flag_of : (b : Bool) → is_some (cond b (Some (page_of clip k)) None) ≡ b
  flag_of true = refl
  flag_of false = refl

  pub is_there : (x : Option PageData) → x ≡ get_or pages k x → is_some x ≡ is_among k taken
  is_there x e = ap is_some (lies_at x e) ∙ flag_of (is_among k taken)

  pub isn't_taken : (x : Option PageData) → x ≡ get_or pages k x → x ≡ None → is_among k taken ≡ false
  isn't_taken x e none = (by_flag (is_among k taken) x (lies_at x e)).1 none

  -- once page k is taken too
  pub keeps_more : (page : PageData) → page ≡ page_of clip k → KeepsPages clip (k ∷ taken) (set pages k (Some page))
  keeps_more page e = record {
    count = length-set pages k (Some page) ∙ h.count;
    each = λ j less. dite (ℕ_discrete j k)
        (λ (same : j ≡ k). ap (get_elem? (set pages k (Some page))) same ∙ set_here pages k (Some page) (let c = h.count in omega arith)
        ∙ ap (λ p. some (Some p)) (e ∙ ap (page_of clip) (sym same)) ∙ ap (λ b. some (cond b (Some (page_of clip j)) None)) (sym (among_here j k taken (sym same))))
        (λ (ne : j ≢ k). set_else pages k j (Some page) ne ∙ h.each j less ∙ ap (λ b. some (cond b (Some (page_of clip j)) None)) (sym (among_else j k taken (λ e. ne (sym e)))));
  }
