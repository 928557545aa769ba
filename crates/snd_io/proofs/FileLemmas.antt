-- Names that are set and extended.
use Rattle.std.specs.Prelude.{◌≡◌, ◌≢◌, ℕ, List, [], ◌++◌, Option, Some, unwrap_or, Bool, true, false, cond, refl}
use Rattle.std.specs.FinMap.{get, get-insert, same_map, slice_cmp-IsAntisymmetric, nat_cmp-IsAntisymmetric}
use Rattle.std.specs.Cmp.{eq_by_cmp_equiv}
use Rattle.std.specs.Cmp.Lexicographic.{slice_cmp, nat_list_cmp_total}
use Rattle.std.specs.declared.cmp.Ordering.{Ordering}
use Rattle.std.specs.declared.cmp.Ordering.TheVariants.{Less, Equal, Greater}
use Rattle.std.specs.Ordering.{nat_cmp, eq_by_cmp, is_eq}
use Rattle.std.proofs.Common.{sym, ◌∙◌, ap}
use Rattle.snd_io.specs.Files.{Files, put_file, extend_file}

same_name : (name : List ℕ) → eq_by_cmp (slice_cmp nat_cmp) name name ≡ true
same_name name = (eq_by_cmp_equiv nat_list_cmp_total).refl name

-- a name has the bytes that it was set to
pub get-put_file : (name bytes : List ℕ) (files : Files) → get (put_file name bytes files) name ≡ Some bytes
get-put_file name bytes files = get-insert nat_list_cmp_total files name bytes name ∙ ap (λ b. cond b (Some bytes) (get files name)) (same_name name)

equal : (o : Ordering) → is_eq o ≡ true → o ≡ Equal
equal Less e = cc
equal Equal e = refl
equal Greater e = cc

tied : (b : Bool) (name other : List ℕ) → eq_by_cmp (slice_cmp nat_cmp) other name ≡ b → other ≢ name → b ≡ false
tied true name other is differs = absurd (differs (slice_cmp-IsAntisymmetric nat_cmp-IsAntisymmetric other name (equal (slice_cmp nat_cmp other name) is)))
tied false name other is differs = refl

-- every other name keeps its bytes
pub get-put_other : (name other bytes : List ℕ) (files : Files) → other ≢ name → get (put_file name bytes files) other ≡ get files other
get-put_other name other bytes files differs =
    get-insert nat_list_cmp_total files name bytes other ∙ ap (λ b. cond b (Some bytes) (get files other)) (tied _ name other refl differs)

last_counts : (b : Bool) (x y : List ℕ) (o : Option (List ℕ)) → cond b (Some y) (cond b (Some x) o) ≡ cond b (Some y) o
last_counts true x y o = refl
last_counts false x y o = refl

-- of two settings of one name the last one counts
pub put_file-twice : (name before after : List ℕ) (files : Files) → put_file name after (put_file name before files) ≡ put_file name after files
put_file-twice name before after files =
    same_map nat_list_cmp_total (slice_cmp-IsAntisymmetric nat_cmp-IsAntisymmetric) _ _ (λ q.
    get-insert nat_list_cmp_total (put_file name before files) name after q
    ∙ ap (λ o. cond (eq_by_cmp (slice_cmp nat_cmp) q name) (Some after) o) (get-insert nat_list_cmp_total files name before q)
    ∙ last_counts (eq_by_cmp (slice_cmp nat_cmp) q name) before after (get files q)
    ∙ sym (get-insert nat_list_cmp_total files name after q))

-- a name that was set and then extended was set to both, one after the other
pub extend_file-put_file : (name bytes more : List ℕ) (files : Files) → extend_file name more (put_file name bytes files) ≡ put_file name (bytes ++ more) files
extend_file-put_file name bytes more files =
    ap (λ o. put_file name (unwrap_or o [] ++ more) (put_file name bytes files)) (get-put_file name bytes files)
    ∙ put_file-twice name bytes (bytes ++ more) files
