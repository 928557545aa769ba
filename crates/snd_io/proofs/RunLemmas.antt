-- How runs of calls follow one another.
use Rattle.std.specs.Prelude.{◌≡◌, ◌⊎◌, ℕ, List, [], ◌++◌, Option, Some, None, refl}
use Rattle.std.specs.Option.{option_map}
use Rattle.std.proofs.Common.{sym, ◌∙◌, ap, append-nil, append_assoc, inl, inr}
use Rattle.snd_io.specs.declared.answers.Put.{Put}
use Rattle.snd_io.specs.declared.answers.Put.TheVariants.{Done, Failed, OutOfMemory}
use Rattle.snd_io.specs.Files.{Told, put_file, extend_file}
use Rattle.snd_io.proofs.FileLemmas.{extend_file-put_file}
use Rattle.snd_io.specs.Answers.{IsPrefix, Creates, Appends, Writes}
use Rattle.snd_io.proofs.PrefixLemmas.{IsPrefix-all, IsPrefix-none}
use Rattle.snd_io.specs.Runs.{GrowsBy, RunOfAppends, SetsFile}

-- ---- growing

pub GrowsBy-nothing : (name : List ℕ) (files : Told) → GrowsBy name [] files files
GrowsBy-nothing name files base told is = is ∙ ap (λ bytes. option_map (put_file name bytes) told) (sym (append-nil base))

pub GrowsBy-then : (name first second : List ℕ) (a b c : Told) → GrowsBy name first a b → GrowsBy name second b c → GrowsBy name (first ++ second) a c
GrowsBy-then name first second a b c one other base told is =
    other (base ++ first) told (one base told is) ∙ ap (λ bytes. option_map (put_file name bytes) told) (append_assoc base first second)

extended : (name base bytes : List ℕ) (told : Told) → option_map (extend_file name bytes) (option_map (put_file name base) told) ≡ option_map (put_file name (base ++ bytes)) told
extended name base bytes None = refl
extended name base bytes (Some files) = ap Some (extend_file-put_file name base bytes files)

pub GrowsBy-extend_file : (name bytes : List ℕ) (before after : Told) → after ≡ option_map (extend_file name bytes) before → GrowsBy name bytes before after
GrowsBy-extend_file name bytes before after is base told was =
    is ∙ ap (option_map (extend_file name bytes)) was ∙ extended name base bytes told

-- ---- runs of appends

pub run-nothing : (name : List ℕ) (files : Told) → RunOfAppends Done name [] files files (Some name)
run-nothing name files = (GrowsBy-nothing name files, refl)

-- one append is a run
pub run-append : (answer : Put) (name bytes : List ℕ) (before after : Told) (open_name : Option (List ℕ))
    → Appends answer name bytes before after open_name → RunOfAppends answer name bytes before after open_name
run-append Done name bytes before after open_name (grown, still) = (GrowsBy-extend_file name bytes before after grown, still)
run-append Failed name bytes before after open_name ((part, prefix, grown), closed) =
    ((part, prefix, GrowsBy-extend_file name part before after grown), closed)
run-append OutOfMemory name bytes before after open_name ((part, prefix, grown), closed) =
    ((part, prefix, GrowsBy-extend_file name part before after grown), closed)

prefix-after : (first part second : List ℕ) → IsPrefix part second → IsPrefix (first ++ part) (first ++ second)
prefix-after first part second (rest, is) = (rest, ap (λ bytes. first ++ bytes) is ∙ sym (append_assoc first part rest))

prefix-before : (part first second : List ℕ) → IsPrefix part first → IsPrefix part (first ++ second)
prefix-before part first second (rest, is) = (rest ++ second, ap (λ bytes. bytes ++ second) is ∙ append_assoc part rest second)

-- a run follows one that was done
pub run-then : (answer : Put) (name first second : List ℕ) (a b c : Told) (open_name : Option (List ℕ))
    → GrowsBy name first a b → RunOfAppends answer name second b c open_name → RunOfAppends answer name (first ++ second) a c open_name
run-then Done name first second a b c open_name grown (more, still) = (GrowsBy-then name first second a b c grown more, still)
run-then Failed name first second a b c open_name grown ((part, prefix, more), closed) =
    ((first ++ part, prefix-after first part second prefix, GrowsBy-then name first part a b c grown more), closed)
run-then OutOfMemory name first second a b c open_name grown ((part, prefix, more), closed) =
    ((first ++ part, prefix-after first part second prefix, GrowsBy-then name first part a b c grown more), closed)

-- nothing follows a run that stopped
pub run-failed : (name first second : List ℕ) (a b : Told) (open_name : Option (List ℕ))
    → RunOfAppends Failed name first a b open_name → RunOfAppends Failed name (first ++ second) a b open_name
run-failed name first second a b open_name ((part, prefix, grown), closed) = ((part, prefix-before part first second prefix, grown), closed)

pub run-out_of_memory : (name first second : List ℕ) (a b : Told) (open_name : Option (List ℕ))
    → RunOfAppends OutOfMemory name first a b open_name → RunOfAppends OutOfMemory name (first ++ second) a b open_name
run-out_of_memory name first second a b open_name ((part, prefix, grown), closed) = ((part, prefix-before part first second prefix, grown), closed)

-- ---- files that are set: a file is created, written by a run of appends, and finished

set-grown : (name bytes : List ℕ) (before created after : Told) → created ≡ option_map (put_file name []) before → GrowsBy name bytes created after → after ≡ option_map (put_file name bytes) before
set-grown name bytes before created after is grown = grown [] before is

pub set-run : (answer : Put) (name bytes : List ℕ) (before created after : Told) (open_name : Option (List ℕ))
    → created ≡ option_map (put_file name []) before → RunOfAppends answer name bytes created after open_name → SetsFile answer name bytes before after
set-run Done name bytes before created after open_name is (grown, still) = set-grown name bytes before created after is grown
set-run Failed name bytes before created after open_name is ((part, prefix, grown), closed) =
    inr (part, prefix, set-grown name part before created after is grown)
set-run OutOfMemory name bytes before created after open_name is ((part, prefix, grown), closed) =
    inr (part, prefix, set-grown name part before created after is grown)

-- a file that was set whole, and then failed at its end, was set to a prefix
pub set-failed : (name bytes : List ℕ) (before after : Told) → SetsFile Done name bytes before after → SetsFile Failed name bytes before after
set-failed name bytes before after is = inr (bytes, IsPrefix-all bytes, is)

pub set-out_of_memory : (name bytes : List ℕ) (before after : Told) → SetsFile Done name bytes before after → SetsFile OutOfMemory name bytes before after
set-out_of_memory name bytes before after is = inr (bytes, IsPrefix-all bytes, is)

not-created : (name bytes : List ℕ) (before after : Told) → (after ≡ before) ⊎ (after ≡ option_map (put_file name []) before) → SetsFile Failed name bytes before after
not-created name bytes before after (inl same) = inl same
not-created name bytes before after (inr empty) = inr ([], IsPrefix-none bytes, empty)

pub set-not_created_failed : (name bytes : List ℕ) (before after : Told) (open_name : Option (List ℕ)) → Creates Failed name before after open_name → SetsFile Failed name bytes before after
set-not_created_failed name bytes before after open_name (left, closed) = not-created name bytes before after left

pub set-not_created_out_of_memory : (name bytes : List ℕ) (before after : Told) (open_name : Option (List ℕ)) → Creates OutOfMemory name before after open_name → SetsFile OutOfMemory name bytes before after
set-not_created_out_of_memory name bytes before after open_name (left, closed) = not-created name bytes before after left

-- ---- runs of writes to a sink

text-joined : (first second : List ℕ) (text : Option (List ℕ)) → option_map (λ t. t ++ second) (option_map (λ t. t ++ first) text) ≡ option_map (λ t. t ++ (first ++ second)) text
text-joined first second None = refl
text-joined first second (Some text) = ap Some (append_assoc text first second)

pub writes-then : (answer : Put) (first second : List ℕ) (a b c : Option (List ℕ)) → b ≡ option_map (λ t. t ++ first) a → Writes answer second b c → Writes answer (first ++ second) a c
writes-then Done first second a b c one other = other ∙ ap (option_map (λ t. t ++ second)) one ∙ text-joined first second a
writes-then Failed first second a b c one (part, prefix, other) =
    (first ++ part, prefix-after first part second prefix, other ∙ ap (option_map (λ t. t ++ part)) one ∙ text-joined first part a)
writes-then OutOfMemory first second a b c one (part, prefix, other) =
    (first ++ part, prefix-after first part second prefix, other ∙ ap (option_map (λ t. t ++ part)) one ∙ text-joined first part a)

pub writes-failed : (first second : List ℕ) (a b : Option (List ℕ)) → Writes Failed first a b → Writes Failed (first ++ second) a b
writes-failed first second a b (part, prefix, is) = (part, prefix-before part first second prefix, is)

pub writes-out_of_memory : (first second : List ℕ) (a b : Option (List ℕ)) → Writes OutOfMemory first a b → Writes OutOfMemory (first ++ second) a b
writes-out_of_memory first second a b (part, prefix, is) = (part, prefix-before part first second prefix, is)
