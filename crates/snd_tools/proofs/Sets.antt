-- Files that are set one after the other.
use Rattle.std.proofs.Common.{◌≡◌, ◌⊎◌, ◌<◌, ◌≤◌, ◌+◌, ◌-◌, ℕ, suc, List, [], ◌∷◌, ◌++◌, map, Some, None, Result, refl, ◌∙◌, ap, sym, subst, inl, inr, arith}
use Rattle.std.specs.Option.{option_map}
use Rattle.std.specs.List.{range_with_len}
use Rattle.std.specs.Result.{IsErrAnd}
use Rattle.std.proofs.lemmas.List.FromFn.{map-range_with_len_more}
use Rattle.plain_data.proofs.Lists.{map_range-join}
use Rattle.snd_io.specs.declared.answers.Put.{Put}
use Rattle.snd_io.specs.declared.answers.Put.TheVariants.{Done, Failed, OutOfMemory}
use Rattle.snd_io.specs.declared.answers.PutFault.{PutFault}
use Rattle.snd_io.specs.declared.answers.PutFault.TheVariants as faults
use Rattle.snd_io.specs.Answers.{put_of, put_fault_of}
use Rattle.snd_io.specs.Files.{Files, Told, put_file}
use Rattle.snd_io.specs.Runs.{SetsFile}
use Rattle.snd_io.proofs.WholeFiles.{passed-on}
use Rattle.gen_scene.specs.Draws.{state}
use Rattle.gen_scene.proofs.DrawLemmas.{state-resumed}
use Rattle.gen_scene.specs.Sounds.{sounds, first_draw, sound_samples, sound_name, sound_file, sound_from}
use Rattle.gen_scene.proofs.NoiseLemmas.{sound_from-is}
use Rattle.snd_tools.specs.Meets.{put_all, IsWrittenInPart, IsSetInPart, SetsAll}
use Rattle.snd_tools.specs.Outcome.{OutputFile, sound_output, sound_outputs}

pub part-same : (outputs : List OutputFile) (files : Files) → IsWrittenInPart outputs files files
part-same [] files = refl
part-same (output ∷ outputs) files = inl refl

-- what is set in part of the first outputs is so of all
part-before : (first second : List OutputFile) (before after : Files) → IsWrittenInPart first before after → IsWrittenInPart (first ++ second) before after
part-before [] second before after same = subst (λ files. IsWrittenInPart second before files) (sym same) (part-same second before)
part-before (output ∷ first) second before after (inl same) = inl same
part-before (output ∷ first) second before after (inr (inl part)) = inr (inl part)
part-before (output ∷ first) second before after (inr (inr rest)) = inr (inr (part-before first second (put_file output.name output.bytes before) after rest))

-- and so is what is set in part after the first ones are whole
part-after : (first second : List OutputFile) (before after : Files) → IsWrittenInPart second (put_all first before) after → IsWrittenInPart (first ++ second) before after
part-after [] second before after rest = rest
part-after (output ∷ first) second before after rest = inr (inr (part-after first second (put_file output.name output.bytes before) after rest))

put_all-join : (first second : List OutputFile) (files : Files) → put_all second (put_all first files) ≡ put_all (first ++ second) files
put_all-join [] second files = refl
put_all-join (output ∷ first) second files = put_all-join first second (put_file output.name output.bytes files)

joined : (first second : List OutputFile) (told : Told) → option_map (put_all second) (option_map (put_all first) told) ≡ option_map (put_all (first ++ second)) told
joined first second None = refl
joined first second (Some files) = ap Some (put_all-join first second files)

module _ (first second : List OutputFile) (a b c : Told) where
  pub in-part-then : b ≡ option_map (put_all first) a → IsSetInPart second b c → IsSetInPart (first ++ second) a c
  in-part-then one other = λ before told.
      let left = other (put_all first before) (one ∙ ap (option_map (put_all first)) told) in
      (left.0, left.1, part-after first second before left.0 left.2)

  -- some files, and then others
  pub set-then : (answer : Put) → b ≡ option_map (put_all first) a → SetsAll answer second b c → SetsAll answer (first ++ second) a c
  set-then Done one other = other ∙ ap (option_map (put_all second)) one ∙ joined first second a
  set-then Failed one other = in-part-then one other
  set-then OutOfMemory one other = in-part-then one other

  -- nothing follows what stopped
  pub in-part-stopped : IsSetInPart first a c → IsSetInPart (first ++ second) a c
  in-part-stopped set = λ before told. let left = set before told in (left.0, left.1, part-before first second before left.0 left.2)

-- what was written where a fault is passed on
pub stopped-in-part : (fault : PutFault) (outputs : List OutputFile) (a b : Told) → SetsAll (put_fault_of fault) outputs a b → IsSetInPart outputs a b
stopped-in-part faults.Failed outputs a b set = set
stopped-in-part faults.OutOfMemory outputs a b set = set

pub passed-in-part : (passed : Result (Unit {0}) PutFault) (fault : PutFault) (outputs : List OutputFile) (a b : Told) → IsErrAnd passed (λ e. e ≡ fault)
    → IsSetInPart outputs a b → SetsAll (put_of passed) outputs a b
passed-in-part passed fault outputs a b same set =
    subst (λ answer. SetsAll answer outputs a b) (sym (passed-on passed fault (put_fault_of fault) same refl)) (by fault)
  where
    by : (f : PutFault) → SetsAll (put_fault_of f) outputs a b
    by faults.Failed = set
    by faults.OutOfMemory = set

module _ (name bytes : List ℕ) where
  one-in-part : (a b : Told) → (b ≡ a) ⊎ ((part : List ℕ) × Rattle.snd_io.specs.Answers.IsPrefix part bytes × (b ≡ option_map (put_file name part) a))
      → IsSetInPart (record { name = name; bytes = bytes } ∷ []) a b
  one-in-part a b (inl same) = λ before told. (before, same ∙ told, inl refl)
  one-in-part a b (inr (part, prefix, set)) = λ before told.
      (put_file name part before, set ∙ ap (option_map (put_file name part)) told, inr (inl (part, prefix, refl)))

  one-whole : (a b : Told) → b ≡ option_map (put_file name bytes) a → b ≡ option_map (put_all (record { name = name; bytes = bytes } ∷ [])) a
  one-whole None b is = is
  one-whole (Some files) b is = is

  -- one file
  pub one-output : (answer : Put) (a b : Told) → SetsFile answer name bytes a b → SetsAll answer (record { name = name; bytes = bytes } ∷ []) a b
  one-output Done a b set = one-whole a b set
  one-output Failed a b set = one-in-part a b set
  one-output OutOfMemory a b set = one-in-part a b set

-- ---- the sounds

outputs-more : (number : ℕ) (prefix : List ℕ) (i : ℕ) → sound_outputs number prefix (i + 1) ≡ sound_outputs number prefix i ++ sound_output number prefix i ∷ []
unfolding sound_outputs
outputs-more number prefix i =
    map-range_with_len_more (sound_output number prefix) 0 i i (omega arith)

outputs-rest : ℕ → List ℕ → ℕ → ℕ → List OutputFile
outputs-rest number prefix i count = map (sound_output number prefix) (range_with_len i (count - i))

outputs-whole : (number : ℕ) (prefix : List ℕ) (i count : ℕ) → i ≤ count → sound_outputs number prefix count ≡ sound_outputs number prefix i ++ outputs-rest number prefix i count
unfolding sound_outputs outputs-rest
outputs-whole number prefix i count inside =
    let split : count ≡ i + (count - i) = omega arith in
    let e : 0 + i ≡ i = omega arith in
    ap (λ n. map (sound_output number prefix) (range_with_len 0 n)) split ∙ map_range-join (sound_output number prefix) 0 i (count - i)
    ∙ ap (λ k. map (sound_output number prefix) (range_with_len 0 i) ++ map (sound_output number prefix) (range_with_len k (count - i))) e

-- no sound
pub nothing-set : (number : ℕ) (prefix : List ℕ) (a : Told) → a ≡ option_map (put_all (sound_outputs number prefix 0)) a
unfolding sound_outputs
nothing-set number prefix None = refl
nothing-set number prefix (Some files) = refl

module _ (number : ℕ) (prefix : List ℕ) (i : ℕ) where
  pub draws-more : (now next : ℕ) → now ≡ state number (first_draw i) → next ≡ state now (sound_samples i) → next ≡ state number (first_draw (i + 1))
  draws-more now next is after =
      let e : i + 1 ≡ suc i = omega arith in
      rw e (after ∙ ap (λ s. state s (sound_samples i)) is ∙ state-resumed number (first_draw i) (sound_samples i))

  -- the sounds before sound i, and then it
  pub sounds-more : (answer : Put) (now : ℕ) (a b c : Told) → now ≡ state number (first_draw i) → b ≡ option_map (put_all (sound_outputs number prefix i)) a
      → SetsFile answer (sound_name prefix i) (sound_from now i) b c → SetsAll answer (sound_outputs number prefix (i + 1)) a c
  sounds-more answer now a b c is before set =
      let same : sound_from now i ≡ sound_file number i = ap (λ s. sound_from s i) is ∙ sound_from-is number i in
      rw (outputs-more number prefix i) (set-then (sound_outputs number prefix i) (sound_output number prefix i ∷ []) a b c answer before
      (one-output (sound_name prefix i) (sound_file number i) answer b c (subst (λ bytes. SetsFile answer (sound_name prefix i) bytes b c) same set)))

  pub sounds-stopped : (a c : Told) → i < sounds → IsSetInPart (sound_outputs number prefix (i + 1)) a c → IsSetInPart (sound_outputs number prefix sounds) a c
  sounds-stopped a c inside set =
      subst (λ outputs. IsSetInPart outputs a c) (sym (outputs-whole number prefix (i + 1) sounds (omega arith)))
      (in-part-stopped (sound_outputs number prefix (i + 1)) (outputs-rest number prefix (i + 1) sounds) a a c set)

  -- every sound
  pub sounds-whole : (a b : Told) → i ≡ sounds → b ≡ option_map (put_all (sound_outputs number prefix i)) a → b ≡ option_map (put_all (sound_outputs number prefix sounds)) a
  sounds-whole a b all is = is ∙ ap (λ n. option_map (put_all (sound_outputs number prefix n)) a) all
