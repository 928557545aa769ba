-- The clips that are fetched, by the files that are named, and the fault of the first resources.
use Rattle.std.proofs.Common.{◌≡◌, ◌∙◌, ℕ, zero, suc, ◌+◌, ◌<◌, ◌≤◌, nat_lt, if◌then◌else◌, Bool, true, false, List, [], ◌∷◌, ◌++◌, length, get_or, Option, Result, Ok, Err, refl, ap, subst, arith}
use Rattle.std.specs.FinMap.{get}
use Rattle.clip_decode.specs.Limits.{most_sound_bytes}
use Rattle.wave_read.specs.Wave.{wave}
use Rattle.wave_read.specs.declared.wave.Wave.{Wave}
use Rattle.wave_read.specs.declared.wave_fault.WaveFault.{WaveFault}
use Rattle.scene_model.specs.declared.resource.Resource.{Resource}
use Rattle.snd_io.specs.Files.{Files}
use Rattle.snd_io.specs.declared.answers.FetchFault.{FetchFault}
use Rattle.snd_io.specs.declared.answers.FetchFault.TheVariants as files
use Rattle.resource_mgr.specs.Answers.{NamesOneOf}
use Rattle.resource_mgr.specs.Fetching.{◌>>=◌, clip_fetched, clip_of, clips_from, given_or_fault, most_total_bytes, own_file, said_or_fault, within_sum}
use Rattle.resource_mgr.specs.declared.lib_fault.LibFault.{LibFault}
use Rattle.resource_mgr.specs.declared.lib_fault.LibFault.TheVariants.{DepotFault, Absent, TooLong, File, OutOfMemory}
use Rattle.snd_status.specs.declared.status.Status.TheVariants as status
use Rattle.snd_tools.specs.Laws.{AgreeOnSounds}
use Rattle.snd_tools.specs.Reading.{file_name, status_of}

bind-same : {A B : Type 0} (x : Result A LibFault) (f g : A → Result B LibFault) → ((y : A) → x ≡ Ok y → f y ≡ g y) → (x >>= f) ≡ (x >>= g)
bind-same (Ok y) f g same = same y refl
bind-same (Err fault) f g same = refl

bind-refused : {A B : Type 0} (x : Result A LibFault) (f : A → B) (fault : LibFault) → (x >>= λ y. Ok (f y)) ≡ Err fault → x ≡ Err fault
bind-refused (Ok y) f fault is = cc
bind-refused (Err first) f fault is = let same : first ≡ fault = cc in ap Err same

module _ (a b : Files) where
  -- the same sound files give the same clips
  pub clips-same : (number total : ℕ) (resources : List Resource) → AgreeOnSounds a b resources → clips_from a number total resources ≡ clips_from b number total resources
  clips-same number total [] agree = refl
  clips-same number total (resource ∷ more) agree =
      ap (λ file. clip_fetched number total file >>= λ bytes. clips_from a (number + 1) (total + length bytes) more >>= λ clips. Ok (bytes ∷ clips)) agree.0
      ∙ bind-same (clip_fetched number total (get b resource.file)) _ _
      (λ bytes is. ap (λ r. r >>= λ clips. Ok (bytes ∷ clips)) (clips-same (number + 1) (total + length bytes) more agree.1))

  -- the first fault stands, whichever sound files follow
  pub clips-refused : (number total : ℕ) (first rest : List Resource) (fault : LibFault) → AgreeOnSounds a b first
      → clips_from a number total first ≡ Err fault → clips_from b number total (first ++ rest) ≡ Err fault
  clips-refused number total [] rest fault agree is = cc
  clips-refused number total (resource ∷ more) rest fault agree is =
      subst (λ file. (clip_fetched number total file >>= λ bytes. clips_from b (number + 1) (total + length bytes) (more ++ rest) >>= λ clips. Ok (bytes ∷ clips)) ≡ Err fault)
      agree.0 (by (λ bytes. clips-refused (number + 1) (total + length bytes) more rest fault agree.1) (clip_fetched number total (get a resource.file)) is)
    where
      by : ((bytes : List ℕ) → clips_from a (number + 1) (total + length bytes) more ≡ Err fault → clips_from b (number + 1) (total + length bytes) (more ++ rest) ≡ Err fault)
          → (x : Result (List ℕ) LibFault) → (x >>= λ bytes. clips_from a (number + 1) (total + length bytes) more >>= λ clips. Ok (bytes ∷ clips)) ≡ Err fault
          → (x >>= λ bytes. clips_from b (number + 1) (total + length bytes) (more ++ rest) >>= λ clips. Ok (bytes ∷ clips)) ≡ Err fault
      by next (Err first) is = is
      by next (Ok bytes) is =
          let inner = next bytes (bind-refused (clips_from a (number + 1) (total + length bytes) more) (λ clips. bytes ∷ clips) fault is) in
          ap (λ r. r >>= λ clips. Ok (bytes ∷ clips)) inner

-- ---- a fault names a resource that is there

-- each fault that it can be names one of the first so many resources
abbrev Named : {A : Type 0} → ℕ → Result A LibFault → Type 0
Named count r = (fault : LibFault) → r ≡ Err fault → NamesOneOf count fault

named-ok : {A : Type 0} (count : ℕ) (x : A) → Named count (Ok x)
named-ok count x fault is = cc

named-err : {A : Type 0} (count : ℕ) (first : LibFault) → NamesOneOf count first → Named {A = A} count (Err first)
named-err count first named fault is = let same : first ≡ fault = cc in subst (λ f. NamesOneOf count f) same named

named-then : {A B : Type 0} (count : ℕ) (r : Result A LibFault) (next : A → Result B LibFault) → Named count r → ((x : A) → Named count (next x)) → Named count (r >>= next)
named-then count (Ok x) next named after fault is = after x fault is
named-then count (Err first) next named after fault is = let same : first ≡ fault = cc in named fault (ap Err same)

more-named : (count most : ℕ) (fault : LibFault) → count ≤ most → NamesOneOf count fault → NamesOneOf most fault
more-named count most DepotFault le named = tt
more-named count most (Absent resource) le named = omega (arith, le, named)
more-named count most (TooLong resource limit) le named = omega (arith, le, named)
more-named count most (File resource fault) le named = omega (arith, le, named)
more-named count most OutOfMemory le named = tt

module _ (number : ℕ) where
  mine : number < number + 1
  mine = omega arith

  given-named : (limit : ℕ) (r : Result (List ℕ) FetchFault) → Named (number + 1) (given_or_fault number limit r)
  given-named limit (Ok bytes) = named-ok (number + 1) bytes
  given-named limit (Err files.Absent) = named-err (number + 1) (Absent number) mine
  given-named limit (Err files.TooLong) = named-err (number + 1) (TooLong number limit) mine
  given-named limit (Err files.Failed) = named-err (number + 1) DepotFault tt
  given-named limit (Err files.OutOfMemory) = named-err (number + 1) OutOfMemory tt

  sum-named : (total : ℕ) (bytes : List ℕ) → Named (number + 1) (within_sum number total bytes)
  sum-named total bytes = by (nat_lt most_total_bytes (total + length bytes))
    where
      by : (over : Bool) → Named (number + 1) (if over then Err (TooLong number most_total_bytes) else Ok bytes)
      by true = named-err (number + 1) (TooLong number most_total_bytes) mine
      by false = named-ok (number + 1) bytes

  said-named : (r : Result Wave WaveFault) → Named (number + 1) (said_or_fault number r)
  said-named (Ok w) = named-ok (number + 1) w
  said-named (Err fault) = named-err (number + 1) (File number fault) mine

  clip-named : (total : ℕ) (file : Option (List ℕ)) → Named (number + 1) (clip_fetched number total file)
  clip-named total file =
      named-then (number + 1) (own_file number file) (clip_of number total) (given-named most_sound_bytes _)
      (λ whole. named-then (number + 1) (within_sum number total whole) _ (sum-named total whole)
      (λ bytes. named-then (number + 1) (said_or_fault number (wave bytes)) _ (said-named (wave bytes)) (λ w. named-ok (number + 1) bytes)))

pub clips-named : (files : Files) (number total : ℕ) (resources : List Resource) (fault : LibFault) → clips_from files number total resources ≡ Err fault
    → NamesOneOf (number + length resources) fault
clips-named files number total [] fault is = cc
clips-named files number total (resource ∷ more) fault is =
    by (λ bytes. clips-named files (number + 1) (total + length bytes) more fault) (clip_fetched number total (get files resource.file))
    (clip-named number total (get files resource.file)) is
  where
    by : ((bytes : List ℕ) → clips_from files (number + 1) (total + length bytes) more ≡ Err fault → NamesOneOf (number + 1 + length more) fault)
        → (x : Result (List ℕ) LibFault) → Named (number + 1) x
        → (x >>= λ bytes. clips_from files (number + 1) (total + length bytes) more >>= λ clips. Ok (bytes ∷ clips)) ≡ Err fault
        → NamesOneOf (number + suc (length more)) fault
    by next (Err first) named is =
        let same : first ≡ fault = cc in
        more-named (number + 1) (number + suc (length more)) fault (omega arith) (named fault (ap Err same))
    by next (Ok bytes) named is =
        let inner = next bytes (bind-refused (clips_from files (number + 1) (total + length bytes) more) (λ clips. bytes ∷ clips) fault is) in
        more-named (number + 1 + length more) (number + suc (length more)) fault (omega arith) inner

-- the resource at a place has the file of its number
pub name-at : (resources : List Resource) (number : ℕ) (d : Resource) → number < length resources → (get_or resources number d).file ≡ file_name resources number
name-at [] number d below = absurd (omega (arith, below))
name-at (resource ∷ more) zero d below = refl
name-at (resource ∷ more) (suc number) d below = name-at more number d (omega (arith, below))

-- and the same name where more resources follow
name-first : (first rest : List Resource) (number : ℕ) → number < length first → file_name (first ++ rest) number ≡ file_name first number
name-first [] rest number below = absurd (omega (arith, below))
name-first (resource ∷ more) rest zero below = refl
name-first (resource ∷ more) rest (suc number) below = name-first more rest number (omega (arith, below))

pub status-first : (first rest : List Resource) (fault : LibFault) → NamesOneOf (length first) fault → status_of (first ++ rest) fault ≡ status_of first fault
status-first first rest DepotFault named = refl
status-first first rest (Absent number) named = ap (λ name. status.Absent name) (name-first first rest number named)
status-first first rest (TooLong number limit) named = ap (λ name. status.TooLong name limit) (name-first first rest number named)
status-first first rest (File number fault) named = refl
status-first first rest OutOfMemory named = refl
