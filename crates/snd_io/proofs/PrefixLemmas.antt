-- Prefixes.
use Rattle.std.specs.Prelude.{ℕ, List, [], ◌++◌, take, drop, refl}
use Rattle.std.proofs.Common.{sym, ◌∙◌, ap, append-nil, append_assoc}
use Rattle.std.proofs.lemmas.List.{take-append-drop}
use Rattle.snd_io.specs.Answers.{IsPrefix}

pub IsPrefix-all : (bytes : List ℕ) → IsPrefix bytes bytes
IsPrefix-all bytes = ([], sym (append-nil bytes))

pub IsPrefix-none : (bytes : List ℕ) → IsPrefix [] bytes
IsPrefix-none bytes = (bytes, refl)

pub IsPrefix-take : (count : ℕ) (bytes : List ℕ) → IsPrefix (take count bytes) bytes
IsPrefix-take count bytes = (drop count bytes, sym (take-append-drop count bytes))

pub IsPrefix-trans : (part middle whole : List ℕ) → IsPrefix part middle → IsPrefix middle whole → IsPrefix part whole
IsPrefix-trans part middle whole (more, first) (rest, second) =
    (more ++ rest, second ∙ ap (λ bytes. bytes ++ rest) first ∙ append_assoc part more rest)
