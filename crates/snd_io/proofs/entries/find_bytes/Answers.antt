use Rattle.std.proofs.Common.{rules, ◌≡◌, Some, sym, ◌∙◌, ap, ◌≢◌, string_bytes}
use Rattle.std.specs.FinMap.{get}
use Rattle.std.proofs.lemmas.Slice.Eq.{bytes_eq-Decides}
use Rattle.snd_io.specs.Fakes.{files_of}
use Rattle.snd_io.proofs.EntryLists.{get-found, get-passed, get-past_end}
use Rattle.snd_io.proofs.entries.find_bytes.Goals as goal

pub returns-then-eq : goal.returns-then-eq
returns-then-eq c =
    let same : string_bytes c.in-Some.entry.now.name ≡ c.args.name.now = search (rules, bytes_eq-Decides) in
    rw (c.loop-entry.invariant, c.in-Some.ensures.steps, get-found c.in-Some.entry.now _ _ same) (ap Some c.as_slice.ensures.value)

pub loop-entry-preserved : goal.loop-entry-preserved
loop-entry-preserved c =
    let differs : string_bytes c.in-Some.entry.now.name ≢ c.args.name.now = search (rules, bytes_eq-Decides) in
    c.loop-entry.invariant ∙ ap (λ es. get (files_of es) c.args.name.now) c.in-Some.ensures.steps ∙ get-passed c.in-Some.entry.now _ _ differs

pub returns : goal.returns
returns c = sym (c.loop-entry.invariant ∙ get-past_end _ c.args.name.now c.in-None.ensures.steps.0)
