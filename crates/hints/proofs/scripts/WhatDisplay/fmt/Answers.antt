use Rattle.std.proofs.Common.{append_assoc}
use Rattle.hints.specs.ScriptHints.{what_text}
use Rattle.hints.proofs.scripts.WhatDisplay.fmt.Goals as goal

pub returns-in-UnknownKey-clause-writes : goal.returns-in-UnknownKey-clause-writes
unfolding what_text
returns-in-UnknownKey-clause-writes g c = λ plain ok.
    let w = rw (c.key_text-key.ensures, c.noun-what.ensures, c.keys_text-keys.ensures) at c.write-in-UnknownKey.ensures.writes plain ok in
    rw c.in-UnknownKey.is (simp append_assoc w)

pub returns-in-UnknownName-clause-writes : goal.returns-in-UnknownName-clause-writes
unfolding what_text
returns-in-UnknownName-clause-writes g c = λ plain ok.
    let w = rw c.key_text-key.ensures at c.write-in-UnknownName.ensures.writes plain ok in
    rw c.in-UnknownName.is (simp append_assoc w)
