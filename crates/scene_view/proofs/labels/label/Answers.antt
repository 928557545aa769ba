use Rattle.std.proofs.Common.{string_bytes, ◌≡◌, chars, ◌∙◌, ap, sym, map-id, append-nil}
use Rattle.std.specs.List.{flat_map}
use Rattle.std.proofs.lemmas.Grind.{flat_map-append}
use Rattle.std.proofs.lemmas.Iterator.{YieldsList-from_chars}
use Rattle.std.proofs.lemmas.Iterator.Consumers.{YieldsList-end}
use Rattle.scene_view.specs.Labels.{drawn, label}
use Rattle.scene_view.proofs.labels.label.Goals as goal

pub loop-c-preserved : goal.loop-c-preserved
loop-c-preserved c = rw (flat_map-append, append-nil, ← c.loop-c.invariant) c.in_ok-push_drawn.ensures

pub returns : goal.returns
unfolding label
returns c =
    let done = YieldsList-end (YieldsList-from_chars c.args.text.now c.utf8.text cc) c.loop-c.yielded _ c.loop-c.yielded_by _ _ c.in-None.is c.next.ensures.steps in
    c.loop-c.invariant ∙ ap (flat_map drawn) (sym (map-id c.loop-c.yielded) ∙ done.0)
