-- What is true of every scene that was read, beside its limits.
use Rattle.std.specs.Prelude.{◌≡◌, false, List, [], ◌∷◌, ℕ}
use Rattle.std.specs.List.{list_any}
use Rattle.std.specs.Str.{bytes_eq}
use Rattle.scene_model.specs.PlanData.{PlanData}
use Rattle.scene_model.specs.Plans.{reply, after}
use Rattle.scene_model.specs.declared.reply.Reply.TheVariants.{Done}
use Rattle.scene_script.specs.declared.placed_edit.PlacedEdit.{PlacedEdit}

-- no name equals one behind it
abbrev pub AreDistinct : List (List ℕ) → Type 0
AreDistinct [] = Unit {0}
AreDistinct (x ∷ names) = (list_any (bytes_eq x) names ≡ false) × AreDistinct names

-- each edit is answered `Done`, in the plan after those before it
abbrev pub AreDone : PlanData → List PlacedEdit → Type 0
AreDone plan [] = Unit {0}
AreDone plan (e ∷ edits) = (reply plan e.edit ≡ Done) × AreDone (after plan e.edit) edits
