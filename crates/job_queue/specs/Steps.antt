-- What each kind of step makes of a view, and what it tells.
use Rattle.std.specs.Prelude.{◌≡◌, ◌+◌, List, [], ◌∷◌, ◌++◌}
use mathlib.Core.Option.{some}
use lib.ListN.{get_elem?}
use base.Stored.{Gv}
use Rattle.atomic_table.specs.Seated.{TableId}
use Rattle.slot_tags.specs.declared.tag.SlotTag.{SlotTag}
use Rattle.slot_tags.specs.Tags.{table_of_tag}
use Rattle.job_queue.specs.declared.view.Posted.{Posted}
use Rattle.job_queue.specs.declared.view.Post.{Post}
use Rattle.job_queue.specs.declared.view.Role.TheVariants.{Opening, Working}
use Rattle.job_queue.specs.declared.view.JobView.{JobView}
use Rattle.job_queue.specs.Rule.{IsPosted, Queued}

abbrev pub no_table : TableId
no_table = record { words = 0; slots = 0; views_name = 0; atom = 0; block = 0; offset = 0; slot_names = [] }

module _ {J : Type 0} where
  abbrev pub first_view : JobView J
  first_view = record { role = Opening; number = 0; table = record { id = no_table }; posted = []; took = [] }

  -- the first pass once a job seat's is split off it, and that one: both name the table
  abbrev pub after_split : TableId → JobView J → JobView J
  after_split table v = record v { number = v.number + 1; table = record { id = table } }

  abbrev pub new_seat : TableId → JobView J → JobView J
  new_seat table v = record { role = Working; number = v.number + 1; table = record { id = table }; posted = []; took = [] }

  abbrev pub with_posted : Posted J → JobView J → JobView J
  with_posted p v = record v { posted = v.posted ++ p ∷ [] }

  abbrev pub with_taken : Post J → JobView J → JobView J
  with_taken e v = record v { took = v.took ++ e ∷ [] }

  -- the tag went to the back, with the job under it
  abbrev pub Pushed : (J → Gv) → JobView J → SlotTag → JobView J → Type 0
  Pushed code v t w = (p : Posted J) × IsPosted code t p × (w ≡ with_posted p v)

  -- the tag was the one at the front. It is of the table that the seat names, and full with the job that was posted with it
  abbrev pub Popped : (J → Gv) → JobView J → SlotTag → JobView J → Type 0
  Popped code v t w = (e : Post J) × (table_of_tag t ≡ v.table.id) × IsPosted code t e.posted × (w ≡ with_taken e v)

  -- at that moment the rule held of what lay in the ring, and the seat's view was this
  abbrev pub Stood : (J → Gv) → JobView J → List SlotTag → Type 0
  Stood code v items = (views : List (JobView J)) × Queued code items views × (get_elem? views v.number ≡ some v)
