-- Which ring a pass is of.
use Rattle.crossbeam_queue.specs.Passes.{Pass, IsPassOf}
use Rattle.slot_tags.specs.declared.tag.SlotTag.{SlotTag}
use Rattle.job_queue.specs.declared.view.JobView.{JobView}
use Rattle.job_queue.specs.declared.job_ring.JobRing.{JobRing}

module _ {J : Type 0} where
  abbrev pub IsAt : JobRing J → Pass SlotTag (JobView J) → Type 0
  IsAt r p = IsPassOf r.ring p
