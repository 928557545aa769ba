-- Posts, one after the other.
use Rattle.std.proofs.Common.{◌≡◌, List, [], ◌∷◌, ◌++◌, map, refl, sym, ◌∙◌, ap, subst}
use Rattle.std.specs.Prelude.{Option, Some, None}
use Rattle.std.proofs.lemmas.List.{append_assoc, append-nil, map-append}
use Rattle.std.proofs.lemmas.List.Elements.{All-nil, All-push}
use base.Stored.{Gv}
use Rattle.slot_tags.specs.Steps.{IsNewer}
use Rattle.slot_tags.specs.Tags.{notes_of, given_of}
use Rattle.slot_tags.specs.declared.view.Note.TheVariants.{Split}
use Rattle.job_queue.specs.Queues.{posted_of, took_of, slot_seat_of, IsJobSeatOf, WasTaken, WasPosted, HadNoRoom}
use Rattle.job_queue.specs.declared.queue.JobQueue.{JobQueue}
use Rattle.job_queue.specs.declared.queue.JobSeat.{JobSeat}
use Rattle.job_queue.specs.declared.queue.Place.{Place}
use Rattle.job_queue.specs.declared.view.Posted.{Posted}
use Rattle.job_queue.specs.declared.view.TagData.{TagData}
use Rattle.resource_mgr.specs.Desks.{queue_of, seat_of, left_of, IsDeskOf, KeepsOwn}
use Rattle.resource_mgr.specs.Posting.{PostedEach, PostedSome, job_in}
use Rattle.resource_mgr.specs.declared.work.Work.{Work}
use Rattle.resource_mgr.specs.declared.desk.Desk.{Desk}
use Rattle.resource_mgr.specs.declared.desk.Kept.{Kept}
use Rattle.resource_mgr.specs.declared.library.Library.{Library}
use Rattle.resource_mgr.specs.declared.poster.Poster.{Poster}

keeps_still : (l : Library) (s s' : JobSeat Work) (o : Option Kept) → took_of s' ≡ took_of s → KeepsOwn l s o → KeepsOwn l s' o
keeps_still l s s' None same keeps = tt
keeps_still l s s' (Some k) same keeps = record {
  tag = keeps.tag;
  empty = keeps.empty;
  earlier = keeps.earlier;
  last = keeps.last;
  took = same ∙ keeps.took;
  same_tag = keeps.same_tag;
  same_work = keeps.same_work;
}

-- a desk whose seat took nothing
pub desk_still : (l : Library) (d : Desk) (s : JobSeat Work) → IsDeskOf l d → IsJobSeatOf (queue_of l) s → took_of s ≡ took_of (seat_of d) → IsDeskOf l record d { seat = s }
desk_still l d s desk seat same = record { seat = seat; kept = keeps_still l (seat_of d) s d.kept same desk.kept }

pub none_posted : (q : JobQueue Work) (s : JobSeat Work) → PostedEach q s s []
none_posted q s = record {
  posts = [];
  posted = sym (append-nil (posted_of s));
  jobs_are = refl;
  taken = All-nil (λ (p : Posted Work). WasTaken q s p.tag);
  took = refl;
  given = refl;
  notes = sym (append-nil (notes_of (slot_seat_of s)));
}

-- the tag of a post, where the seat gave back none since
taken_before : (q : JobQueue Work) (s m : JobSeat Work) (tag : TagData) → given_of (slot_seat_of m) ≡ given_of (slot_seat_of s) → WasTaken q m tag → WasTaken q s tag
taken_before q s m tag same t = record {
  slot = t.slot;
  number = t.number;
  newer = subst (IsNewer tag.slot tag.number) same t.newer;
  notes = t.notes;
}

pub one_more : (q : JobQueue Work) (s m s' : JobSeat Work) (jobs : List Work) (job : Work) → PostedEach q s m jobs → WasPosted q m s' job → took_of s' ≡ took_of m → PostedEach q s s' (jobs ++ job ∷ [])
one_more q s m s' jobs job each one took =
    let post : Posted Work = record { job = job; tag = one.tag } in
    record {
      posts = each.posts ++ post ∷ [];
      posted = one.posted ∙ ap (λ posts. posts ++ post ∷ []) each.posted ∙ append_assoc (posted_of s) each.posts (post ∷ []);
      jobs_are = map-append job_in each.posts (post ∷ []) ∙ ap (λ xs. xs ++ job ∷ []) each.jobs_are;
      taken = All-push (λ (p : Posted Work). WasTaken q s p.tag) each.posts post each.taken (taken_before q s m one.tag each.given one.taken);
      took = took ∙ each.took;
      given = one.given ∙ each.given;
      notes = one.notes ∙ ap (λ notes. notes ++ Split ∷ []) each.notes ∙ append_assoc (notes_of (slot_seat_of s)) (map (λ _. Split) jobs) (Split ∷ [])
          ∙ ap (λ notes. notes_of (slot_seat_of s) ++ notes) (sym (map-append (λ (_ : Work). Split) jobs (job ∷ [])));
    }

-- the first jobs that were left were posted
pub record PostedFirst (l : Library) (p p' : Poster) (d d' : Desk) : Type 0 where
  pub jobs : List Work
  pub left : left_of p ≡ jobs ++ left_of p'
  pub posted : PostedEach (queue_of l) (seat_of d) (seat_of d') jobs

module _ (l : Library) (p p1 p2 : Poster) (d d1 : Desk) (s : JobSeat Work) (work : Work) (next : left_of p1 ≡ work ∷ left_of p2) (first : PostedFirst l p p1 d d1) where
  -- one more of them
  pub more_first : WasPosted (queue_of l) (seat_of d1) s work → took_of s ≡ took_of (seat_of d1) → PostedFirst l p p2 d record d1 { seat = s }
  more_first one took = record {
    jobs = first.jobs ++ work ∷ [];
    left = first.left ∙ ap (λ jobs. first.jobs ++ jobs) next ∙ sym (append_assoc first.jobs (work ∷ []) (left_of p2));
    posted = one_more (queue_of l) (seat_of d) (seat_of d1) s first.jobs work first.posted one took;
  }

  -- the next one had no room, and came back
  pub posted_some : (code : Work → Gv) (p' : Poster) (back : Work) (place : Place) → back ≡ work → left_of p' ≡ back ∷ left_of p2 → HadNoRoom code (queue_of l) (seat_of d1) s place
      → posted_of s ≡ posted_of (seat_of d1) → took_of s ≡ took_of (seat_of d1) → PostedSome code l p p' d record d1 { seat = s } place
  posted_some code p' back place same put no_room posted took = record {
    jobs = first.jobs;
    next = back;
    later = left_of p2;
    left = first.left ∙ ap (λ jobs. first.jobs ++ jobs) (next ∙ ap (λ w. w ∷ left_of p2) (sym same) ∙ sym put);
    still_left = put;
    before = seat_of d1;
    posted = first.posted;
    no_room = no_room;
    same = (posted, took);
  }
