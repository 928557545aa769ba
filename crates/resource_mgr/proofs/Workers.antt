-- A worker between two jobs.
use Rattle.std.proofs.Common.{◌≡◌, ℕ, List, [], ◌∷◌, ◌++◌, All, map, refl, sym, ◌∙◌, ap, subst}
use Rattle.std.specs.Prelude.{Option, Some, None}
use Rattle.std.proofs.lemmas.List.{append_assoc, append-nil, map-append}
use Rattle.std.proofs.lemmas.List.Elements.{All-nil, All-push}
use base.Stored.{Gv}
use Rattle.exec_reel.specs.Tickets.{IsEarly}
use Rattle.exec_reel.specs.declared.ticket.Ticket.{Ticket}
use Rattle.job_queue.specs.Queues.{took_of}
use Rattle.job_queue.specs.declared.queue.JobSeat.{JobSeat}
use Rattle.job_queue.specs.declared.view.Post.{Post}
use Rattle.job_queue.specs.declared.view.Posted.{Posted}
use Rattle.resource_mgr.specs.Desks.{seat_of, kept_of, IsSameWork}
use Rattle.resource_mgr.specs.Working.{CameBy, IsPage, IsPutBack, HadQuit, StoppedByQuit, WorkedOne, kept_work, work_of}
use Rattle.resource_mgr.specs.declared.work.Work.{Work}
use Rattle.resource_mgr.specs.declared.work.Work.TheVariants.{Page, Quit}
use Rattle.resource_mgr.specs.declared.work.Worked.{Worked}
use Rattle.resource_mgr.specs.declared.work.Worked.TheVariants as answer
use Rattle.resource_mgr.specs.declared.desk.Desk.{Desk}
use Rattle.resource_mgr.specs.declared.library.Library.{Library}

same_itself : (w : Work) → IsSameWork w w
same_itself (Page resource ticket) = (refl, refl, refl)
same_itself Quit = tt

same_quit : (w : Work) → IsSameWork w Quit → w ≡ Quit
same_quit (Page resource ticket) same = absurd same
same_quit Quit same = refl

same_page : (w : Work) (resource : ℕ) (ticket : Ticket) → IsSameWork w (Page resource ticket) → IsPage w
same_page (Page r t) resource ticket same = tt
same_page Quit resource ticket same = absurd same

same_early : (w : Work) (resource pointer : ℕ) (ticket back : Ticket) → IsEarly ticket back pointer → IsSameWork w (Page resource ticket) → IsSameWork w (Page resource back)
same_early (Page r t) resource pointer ticket back early same = (same.0, early.number ∙ same.1, early.reel ∙ same.2)
same_early Quit resource pointer ticket back early same = absurd same

-- the job that is kept, as it was taken
abbrev pub Waits : Option (Posted Work) → List Work → Type 0
Waits None works = works ≡ []
Waits (Some p) works = (w : Work) × (works ≡ w ∷ []) × IsSameWork w p.job

-- Each job that the desk came by so far was a page's, except for one that is kept
pub record Goes (d m : Desk) : Type 0 where
  pub taken : List (Post Work)
  pub took : took_of (seat_of m) ≡ took_of (seat_of d) ++ taken
  pub pages : List Work
  pub waiting : List Work
  pub jobs : kept_work (kept_of d) ++ map work_of taken ≡ pages ++ waiting
  pub all_pages : All IsPage pages
  pub waits : Waits (kept_of m) waiting

-- the next job that it came by
record Came (d : Desk) (s : JobSeat Work) (pages : List Work) (job : Work) : Type 0 where
  taken : List (Post Work)
  took : took_of s ≡ took_of (seat_of d) ++ taken
  work : Work
  jobs : kept_work (kept_of d) ++ map work_of taken ≡ pages ++ work ∷ []
  same : IsSameWork work job

waits_first : (o : Option (Posted Work)) → (works : List Work) × (kept_work o ≡ works) × Waits o works
waits_first None = ([], refl, refl)
waits_first (Some p) = (p.job ∷ [], refl, (p.job, refl, same_itself p.job))

pub goes_first : (d : Desk) → Goes d d
goes_first d =
    let first = waits_first (kept_of d) in
    record {
      taken = [];
      took = sym (append-nil (took_of (seat_of d)));
      pages = [];
      waiting = first.0;
      jobs = append-nil (kept_work (kept_of d)) ∙ first.1;
      all_pages = All-nil IsPage;
      waits = first.2;
    }

came_next : (d : Desk) (s s' : JobSeat Work) (taken : List (Post Work)) (pages waiting : List Work) (o : Option (Posted Work)) (p : Posted Work)
    → took_of s ≡ took_of (seat_of d) ++ taken → kept_work (kept_of d) ++ map work_of taken ≡ pages ++ waiting → Waits o waiting → CameBy o s s' p → Came d s' pages p.job
came_next d s s' taken pages waiting None p took jobs none one =
    let post : Post Work = record { poster = one.poster; number = one.number; posted = p } in
    record {
      taken = taken ++ post ∷ [];
      took = one.took ∙ ap (λ posts. posts ++ post ∷ []) took ∙ append_assoc (took_of (seat_of d)) taken (post ∷ []);
      work = p.job;
      jobs = ap (λ works. kept_work (kept_of d) ++ works) (map-append work_of taken (post ∷ []))
          ∙ sym (append_assoc (kept_work (kept_of d)) (map work_of taken) (p.job ∷ []))
          ∙ ap (λ works. works ++ p.job ∷ []) (jobs ∙ ap (λ works. pages ++ works) none ∙ append-nil pages);
      same = same_itself p.job;
    }
came_next d s s' taken pages waiting (Some kept) p took jobs waits x = record {
  taken = taken;
  took = x.1 ∙ took;
  work = waits.0;
  jobs = jobs ∙ ap (λ works. pages ++ works) waits.1;
  same = subst (λ (q : Posted Work). IsSameWork waits.0 q.job) (sym x.0) waits.2;
}

goes_on : (d m : Desk) (pages : List Work) (resource : ℕ) (ticket : Ticket) → All IsPage pages → Came d (seat_of m) pages (Page resource ticket) → kept_of m ≡ None → Goes d m
goes_on d m pages resource ticket all came none = record {
  taken = came.taken;
  took = came.took;
  pages = pages ++ came.work ∷ [];
  waiting = [];
  jobs = came.jobs ∙ sym (append-nil (pages ++ came.work ∷ []));
  all_pages = All-push IsPage pages came.work all (same_page came.work resource ticket came.same);
  waits = subst (λ o. Waits o []) (sym none) refl;
}

goes_on_early : (d m : Desk) (pages : List Work) (resource pointer : ℕ) (ticket back : Ticket) (p : Posted Work) (o : Option (Posted Work)) → All IsPage pages → Came d (seat_of m) pages (Page resource ticket)
    → IsEarly ticket back pointer → kept_of m ≡ o → p.job ≡ Page resource back → (code : Work → Gv) (l : Library) (s : JobSeat Work) → IsPutBack code l s (seat_of m) o p → Goes d m
goes_on_early d m pages resource pointer ticket back p None all came early is job code l s put = goes_on d m pages resource ticket all came is
goes_on_early d m pages resource pointer ticket back p (Some kept) all came early is job code l s put = record {
  taken = came.taken;
  took = came.took;
  pages = pages;
  waiting = came.work ∷ [];
  jobs = came.jobs;
  all_pages = all;
  waits = subst (λ o. Waits o (came.work ∷ [])) (sym is)
      (came.work, refl, subst (IsSameWork came.work) (sym (ap (λ (q : Posted Work). q.job) put.0 ∙ job)) (same_early came.work resource pointer ticket back early came.same));
}

module _ (code : Work → Gv) (l : Library) (d m m' : Desk) (goes : Goes d m) where
  came_by : (p : Posted Work) → CameBy (kept_of m) (seat_of m) (seat_of m') p → Came d (seat_of m') goes.pages p.job
  came_by p came = came_next d (seat_of m) (seat_of m') goes.taken goes.pages goes.waiting (kept_of m) p goes.took goes.jobs goes.waits came

  stopped : HadQuit code l m m' → StoppedByQuit d m'
  stopped quit =
      let came = came_by _ quit.came in
      record {
        taken = came.taken;
        took = came.took;
        pages = goes.pages;
        jobs = came.jobs ∙ ap (λ w. goes.pages ++ w ∷ []) (same_quit came.work came.same);
        all_pages = goes.all_pages;
      }

  -- what is so of a worker after each answer
  abbrev pub GoesUnlessQuit : Worked → Type 0
  GoesUnlessQuit (answer.Ran resource page) = Goes d m'
  GoesUnlessQuit (answer.Early resource page pointer) = Goes d m'
  GoesUnlessQuit answer.Quit = StoppedByQuit d m'
  GoesUnlessQuit answer.Empty = Goes d m'

  pub goes_next : (worked : Worked) → WorkedOne code l m m' worked → GoesUnlessQuit worked
  goes_next (answer.Ran resource page) ran = goes_on d m' goes.pages resource ran.ticket goes.all_pages (came_by _ ran.came) ran.none_kept
  goes_next (answer.Early resource page pointer) early = goes_on_early d m' goes.pages resource pointer early.ticket early.back _ (kept_of m') goes.all_pages (came_by _ early.came) early.early refl refl code l (seat_of m) early.put_back
  goes_next answer.Quit quit = stopped quit
  goes_next answer.Empty empty = record {
    taken = goes.taken;
    took = empty.took ∙ goes.took;
    pages = goes.pages;
    waiting = goes.waiting;
    jobs = goes.jobs;
    all_pages = goes.all_pages;
    waits = subst (λ o. Waits o goes.waiting) (empty.none_kept.0 ∙ sym empty.none_kept.1) goes.waits;
  }
