-- No job is lost.
use Rattle.std.proofs.Common.{◌≡◌, ℕ, ◌+◌, List, [], ◌∷◌, ◌++◌, length, length-append, refl, sym, ◌∙◌, ap, arith}
use Rattle.std.specs.Prelude.{Option, Some, None}
use Rattle.std.proofs.lemmas.List.{append_assoc, append-nil}
use base.Stored.{Gv}
use Rattle.slot_tags.specs.Tags.{given_of}
use Rattle.slot_tags.specs.declared.slot_table.SlotSeat.{SlotSeat}
use Rattle.job_queue.specs.Queues.{posted_of, took_of, slot_seat_of}
use Rattle.job_queue.specs.declared.queue.JobSeat.{JobSeat}
use Rattle.job_queue.specs.declared.view.Post.{Post}
use Rattle.job_queue.specs.declared.view.Posted.{Posted}
use Rattle.resource_mgr.specs.Desks.{seat_of, kept_of}
use Rattle.resource_mgr.specs.Working.{CameBy, IsPutBack, NoneLost, WorkedOne, kept_work}
use Rattle.resource_mgr.specs.declared.work.Work.{Work}
use Rattle.resource_mgr.specs.declared.work.Worked.{Worked}
use Rattle.resource_mgr.specs.declared.work.Worked.TheVariants as answer
use Rattle.resource_mgr.specs.declared.desk.Desk.{Desk}
use Rattle.resource_mgr.specs.declared.library.Library.{Library}

-- the one job of a call: it was kept, or taken
record OneCame (o : Option (Posted Work)) (s s' : JobSeat Work) : Type 0 where
  taken : List (Post Work)
  took : took_of s' ≡ took_of s ++ taken
  one : length (kept_work o) + length taken ≡ 1

one_came : (o : Option (Posted Work)) (s s' : JobSeat Work) (p : Posted Work) → CameBy o s s' p → OneCame o s s'
one_came None s s' p came = record { taken = record { poster = came.poster; number = came.number; posted = p } ∷ []; took = came.took; one = refl }
one_came (Some kept) s s' p came = record { taken = []; took = came.1 ∙ sym (append-nil (took_of s)); one = refl }

-- it was posted again, or is kept
record OneIsBack (o : Option (Posted Work)) (s s' : JobSeat Work) : Type 0 where
  posts : List (Posted Work)
  posted : posted_of s' ≡ posted_of s ++ posts
  one : length posts + length (kept_work o) ≡ 1

one_is_back : (code : Work → Gv) (l : Library) (s s' : JobSeat Work) (o : Option (Posted Work)) (p : Posted Work) → IsPutBack code l s s' o p → OneIsBack o s s'
one_is_back code l s s' None p put = record { posts = p ∷ []; posted = put; one = refl }
one_is_back code l s s' (Some kept) p put = record { posts = []; posted = put.1 ∙ sym (append-nil (posted_of s)); one = refl }

none_kept : (o : Option (Posted Work)) → o ≡ None → length (kept_work o) ≡ 0
none_kept o none = ap (λ x. length (kept_work x)) none

module _ (code : Work → Gv) (l : Library) (d d' : Desk) where
  same_given : slot_seat_of (seat_of d') ≡ slot_seat_of (seat_of d) → given_of (slot_seat_of (seat_of d')) ≡ given_of (slot_seat_of (seat_of d)) ++ []
  same_given same = ap (λ (s : SlotSeat Work). given_of s) same ∙ sym (append-nil (given_of (slot_seat_of (seat_of d))))

  lost_none : (p q : Posted Work) → CameBy (kept_of d) (seat_of d) (seat_of d') p → IsPutBack code l (seat_of d) (seat_of d') (kept_of d') q → slot_seat_of (seat_of d') ≡ slot_seat_of (seat_of d) → NoneLost d d'
  lost_none p q came put slots =
      let c = one_came (kept_of d) (seat_of d) (seat_of d') p came in
      let b = one_is_back code l (seat_of d) (seat_of d') (kept_of d') q put in
      let first = c.one in
      let then = b.one in
      let ended : List (ℕ × ℕ) = [] in
      record { taken = c.taken; took = c.took; posts = b.posts; posted = b.posted; ended = ended; given = same_given slots; number = omega (arith, first, then) }

  pub one_none_lost : (worked : Worked) → WorkedOne code l d d' worked → NoneLost d d'
  one_none_lost (answer.Ran resource page) ran =
      let c = one_came (kept_of d) (seat_of d) (seat_of d') _ ran.came in
      let first = c.one in
      let kept = none_kept (kept_of d') ran.none_kept in
      record {
        taken = c.taken;
        took = c.took;
        posts = [];
        posted = ran.posted ∙ sym (append-nil (posted_of (seat_of d)));
        ended = (ran.tag.slot, ran.tag.number) ∷ [];
        given = ran.given;
        number = omega (arith, first, kept);
      }
  one_none_lost (answer.Early resource page pointer) early = lost_none _ _ early.came early.put_back early.slots
  one_none_lost answer.Quit quit = lost_none _ _ quit.came quit.put_back quit.slots
  one_none_lost answer.Empty empty =
      let before = none_kept (kept_of d) empty.none_kept.0 in
      let after = none_kept (kept_of d') empty.none_kept.1 in
      record {
        taken = [];
        took = empty.took ∙ sym (append-nil (took_of (seat_of d)));
        posts = [];
        posted = empty.posted ∙ sym (append-nil (posted_of (seat_of d)));
        ended = [];
        given = same_given empty.slots;
        number = omega (arith, before, after);
      }

pub first_none_lost : (d : Desk) → NoneLost d d
first_none_lost d = record {
  taken = [];
  took = sym (append-nil (took_of (seat_of d)));
  posts = [];
  posted = sym (append-nil (posted_of (seat_of d)));
  ended = [];
  given = sym (append-nil (given_of (slot_seat_of (seat_of d))));
  number = omega arith;
}

pub still_none_lost : (d m d' : Desk) → NoneLost d m → NoneLost m d' → NoneLost d d'
still_none_lost d m d' first then = record {
  taken = first.taken ++ then.taken;
  took = then.took ∙ ap (λ xs. xs ++ then.taken) first.took ∙ append_assoc (took_of (seat_of d)) first.taken then.taken;
  posts = first.posts ++ then.posts;
  posted = then.posted ∙ ap (λ xs. xs ++ then.posts) first.posted ∙ append_assoc (posted_of (seat_of d)) first.posts then.posts;
  ended = first.ended ++ then.ended;
  given = then.given ∙ ap (λ xs. xs ++ then.ended) first.given ∙ append_assoc (given_of (slot_seat_of (seat_of d))) first.ended then.ended;
  number =
      let a = length-append first.taken then.taken in
      let b = length-append first.posts then.posts in
      let e = length-append first.ended then.ended in
      let x = first.number in
      let y = then.number in
      omega (arith, a, b, e, x, y);
}
