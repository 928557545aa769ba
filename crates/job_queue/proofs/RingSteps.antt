-- The opening, the splits, the pushes, the pops and the looks keep the rule.
use Rattle.std.proofs.Common.{◌≡◌, ◌≢◌, ℕ, ◌+◌, ◌<◌, List, [], ◌∷◌, ◌++◌, map, length, set, refl, sym, ap, ◌∙◌, subst, ⊎_elim, arith, append_assoc, length-append, length-set}
use Rattle.std.proofs.lemmas.List.{length-map, map-append}
use mathlib.Core.Option.{some, some-ne-none}
use mathlib.Core.Logic.{dite}
use native.Mathlib.Decide.{ℕ_discrete}
use lib.ListN.{get_elem?}
use base.Stored.{Gv}
use Rattle.atomic_table.specs.Seated.{TableId}
use Rattle.crossbeam_queue.specs.Fifo.{Pushes, Pops, Forks, Learns}
use Rattle.crossbeam_queue.proofs.Lists.{at_set}
use Rattle.slot_tags.specs.declared.tag.SlotTag.{SlotTag}
use Rattle.slot_tags.specs.Tags.{table_of_tag}
use Rattle.job_queue.specs.declared.view.Posted.{Posted}
use Rattle.job_queue.specs.declared.view.Post.{Post}
use Rattle.job_queue.specs.declared.view.Role.{Role}
use Rattle.job_queue.specs.declared.view.Role.TheVariants.{Opening, Working}
use Rattle.job_queue.specs.declared.view.JobView.{JobView}
use Rattle.job_queue.specs.Rule.{IsPosted, posts_of, posted_in, post_in, taken_by, Lie, IsIn, Knows, Queued}
use Rattle.job_queue.specs.Steps.{no_table, first_view, after_split, new_seat, with_posted, with_taken, Pushed, Popped, Stood}
use Rattle.job_queue.proofs.Rows.{at_end, below, the_only, nothing_behind, posts_own, posts_else, taken_own, taken_else, lie_longer, front, nothing_lies}

module _ {J : Type 0} (code : J → Gv) where
  pub role_as : (r q : Role) (table : TableId) (posts : List (Post J)) (n i number : ℕ) (known : TableId) → r ≡ q → IsIn r table posts n i number known → IsIn q table posts n i number known
  role_as r q table posts n i number known same h = subst (λ x. IsIn x table posts n i number known) same h

  -- a seat that makes no step keeps what is so of it
  role_stays : (r : Role) (table : TableId) (posts posts' : List (Post J)) (n n' i number : ℕ) (known : TableId) → n' ≡ n → (i ≡ 0 → n ≡ number + 1 → number ≡ 0 → posts ≡ [] → posts' ≡ []) → IsIn r table posts n i number known → IsIn r table posts' n' i number known
  role_stays Opening table posts posts' n n' i number known size none h = (h.0, size ∙ h.1, (λ z. none h.0 h.1 z (h.2 z)), h.3)
  role_stays Working table posts posts' n n' i number known size none h = h

  stays : (table : TableId) (posts posts' : List (Post J)) (taken taken' : List (ℕ × Post J)) (n n' i : ℕ) (v : JobView J)
      → posts_of i posts' ≡ posts_of i posts → taken_by i taken' ≡ taken_by i taken → n' ≡ n → (i ≡ 0 → n ≡ v.number + 1 → v.number ≡ 0 → posts ≡ [] → posts' ≡ []) → Knows table posts taken n i v → Knows table posts' taken' n' i v
  stays table posts posts' taken taken' n n' i v same same_taken size none k = record {
    posted = k.posted ∙ ap (map posted_in) (sym same);
    took = k.took ∙ sym same_taken;
    role = role_stays v.role table posts posts' n n' i v.number v.table.id size none k.role;
  }

  pub opens : Queued code [] (first_view ∷ [])
  opens = record {
    table = no_table;
    taken = [];
    waiting = [];
    lie = tt;
    numbered = λ seat k e at. absurd (some-ne-none e (sym at));
    seats = λ i v at.
        let only = the_only first_view v i at in
        subst (λ u. Knows no_table [] [] 1 i u) only.1 record { posted = refl; took = refl; role = (only.0, refl, (λ z. refl), (λ some. refl)) };
    others = λ i far. (refl, refl);
  }

  module _ (id : ℕ) (v : JobView J) (working : v.role ≡ Working) where
    -- a look
    pub looks : Learns (Queued code) id v (Stood code v)
    looks items views h at =
        let own = role_as v.role Working h.table (map post_in h.taken ++ h.waiting) (length views) id v.number v.table.id working (h.seats id v at).role in
        (views, h, subst (λ k. get_elem? views k ≡ some v) (sym own.0) at)

    pub pushes : (n : ℕ) (t : SlotTag) (p : Posted J) → table_of_tag t ≡ v.table.id → IsPosted code t p → Pushes (Queued code) n id v t (Pushed code v t)
    pushes n t p of_table is items views room h at =
        let w : JobView J = with_posted p v in
        let old : List (Post J) = map post_in h.taken ++ h.waiting in
        let mine = h.seats id v at in
        let own = role_as v.role Working h.table old (length views) id v.number v.table.id working mine.role in
        let e : Post J = record { poster = id; number = length v.posted; posted = p } in
        let new : List (Post J) = map post_in h.taken ++ (h.waiting ++ e ∷ []) in
        let grown : new ≡ old ++ e ∷ [] = sym (append_assoc (map post_in h.taken) h.waiting (e ∷ [])) in
        let here : posts_of id new ≡ posts_of id old ++ e ∷ [] = ap (posts_of id) grown ∙ posts_own id old e refl in
        let size : length (set views id w) ≡ length views = length-set views id w in
        let inside : id < length views = below views id v at in
        let count : length v.posted ≡ length (posts_of id old) = ap length mine.posted ∙ length-map (posts_of id old) posted_in in
        let elsewhere : (j : ℕ) → id ≢ j → posts_of j new ≡ posts_of j old = λ j apart. ap (posts_of j) grown ∙ posts_else j old e apart in (
          w,
          record {
            table = h.table;
            taken = h.taken;
            waiting = h.waiting ++ e ∷ [];
            lie = lie_longer code h.table items h.waiting h.lie t e (of_table ∙ own.1, is);
            numbered = λ seat k y q. dite (ℕ_discrete id seat)
                (λ (same : id ≡ seat). ⊎_elim (λ before. h.numbered seat k y before)
                (λ (last : (k ≡ length (posts_of seat old)) × (e ≡ y)). ap (λ (x : Post J). x.number) (sym last.1) ∙ count ∙ ap (λ s. length (posts_of s old)) same ∙ sym last.0)
                (at_end (posts_of seat old) e y k (subst (λ s. get_elem? s k ≡ some y) (ap (posts_of seat) grown ∙ posts_own seat old e same) q)))
                (λ (apart : id ≢ seat). h.numbered seat k y (subst (λ s. get_elem? s k ≡ some y) (elsewhere seat apart) q));
            seats = λ j u q. ⊎_elim
                (λ (here_is : (j ≡ id) × (w ≡ u)). subst (λ (y : ℕ × JobView J). Knows h.table new h.taken (length (set views id w)) y.0 y.1) (λ k. (sym here_is.0 k, here_is.1 k)) record {
                  posted = ap (λ l. l ++ p ∷ []) mine.posted ∙ sym (map-append posted_in (posts_of id old) (e ∷ [])) ∙ ap (map posted_in) (sym here);
                  took = mine.took;
                  role = role_as Working v.role h.table new (length (set views id w)) id v.number v.table.id (sym working) own;
                })
                (λ (else_is : (j ≢ id) × (get_elem? views j ≡ some u)).
                let apart = else_is.0 in
                stays h.table old new h.taken h.taken (length views) (length (set views id w)) j u (elsewhere j (λ s. apart (sym s))) refl size (λ first many zero none. absurd (omega arith)) (h.seats j u else_is.1))
                (at_set views id j w u q);
            others = λ j far. let none = h.others j (omega arith) in (elsewhere j (λ s. absurd (omega arith)) ∙ none.0, none.1);
          },
          (p, is, refl),
        )

    pub pops : Pops (Queued code) id v (Popped code v)
    pops t items views h at =
        let f = front code h.table t items h.waiting h.lie in
        let e : Post J = f.post in
        let w : JobView J = with_taken e v in
        let old : List (Post J) = map post_in h.taken ++ h.waiting in
        let mine = h.seats id v at in
        let own = role_as v.role Working h.table old (length views) id v.number v.table.id working mine.role in
        let taken : List (ℕ × Post J) = h.taken ++ (id, e) ∷ [] in
        let new : List (Post J) = map post_in taken ++ f.later in
        let same : new ≡ old = ap (λ l. l ++ f.later) (map-append post_in h.taken ((id, e) ∷ [])) ∙ append_assoc (map post_in h.taken) (e ∷ []) f.later ∙ ap (λ l. map post_in h.taken ++ l) (sym f.waiting_are) in
        let size : length (set views id w) ≡ length views = length-set views id w in
        let inside : id < length views = below views id v at in (
          w,
          record {
            table = h.table;
            taken = taken;
            waiting = f.later;
            lie = f.lie;
            numbered = λ seat k y q. h.numbered seat k y (subst (λ l. get_elem? (posts_of seat l) k ≡ some y) same q);
            seats = λ j u q. ⊎_elim
                (λ (here_is : (j ≡ id) × (w ≡ u)). subst (λ (y : ℕ × JobView J). Knows h.table new taken (length (set views id w)) y.0 y.1) (λ k. (sym here_is.0 k, here_is.1 k)) record {
                  posted = mine.posted ∙ ap (λ l. map posted_in (posts_of id l)) (sym same);
                  took = ap (λ l. l ++ e ∷ []) mine.took ∙ sym (taken_own id h.taken (id, e) refl);
                  role = role_as Working v.role h.table new (length (set views id w)) id v.number v.table.id (sym working) own;
                })
                (λ (else_is : (j ≢ id) × (get_elem? views j ≡ some u)).
                let apart = else_is.0 in
                stays h.table old new h.taken taken (length views) (length (set views id w)) j u (ap (posts_of j) same) (taken_else j h.taken (id, e) (λ s. apart (sym s))) size (λ first many zero none. same ∙ none) (h.seats j u else_is.1))
                (at_set views id j w u q);
            others = λ j far. let none = h.others j (omega arith) in (ap (posts_of j) same ∙ none.0, taken_else j h.taken (id, e) (λ s. absurd (omega arith)) ∙ none.1);
          },
          (e, f.one.0 ∙ sym own.1, f.one.1, refl),
        )

  -- a seat that isn't the first pass names the table
  role_named : (r : Role) (table table' : TableId) (posts : List (Post J)) (n n' i number : ℕ) (known : TableId) → i ≢ 0 → table ≡ table' → IsIn r table posts n i number known → IsIn r table' posts n' i number known
  role_named Opening table table' posts n n' i number known apart same h = absurd (apart h.0)
  role_named Working table table' posts n n' i number known apart same h = (h.0, h.1 ∙ same)

  pub splits : (table : TableId) (id : ℕ) (v : JobView J) → v.role ≡ Opening → (0 < v.number → v.table.id ≡ table) → Forks (Queued code) id v (after_split table v) (new_seat table v)
  splits table id v opening names items views h at =
      let posts : List (Post J) = map post_in h.taken ++ h.waiting in
      let mine = h.seats id v at in
      let own = role_as v.role Opening h.table posts (length views) id v.number v.table.id opening mine.role in
      let first = own.0 in
      let many = own.1 in
      let left : JobView J = after_split table v in
      let right : JobView J = new_seat table v in
      let vs : List (JobView J) = set views id left in
      let size : length vs ≡ length views = length-set views id left in
      let size' : length (vs ++ right ∷ []) ≡ length vs + 1 = length-append vs (right ∷ []) in
      let same : 0 < v.number → h.table ≡ table = λ any. sym (own.3 any) ∙ names any in
      record {
        table = table;
        taken = h.taken;
        waiting = h.waiting;
        lie = dite (ℕ_discrete v.number 0)
            (λ (none : v.number ≡ 0). nothing_lies code h.table table items h.waiting (nothing_behind (map post_in h.taken) h.waiting (own.2 none)) h.lie)
            (λ (any : v.number ≢ 0). subst (λ x. Lie code x items h.waiting) (same (omega arith)) h.lie);
        numbered = h.numbered;
        seats = λ j u q. ⊎_elim
            (λ before. ⊎_elim
            (λ (here_is : (j ≡ id) × (left ≡ u)). subst (λ (y : ℕ × JobView J). Knows table posts h.taken (length (vs ++ right ∷ [])) y.0 y.1) (λ k. (sym here_is.0 k, here_is.1 k)) record {
              posted = mine.posted;
              took = mine.took;
              role = role_as Opening v.role table posts (length (vs ++ right ∷ [])) id (v.number + 1) table (sym opening) (first, omega arith, (λ z. absurd (omega arith)), (λ any. refl));
            })
            (λ (else_is : (j ≢ id) × (get_elem? views j ≡ some u)).
            let apart = else_is.0 in
            let inside : j < length views = below views j u else_is.1 in
            let apart' : j ≢ 0 = λ z. apart (z ∙ sym first) in
            let k = h.seats j u else_is.1 in
            record {
              posted = k.posted;
              took = k.took;
              role = role_named u.role h.table table posts (length views) (length (vs ++ right ∷ [])) j u.number u.table.id apart' (same (omega arith)) k.role;
            })
            (at_set views id j left u before))
            (λ (last : (j ≡ length vs) × (right ≡ u)).
            let none = h.others j (let l = last.0 in omega arith) in
            subst (λ y. Knows table posts h.taken (length (vs ++ right ∷ [])) j y) last.1 record { posted = ap (map posted_in) (sym none.0); took = sym none.1; role = (let l = last.0 in omega arith, refl) })
            (at_end vs right u j q);
        others = λ j far. h.others j (omega arith);
      }
