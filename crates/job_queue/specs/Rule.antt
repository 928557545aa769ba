-- The rule of the ring.
use Rattle.std.specs.Prelude.{◌≡◌, ℕ, ◌+◌, ◌≤◌, ◌<◌, ◌==◌, List, [], ◌∷◌, ◌++◌, map, length}
use Rattle.std.specs.List.{filter}
use mathlib.Core.Option.{some}
use lib.ListN.{get_elem?}
use base.Stored.{Gv}
use Rattle.atomic_table.specs.Seated.{TableId}
use Rattle.slot_tags.specs.declared.tag.SlotTag.{SlotTag}
use Rattle.slot_tags.specs.Tags.{slot_of, number_of, notes_of_tag, table_of_tag, HasJob}
use Rattle.job_queue.specs.declared.view.TagData.{TagData}
use Rattle.job_queue.specs.declared.view.Posted.{Posted}
use Rattle.job_queue.specs.declared.view.Post.{Post}
use Rattle.job_queue.specs.declared.view.Role.{Role}
use Rattle.job_queue.specs.declared.view.Role.TheVariants.{Opening, Working}
use Rattle.job_queue.specs.declared.view.JobView.{JobView}

abbrev pub tag_data : SlotTag → TagData
tag_data t = record { slot = slot_of t; number = number_of t; notes = notes_of_tag t }

module _ {J : Type 0} where
  -- the tag is full with the job that was posted with it
  abbrev pub IsPosted : (J → Gv) → SlotTag → Posted J → Type 0
  IsPosted code t p = (p.tag ≡ tag_data t) × HasJob code t p.job

  -- the posts of one seat, in order
  abbrev pub posts_of : ℕ → List (Post J) → List (Post J)
  posts_of seat posts = filter (λ e. e.poster == seat) posts

  abbrev pub posted_in : Post J → Posted J
  posted_in e = e.posted

  abbrev pub post_in : ℕ × Post J → Post J
  post_in x = x.1

  -- what one seat took, in order; `taken` has each post that was taken with the seat that took it
  abbrev pub taken_by : ℕ → List (ℕ × Post J) → List (Post J)
  taken_by seat taken = map post_in (filter (λ x. x.0 == seat) taken)

  -- the tags that lie in the ring are those of the posts that wait, in order: each is of the table, and full with the job that was posted with it
  abbrev pub Lie : (J → Gv) → TableId → List SlotTag → List (Post J) → Type 0
  Lie code table [] [] = Unit {0}
  Lie code table [] (e ∷ es) = ⊥
  Lie code table (t ∷ ts) [] = ⊥
  Lie code table (t ∷ ts) (e ∷ es) = ((table_of_tag t ≡ table) × IsPosted code t e.posted) × Lie code table ts es

  -- what is so of a seat by what its pass is for: i is its number among n passes. The first pass has made as many job seats as it counts, and nothing is posted before there is one
  abbrev pub IsIn : Role → TableId → List (Post J) → ℕ → ℕ → ℕ → TableId → Type 0
  IsIn Opening table posts n i number known = (i ≡ 0) × (n ≡ number + 1) × (number ≡ 0 → posts ≡ []) × (0 < number → known ≡ table)
  IsIn Working table posts n i number known = (number ≡ i) × (known ≡ table)

  -- the view v of the seat i of n, where the posts so far are these
  pub record Knows (table : TableId) (posts : List (Post J)) (taken : List (ℕ × Post J)) (n i : ℕ) (v : JobView J) : Type 0 where
    pub posted : v.posted ≡ map posted_in (posts_of i posts)
    pub took : v.took ≡ taken_by i taken
    pub role : IsIn v.role table posts n i v.number v.table.id

  -- all posts so far, in the order of their pushes, are those that were taken, each by one seat, and then those that wait. The posts of each seat are numbered from 0
  pub record Queued (code : J → Gv) (items : List SlotTag) (views : List (JobView J)) : Type 0 where
    pub table : TableId
    pub taken : List (ℕ × Post J)
    pub waiting : List (Post J)
    pub lie : Lie code table items waiting
    pub numbered : (seat k : ℕ) (e : Post J) → get_elem? (posts_of seat (map post_in taken ++ waiting)) k ≡ some e → e.number ≡ k
    pub seats : (i : ℕ) (v : JobView J) → get_elem? views i ≡ some v → Knows table (map post_in taken ++ waiting) taken (length views) i v
    pub others : (i : ℕ) → length views ≤ i → (posts_of i (map post_in taken ++ waiting) ≡ []) × (taken_by i taken ≡ [])
