-- The rule of the table: what its words, its slots and the views of its seats are, between any two steps.
-- With N buses, the link of the bus b is the word 3 * b, its flag the next word, its reference count the one after. N stands for
-- the dummy: its link is the word 3 * N, and where its flag and its count would be lie the count of edits and the step counter.
use Rattle.std.specs.Prelude.{◌≡◌, ℕ, ◌+◌, ◌*◌, ◌≤◌, true, false, List, [], ◌∷◌, ◌++◌, length, replicate, slice_index, slice_set, Option, None}
use mathlib.Core.Option.{some}
use lib.ListN.{get_elem?}
use Rattle.atomic_table.specs.Table.{State}
use Rattle.bus_list.specs.declared.view.Note.TheVariants.{Split, Join}
use Rattle.bus_list.specs.declared.view.Phase.TheVariants.{Idle}
use Rattle.bus_list.specs.declared.view.FlagState.TheVariants.{Settled}
use Rattle.bus_list.specs.declared.view.EditorState.{EditorState}
use Rattle.bus_list.specs.declared.view.PassState.{PassState}
use Rattle.bus_list.specs.declared.view.View.{View}
use Rattle.bus_list.specs.Invariant.{Memory, ListInvariant}

-- The links of an empty list: only the dummy's counts, and it leads to the end.
abbrev pub first_links : ℕ → List ℕ
first_links N = slice_set (replicate (N + 1) 0) N N

-- The words of an empty list.
abbrev pub first_words : ℕ → List ℕ
first_words N = slice_set (replicate (3 * N + 3) 0) (3 * N) N

-- The editor's copy of the links is what their words hold.
pub record CopiesLinks (N : ℕ) (words links : List ℕ) : Type 0 where
  pub size : length links ≡ N + 1
  pub same : (b : ℕ) → b ≤ N → slice_index words (3 * b) ≡ slice_index links b

module _ {F : Type 0} where
  -- The words and the slots, by what they stand for.
  abbrev pub memory : ℕ → List ℕ → List (mathlib.Core.Option.Option (Option F)) → Memory F
  memory N words homes = record {
    edits = slice_index words (3 * N + 1);
    steps = slice_index words (3 * N + 2);
    link = λ b. slice_index words (3 * b);
    flag = λ b. slice_index words (3 * b + 1);
    references = λ b. slice_index words (3 * b + 2);
    cell = λ b. get_elem? homes b;
  }

  -- A view that has the editor's part belongs to the seat `editor`, and its part is the one of the rule. Likewise for the pass.
  pub record HasRole (editor pass : ℕ) (links : List ℕ) (editing : EditorState F) (reading : PassState F) (seat : ℕ) (v : View F) : Type 0 where
    pub as_editor : v.is_editor ≡ true → (seat ≡ editor) × (v.links ≡ links) × (v.editing ≡ editing)
    pub as_pass : v.reads ≡ true → (seat ≡ pass) × (v.reading ≡ reading)

  -- The rule.
  pub record TableInvariant (N : ℕ) (s : State (Option F) (View F)) : Type 0 where
    pub words : length s.words ≡ 3 * N + 3
    pub slots : length s.homes ≡ N
    pub editor : ℕ
    pub pass : ℕ
    pub links : List ℕ
    pub editing : EditorState F
    pub reading : PassState F
    pub invariant : ListInvariant N (memory N s.words s.homes) editing reading
    pub copied : CopiesLinks N s.words links
    pub roles : (i : ℕ) (v : View F) → get_elem? s.views i ≡ some v → HasRole editor pass links editing reading i v

  -- What the editor and the pass of an empty list know.
  abbrev pub new_editor_state : EditorState F
  new_editor_state = record { history = []; chain = []; phase = Idle }

  abbrev pub new_pass_state : ℕ → PassState F
  new_pass_state N = record {
    visits = [];
    start = 0;
    last_count = 0;
    opened = false;
    ended = false;
    stepping = false;
    held = N;
    previous = N;
    aim = N;
    borrowed = N;
    borrowed_feed = None;
    flag_state = Settled;
    walked = [];
    given = [];
  }

  -- The view of the first seat, which has both parts.
  abbrev pub first_view : ℕ → View F
  first_view N = record { is_editor = true; reads = true; notes = []; links = first_links N; editing = new_editor_state; reading = new_pass_state N }

  -- The view that a join leaves behind: it has no part.
  abbrev pub spent_view : View F
  spent_view = record { is_editor = false; reads = false; notes = []; links = []; editing = new_editor_state; reading = new_pass_state 0 }

  -- A split: the editor's part stays with its seat, which has the note.
  abbrev pub editor_part : View F → View F
  editor_part v = record v { reads = false; notes = v.notes ++ Split ∷ [] }

  -- A pass that starts at a count of edits, with no visits.
  abbrev pub restarted : ℕ → PassState F → PassState F
  restarted n p = record p { visits = []; start = n; last_count = n; ended = false }

  -- A split: the new seat reads, and has seen the whole history.
  abbrev pub pass_part : View F → View F
  pass_part v = record v { is_editor = false; notes = []; reading = restarted (length v.editing.history) v.reading }

  -- A join: the editor's seat takes the pass's part and its notes.
  abbrev pub joined : View F → View F → View F
  joined v w = record v { reads = true; reading = w.reading; notes = (v.notes ++ w.notes) ++ Join ∷ [] }
