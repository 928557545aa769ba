-- The journal of a live run: the edits that its editors made, in the order in which they were made, each with its reply.
use Rattle.std.specs.Prelude.{◌≡◌, ◌==◌, ℕ, List, length, map, filter, fold, take, Option, Some, slice_get}
use Rattle.std.specs.Option.{option_map_or}
use Rattle.scene_model.specs.declared.edit.Edit.{Edit}
use Rattle.scene_model.specs.declared.edit.EditRow.{EditRow}
use Rattle.scene_model.specs.declared.reply.Reply.{Reply}
use Rattle.scene_model.specs.Opening.{opening}
use Rattle.scene_model.specs.PlanData.{PlanData}
use Rattle.scene_model.specs.Plans.{reply, after}
use Rattle.scene_model.specs.SceneData.{SceneData}

-- edit k of an editor, counted from 0, and what it was answered
pub record EntryData : Type 0 where
  pub editor : ℕ
  pub k : ℕ
  pub reply : Reply

-- the edits of an editor, in the order of rows
abbrev pub edits_by : SceneData → ℕ → List Edit
edits_by s editor = map (λ (r : EditRow). r.edit) (filter (λ (r : EditRow). r.editor == editor) s.edits)

-- the edit that an entry names, if there is one
abbrev pub edit_of : SceneData → EntryData → Option Edit
edit_of s e = slice_get (edits_by s e.editor) e.k

-- what an editor's edits were answered, in the journal's order
abbrev pub replies_by : ℕ → List EntryData → List Reply
replies_by editor journal = map (λ (e : EntryData). e.reply) (filter (λ (e : EntryData). e.editor == editor) journal)

abbrev pub after_entry : SceneData → PlanData → EntryData → PlanData
after_entry s p e = option_map_or (after p) (edit_of s e) p

-- the plan to which these entries lead from the opening
abbrev pub plan_after : SceneData → List EntryData → PlanData
plan_after s journal = fold (after_entry s) (opening s) journal

-- the entry may follow these: it names the next edit of its editor, and its reply is the one that the plan gives
pub record IsNextEntry (s : SceneData) (before : List EntryData) (e : EntryData) : Type 0 where
  pub edit : Edit
  pub edit_is : edit_of s e ≡ Some edit
  pub k_is : e.k ≡ length (replies_by e.editor before)
  pub reply_is : e.reply ≡ reply (plan_after s before) edit

-- each entry may follow those before it
abbrev pub IsLegalJournal : SceneData → List EntryData → Type 0
IsLegalJournal s journal = (i : ℕ) (e : EntryData) → slice_get journal i ≡ Some e → IsNextEntry s (take i journal) e

-- and each editor has made all its edits
abbrev pub HasAllEdits : SceneData → List EntryData → Type 0
HasAllEdits s journal = (editor : ℕ) → length (replies_by editor journal) ≡ length (edits_by s editor)
