-- A post that was refused at the ring: the tag that it took is given back.
use Rattle.std.proofs.Common.{◌≡◌, ℕ, List, [], ◌∷◌, ◌++◌, ap, ◌∙◌, subst}
use Rattle.slot_tags.specs.declared.view.Note.{Note}
use Rattle.slot_tags.specs.declared.view.Note.TheVariants.{Split}
use Rattle.slot_tags.specs.declared.tag.SlotTag.{SlotTag}
use Rattle.slot_tags.specs.declared.slot_table.SlotSeat.{SlotSeat}
use Rattle.slot_tags.specs.declared.slot_table.SlotTable.{SlotTable}
use Rattle.slot_tags.specs.Notes.{GaveBack}
use Rattle.slot_tags.specs.Tags.{slot_of, number_of, notes_of_tag, SameTag, last_of, notes_of, given_of, GiveNotes}

-- the seat before the call, after the take, at the give and after it; the tag that was taken, the one that came back, and that once its job was lifted
module _ {J : Type 0} (table : SlotTable J) (before taken gives after : SlotSeat J) (tag back empty : SlotTag)
    (same : back ≡ tag) (lifted : SameTag back empty) (kept : gives ≡ taken) where
  pub given_back : given_of taken ≡ given_of before → given_of after ≡ given_of gives ++ (slot_of empty, number_of empty) ∷ [] → given_of after ≡ given_of before ++ (slot_of tag, number_of tag) ∷ []
  given_back taken_is given =
      let slot : slot_of empty ≡ slot_of tag = lifted.slot ∙ ap slot_of same in
      let number : number_of empty ≡ number_of tag = lifted.number ∙ ap number_of same in
      let list : given_of gives ≡ given_of before = ap given_of kept ∙ taken_is in
      given ∙ (λ k. list k ++ (slot k, number k) ∷ [])

  pub noted_back : notes_of taken ≡ notes_of before ++ Split ∷ [] → GiveNotes table gives after empty → GaveBack (slot_of tag) (number_of tag) (last_of table) (notes_of before ++ Split ∷ []) (notes_of_tag tag) (notes_of after)
  noted_back taken_is notes =
      let slot : slot_of empty ≡ slot_of tag = lifted.slot ∙ ap slot_of same in
      let number : number_of empty ≡ number_of tag = lifted.number ∙ ap number_of same in
      let own : notes_of_tag empty ≡ notes_of_tag tag = lifted.notes ∙ ap notes_of_tag same in
      let list : notes_of gives ≡ notes_of before ++ Split ∷ [] = ap notes_of kept ∙ taken_is in
      subst (λ (x : ℕ × ℕ × List Note × List Note). GaveBack x.0 x.1 (last_of table) x.2 x.3 (notes_of after)) (λ k. (slot k, number k, list k, own k)) notes
