-- Each file has a list of chunks, and only one.
use Rattle.std.proofs.Common.{◌≡◌, ℕ, zero, suc, ◌+◌, ◌<◌, ◌≤◌, Bool, true, false, cond, eqb, leb, List, [], ◌∷◌, length, refl, sym, ◌∙◌, inl, inr, arith}
use Rattle.std.specs.Prelude.{Option, Some}
use Rattle.std.specs.List.{find}
use Rattle.std.proofs.lemmas.Bool.{cases_lt, leb-true, leb-false, eqb-true, eqb-false}
use Rattle.std.proofs.lemmas.List.{length-take, length-drop}
use Rattle.std.proofs.lemmas.Option.{none-some, same_Some}
use Rattle.wave_read.specs.Numbers.{u32_at}
use Rattle.wave_read.specs.Chunks.{Chunk, chunk_at, body_end, after, LiesWhole, ChunksFrom, chunk_list, header_len, data_id}

module _ (data_size : Option ℕ) (bytes : List ℕ) where
  -- the cases of one chunk
  listed : (p : ℕ) (rest : List Chunk) (a b d : Bool)
      → leb (p + header_len) (length bytes) ≡ a → leb (body_end (chunk_at data_size bytes p)) (length bytes) ≡ b
      → eqb (u32_at bytes p) data_id ≡ d
      → (LiesWhole bytes (chunk_at data_size bytes p) → ChunksFrom data_size bytes (after (chunk_at data_size bytes p)) rest)
      → ChunksFrom data_size bytes p
      (cond a (cond b (chunk_at data_size bytes p ∷ rest) (cond d (chunk_at data_size bytes p ∷ []) [])) [])
  listed p rest false b d is_header is_whole is_data later = λ header. absurd (omega (arith, leb-false _ _ is_header))
  listed p rest true true d is_header is_whole is_data later =
      (leb-true _ _ is_header, refl, later, λ past. absurd (omega (arith, leb-true _ _ is_whole)))
  listed p rest true false true is_header is_whole is_data later =
      (leb-true _ _ is_header, refl, λ whole. absurd (omega (arith, leb-false _ _ is_whole)), λ past. (eqb-true _ _ is_data, refl))
  listed p rest true false false is_header is_whole is_data later = λ header. (leb-false _ _ is_whole, eqb-false _ _ is_data)

  pub list_there : (n p : ℕ) → length bytes ≤ p + n → ChunksFrom data_size bytes p (chunk_list n data_size bytes p)
  unfolding chunk_list
  list_there zero p near = λ header. absurd (omega arith)
  list_there (suc n) p near =
      listed p _ _ _ _ refl refl refl (λ whole. list_there n (after (chunk_at data_size bytes p)) (omega arith))

  pub only_list : (p : ℕ) (cs ds : List Chunk) → ChunksFrom data_size bytes p cs → ChunksFrom data_size bytes p ds → cs ≡ ds
  only_list p [] [] a b = refl
  only_list p [] (d ∷ ds) a b =
      let end = a b.0 in
      let past : length bytes < body_end d = rw b.1 end.0 in
      absurd (end.1 (rw b.1 at (b.3 past).0))
  only_list p (c ∷ cs) [] a b =
      let end = b a.0 in
      let past : length bytes < body_end c = rw a.1 end.0 in
      absurd (end.1 (rw a.1 at (a.3 past).0))
  only_list p (c ∷ cs) (d ∷ ds) a b =
      let same : c ≡ d = a.1 ∙ sym b.1 in
      elim (cases_lt (length bytes) (body_end c)) [
        | inl past ↦
            let others : length bytes < body_end d = rw (← same) past in
            rw (same, (a.3 past).1, (b.3 others).1) refl
        | inr whole ↦
            let others : body_end d ≤ length bytes = rw (← same) whole in
            let tail : ChunksFrom data_size bytes (after d) cs = rw same at (a.2 whole) in
            rw (same, only_list (after d) cs ds tail (b.2 others)) refl
      ]

  -- no chunk begins past the last eight bytes
  pub none_past : (p : ℕ) (cs : List Chunk) → length bytes < p + header_len → ChunksFrom data_size bytes p cs → cs ≡ []
  none_past p [] past h = refl
  none_past p (c ∷ cs) past h = absurd (omega (arith, h.0))

  -- what the file has of a chunk of the list lies in the file
  body_inside : (p : ℕ) → p + header_len ≤ length bytes
      → p + header_len + length (chunk_at data_size bytes p).body ≤ length bytes
  body_inside p header = simp (length-take, length-drop) (omega arith)

  pub spans_inside : (t : Chunk → Bool) (cs : List Chunk) (p : ℕ) (c : Chunk) → ChunksFrom data_size bytes p cs → find t cs ≡ Some c
      → c.place + header_len + length c.body ≤ length bytes
  spans_inside t [] p c h e = absurd (none-some c e)
  spans_inside t (d ∷ ds) p c h e =
      let here : d.place + header_len + length d.body ≤ length bytes = rw h.1 (body_inside p h.0) in
      elim (cases_lt (length bytes) (body_end d)) [
        | inl past ↦ at_head (t d) e (λ f. absurd (none-some c (rw (h.3 past).1 at f))) here
        | inr whole ↦ at_head (t d) e (spans_inside t ds (after d) c (h.2 whole)) here
      ]
    where
      at_head : (b : Bool) → cond b (Some d) (find t ds) ≡ Some c
          → (find t ds ≡ Some c → c.place + header_len + length c.body ≤ length bytes)
          → d.place + header_len + length d.body ≤ length bytes → c.place + header_len + length c.body ≤ length bytes
      at_head true f later here = rw (← same_Some d c f) here
      at_head false f later here = later f
