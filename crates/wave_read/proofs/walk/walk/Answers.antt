use Rattle.std.proofs.Common.{◌≡◌, sym, ◌∙◌, arith}
use Rattle.std.proofs.lemmas.List.{length-take, length-drop}
use Rattle.std.proofs.lemmas.Result.{err_from_is_err_and}
use Rattle.wave_read.specs.Chunks.{size_at}
use Rattle.wave_read.specs.Wave.{told_by}
use Rattle.wave_read.proofs.Walks.{started, stepped, ended, cut_off}
use Rattle.wave_read.proofs.walk.walk.Goals as goal
use Rattle.wave_read.proofs.walk.walk.Goals.{else-loop-place-test, then-loop-place-test+then-ends_list}

pub loop-place-init : goal.loop-place-init
loop-place-init c = rw c.nothing-found.ensures (record {
  inside = c.requires;
  lawful = record { format = tt; span = tt };
  so_far = λ chunks h. started c.args.data_size c.args.bytes.now chunks h;
})

pub returns-in_err-found : goal.returns-in_err-found
returns-in_err-found c = λ chunks h.
    let bytes = c.args.bytes.now in
    let size_is : c.chunk_size-size.result ≡ size_at c.args.data_size bytes c.loop-place.place =
    rw (c.u32_at-id.ensures, c.u32_at.ensures) at c.chunk_size-size.ensures in
    let step = stepped c.args.data_size bytes (told_by bytes chunks) c.loop-place.place c.u32_at-id.result c.chunk_size-size.result
    c.body_at-body.result.now c.loop-place.found (omega arith) c.u32_at-id.ensures size_is c.body_at-body.ensures c.if-ends_list.ensures
    (c.loop-place.invariant.so_far chunks h) in
    let told = rw (sym c.with_chunk.ensures.exact ∙ c.in_err-found.was) at step in
    let p = err_from_is_err_and c.from_residual.result c.from_residual.ensures.1 in
    rw (p.1, p.2) (sym told)

pub loop-place-preserved : goal.loop-place-preserved
loop-place-preserved c =
    let bytes = c.args.bytes.now in
    let size_is : c.chunk_size-size.result ≡ size_at c.args.data_size bytes c.loop-place.place =
    rw (c.u32_at-id.ensures, c.u32_at.ensures) at c.chunk_size-size.ensures in
    record {
      inside = omega arith;
      lawful = c.in_ok-found.ensures.lawful bytes c.loop-place.invariant.lawful
          (rw c.body_at-body.ensures (simp (length-take, length-drop) (omega arith)));
      so_far = λ chunks h.
          rw c.after_pad-place.ensures
          (rw (sym c.with_chunk.ensures.exact ∙ c.in_ok-found.was) at
          (stepped c.args.data_size bytes (told_by bytes chunks) c.loop-place.place c.u32_at-id.result c.chunk_size-size.result
          c.body_at-body.result.now c.loop-place.found (omega arith) c.u32_at-id.ensures size_is c.body_at-body.ensures c.if-ends_list.ensures
          (c.loop-place.invariant.so_far chunks h)));
    }

pub returns : goal.returns
returns c = λ chunks h.
    let bytes = c.args.bytes.now in
    let here = c.loop-place.invariant.so_far chunks h in
    c.conclude.ensures ∙ sym (elim c.loop-place-test.branch [
      | else-loop-place-test w ↦ ended c.args.data_size bytes (told_by bytes chunks) c.loop-place.place c.loop-place.found (omega arith) here
      | then-loop-place-test+then-ends_list w ↦
          let size_is : w.chunk_size-size.result ≡ size_at c.args.data_size bytes c.loop-place.place =
          rw (w.u32_at-id.ensures, w.u32_at.ensures) at w.chunk_size-size.ensures in
          cut_off c.args.data_size bytes (told_by bytes chunks) c.loop-place.place w.u32_at-id.result w.chunk_size-size.result
          w.body_at-body.result.now c.loop-place.found (omega arith) w.u32_at-id.ensures size_is w.body_at-body.ensures
          w.if-ends_list.ensures.0 w.if-ends_list.ensures.1 here
    ])
