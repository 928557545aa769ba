use Rattle.std.proofs.Common.{◌≡◌, ◌+◌, ◌-◌, ◌≤◌, arith, ap, subst, ◌∙◌}
use Rattle.std.proofs.Math.Nat.{mul-le-mul_right}
use Rattle.ima_adpcm.specs.Blocks.{block_sample}
use Rattle.clip_decode.specs.Cells.{Written}
use Rattle.clip_decode.specs.Ima.{block_bytes, block_number, frame_in_block, ima_sample}
use Rattle.clip_decode.proofs.ImaBlocks.{layout_of, some_frames, few_frames, in_block, block_begins, part_there, headers_sound}
use Rattle.clip_decode.proofs.ImaParts.{written_more, part_sample, ready_after}
use Rattle.clip_decode.proofs.ima.part_into.Goals as goal

pub part_len-len-requires-clause-first : goal.part_len-len-requires-clause-first
part_len-len-requires-clause-first c =
    let small = (layout_of c.args.bytes.now c.args.wave.now c.requires.lawful.lies c.requires.kind).header in
    let some = some_frames c.args.wave.now small in
    rw c.block_frames-per_block.ensures (omega (arith, few_frames c.args.wave.now small))

pub block_at-block-requires-clause-begins : goal.block_at-block-requires-clause-begins
block_at-block-requires-clause-begins c =
    let bytes = c.args.bytes.now in
    let w = c.args.wave.now in
    let small = (layout_of bytes w c.requires.lawful.lies c.requires.kind).header in
    let part = in_block w c.args.frames.start c.args.frames.end c.block_frames-per_block.result c.part_len-len.result small
    c.block_frames-per_block.ensures c.part_len-len.ensures.some c.part_len-len.ensures.inside c.part_len-len.ensures.wanted
    c.requires.some c.requires.there in
    rw c.block_frames-per_block.ensures
    (block_begins bytes w c.args.frames.start c.part_len-len.result c.requires.lawful.lies c.requires.kind part)

pub part_into-requires-clause-there : goal.part_into-requires-clause-there
part_into-requires-clause-there c =
    let bytes = c.args.bytes.now in
    let w = c.args.wave.now in
    let small = (layout_of bytes w c.requires.lawful.lies c.requires.kind).header in
    let part = in_block w c.args.frames.start c.args.frames.end c.block_frames-per_block.result c.part_len-len.result small
    c.block_frames-per_block.ensures c.part_len-len.ensures.some c.part_len-len.ensures.inside c.part_len-len.ensures.wanted
    c.requires.some c.requires.there in
    rw (c.block_at-block.ensures, c.block_frames-per_block.ensures)
    (part_there bytes w c.args.frames.start c.part_len-len.result c.requires.lawful.lies c.requires.kind part)

pub part_into-requires-clause-indices : goal.part_into-requires-clause-indices
part_into-requires-clause-indices c =
    let bytes = c.args.bytes.now in
    let w = c.args.wave.now in
    let small = (layout_of bytes w c.requires.lawful.lies c.requires.kind).header in
    let part = in_block w c.args.frames.start c.args.frames.end c.block_frames-per_block.result c.part_len-len.result small
    c.block_frames-per_block.ensures c.part_len-len.ensures.some c.part_len-len.ensures.inside c.part_len-len.ensures.wanted
    c.requires.some c.requires.there in
    rw (c.block_at-block.ensures, c.block_frames-per_block.ensures)
    (λ channel below.
    headers_sound bytes w c.args.frames.start c.part_len-len.result channel c.requires.lawful c.requires.kind part below)

pub widen_into-requires-clause-room : goal.widen_into-requires-clause-room
widen_into-requires-clause-room c =
    let ch = c.args.wave.now.channels in
    let fits : c.args.frames.start - c.args.from + c.part_len-len.result ≤ c.args.frames.end - c.args.from =
    omega (arith, c.part_len-len.ensures.wanted) in
    rw c.from-channels.ensures
    (omega (arith, c.requires.room, mul-le-mul_right {m = c.args.frames.start - c.args.from + c.part_len-len.result} ch fits))

pub returns-clause-ready : goal.returns-clause-ready
returns-clause-ready c =
    let bytes = c.args.bytes.now in
    let w = c.args.wave.now in
    let small = (layout_of bytes w c.requires.lawful.lies c.requires.kind).header in
    let part = in_block w c.args.frames.start c.args.frames.end c.block_frames-per_block.result c.part_len-len.result small
    c.block_frames-per_block.ensures c.part_len-len.ensures.some c.part_len-len.ensures.inside c.part_len-len.ensures.wanted
    c.requires.some c.requires.there in
    ready_after bytes w c.args.frames.start c.part_len-len.result c.part_into.new.decoders part.some (some_frames w small)
    part.inside (rw (c.block_at-block.ensures, c.block_frames-per_block.ensures) at c.part_into.ensures.stand)

pub returns-clause-written : goal.returns-clause-written
returns-clause-written c =
    let bytes = c.args.bytes.now in
    let w = c.args.wave.now in
    let small = (layout_of bytes w c.requires.lawful.lies c.requires.kind).header in
    let part = in_block w c.args.frames.start c.args.frames.end c.block_frames-per_block.result c.part_len-len.result small
    c.block_frames-per_block.ensures c.part_len-len.ensures.some c.part_len-len.ensures.inside c.part_len-len.ensures.wanted
    c.requires.some c.requires.there in
    let ch = w.channels in
    let start = c.args.frames.start in
    let len = c.part_len-len.result in
    let at = start - c.args.from in
    let count : frame_in_block w start + len - frame_in_block w start ≡ len = omega arith in
    let decoded = rw (c.block_at-block.ensures, c.block_frames-per_block.ensures, count) at c.part_into.ensures.written in
    let ends : at + len ≡ start + len - c.args.from = omega (arith, c.requires.behind) in
    subst (λ n. Written ch n (λ f d. ima_sample bytes w (c.args.from + f) d) c.widen_into.new.out) ends
    (written_more ch at len (λ f d. ima_sample bytes w (c.args.from + f) d)
    (λ f d. block_sample (block_bytes bytes w (block_number w start)) ch d (frame_in_block w start + f))
    c.part_into.new.out c.args.out.now c.widen_into.new.out
    c.requires.written decoded (rw c.from-channels.ensures at c.widen_into.ensures)
    (λ f d lt channel.
    let place : start + f ≡ c.args.from + (at + f) = omega (arith, c.requires.behind) in
    part_sample bytes w start f d (omega (arith, lt, part.inside)) ∙ ap (λ k. ima_sample bytes w k d) place))
