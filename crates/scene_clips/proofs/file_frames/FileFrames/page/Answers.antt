use Rattle.std.proofs.Common.{◌∙◌, ◌+◌, sym, arith}
use Rattle.scene_clips.proofs.FilePages.{there_inside, found_page}
use Rattle.scene_clips.proofs.file_frames.FileFrames.page.Goals as goal

pub bounds-pages-k : goal.bounds-pages-k
bounds-pages-k c =
    there_inside c.args.self.now.bytes c.args.pages.now c.args.k (c.args.k + 1) c.requires (omega arith)

pub unreachable-requires : goal.unreachable-requires
unreachable-requires c =
    let page = found_page c.args.self.now.bytes c.args.pages.now c.args.k (c.args.k + 1) c.index-pages-k.result c.requires (omega arith) c.index-pages-k.is in
    let none = sym c.in-None.is ∙ page in
    cc

pub returns : goal.returns
returns c =
    let page = found_page c.args.self.now.bytes c.args.pages.now c.args.k (c.args.k + 1) c.index-pages-k.result c.requires (omega arith) c.index-pages-k.is in
    let same = sym c.in-Some.is ∙ page in
    cc
