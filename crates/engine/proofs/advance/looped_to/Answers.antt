use Rattle.std.proofs.Common.{◌≡◌, ◌-◌, true, sym, ◌∙◌, ap, arith}
use Rattle.mix_model.specs.Spans.{played}
use Rattle.mix_model.proofs.Spans.{played_nothing, played_from_end, played_at_end, played_start}
use Rattle.engine.proofs.advance.looped_to.Goals as goal

pub returns-then-frames-eq0 : goal.returns-then-frames-eq0
returns-then-frames-eq0 c =
    let none : c.args.frames ≡ 0 = omega arith in
    let start : c.args.frames - c.args.left ≡ 0 = omega (arith, none) in
    sym (ap (λ x. played c.args.frames true x c.args.count) start ∙ ap (λ f. played f true 0 c.args.count) none ∙ played_nothing c.args.count)

pub returns-then-left-gt0 : goal.returns-then-left-gt0
returns-then-left-gt0 c = sym (played_from_end c.args.frames c.args.left c.args.count (omega arith) c.requires.left c.requires.count)

pub returns-then-count-eq0 : goal.returns-then-count-eq0
returns-then-count-eq0 c =
    let none : c.args.count ≡ 0 = omega arith in
    let all : c.args.frames - c.args.left ≡ c.args.frames = omega arith in
    sym (ap (λ n. played c.args.frames true (c.args.frames - c.args.left) n) none ∙ played_start c.args.frames (c.args.frames - c.args.left) true ∙ all)

pub returns : goal.returns
returns c =
    let none : c.args.left ≡ 0 = omega arith in
    sym (ap (λ x. played c.args.frames true (c.args.frames - x) c.args.count) none ∙ played_at_end c.args.frames c.args.count (omega arith) (omega arith))
