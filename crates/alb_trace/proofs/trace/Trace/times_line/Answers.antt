use Rattle.gf_sums.specs.Sums.{reindex}
use Rattle.alb_poly.specs.Consequence.{beside}
use Rattle.std.proofs.Common.{◌≡◌, subst}
use Rattle.alb_mono.specs.Tree.{tree}
use Rattle.alb_deriv.specs.Short.{IsSumOf}
use Rattle.alb_trace.specs.Adds.{item_of}
use Rattle.alb_trace.specs.Trace.{lines_of}
use Rattle.alb_trace.proofs.TraceLemmas.{next-times, none-times, times-printable}
use Rattle.alb_trace.proofs.trace.Trace.times_line.Goals as goal

pub returns-in-Zero : goal.returns-in-Zero
returns-in-Zero c = record {
  derives = λ fs t f h a b k.
      none-times fs t c.args.self.now h c.args.side (tree c.args.m.now) f (subst (λ o. IsSumOf t.p fs (lines_of c.args.self.now) (item_of o) f) c.in-Zero.is a);
}

pub returns-in_ok-number-in-Line : goal.returns-in_ok-number-in-Line
returns-in_ok-number-in-Line c = record {
  derives = λ fs t f h a b k.
      let q : tree c.in_ok-copy-in-Line.copy ≡ tree c.args.m.now = c.in_ok-copy-in-Line.ensures in
      let x = next-times fs t c.args.self.now h c.args.side (tree c.args.m.now) f c.in-Line.k (tree c.in_ok-copy-in-Line.copy) q
      (subst (λ o. IsSumOf t.p fs (lines_of c.args.self.now) (item_of o) f) c.in-Line.is a) b k in
      c.in_ok-number-in-Line.ensures.derives fs t (reindex (beside (c.args.side, tree c.args.m.now)) f) h
      (times-printable fs t c.args.self.now h c.args.side (tree c.args.m.now) f c.in-Line.k c.in_ok-copy-in-Line.copy q b c.requires.small) x.fine x.line;
}
