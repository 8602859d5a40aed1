use Rattle.std.proofs.Common.{◌≡◌, ◌<◌, ◌^◌, List, length, map, All, sym, subst}
use Rattle.alb_deriv.specs.Short.{AreFine, IsLineOf}
use Rattle.alb_deriv.specs.Views.{line, IsLine}
use Rattle.alb_deriv.specs.declared.line.Line.{Line}
use Rattle.alb_deriv.proofs.Appended.{one-line}
use Rattle.alb_trace.specs.Answer.{AreLinesFor}
use Rattle.alb_trace.specs.Trace.{most_items, Derives}
use Rattle.alb_trace.specs.declared.trace.Citation.{Citation}
use Rattle.alb_trace.proofs.Ends.{ends-none, ends-tidy}
use Rattle.alb_trace.proofs.TraceLemmas.{positive}
use Rattle.alb_trace.proofs.trace.Trace.lines_to.Goals as goal

pub returns-in-Zero : goal.returns-in-Zero
returns-in-Zero c = λ fs t old f few d.
    subst (AreLinesFor fs t f) (sym c.new.ensures.items) (ends-none fs t old c.args.self.now f (subst (λ (o : Citation). Derives fs t old c.args.self.now o f) c.in-Zero.is d))

pub returns-in_ok-lines-in-Line : goal.returns-in_ok-lines-in-Line
returns-in_ok-lines-in-Line c = λ fs t old f forms d.
    let x = subst (λ (o : Citation). Derives fs t old c.args.self.now o f) c.in-Line.is d in
    let v : c.deref.result.now ≡ c.args.self.now.lines.items = c.deref.ensures.value in
    let fine = subst (λ (ls : List Line). AreFine t.p most_items t.target fs (map line ls)) (sym v) x.adds.fine in
    let is = subst (λ (ls : List Line). IsLineOf t.p fs (map line ls) c.in-Line.k f) (sym v) (one-line t.p fs x.adds.sum) in
    let printable = subst (All (λ (l : Line). IsLine t.p (length t.target) l)) (sym v) x.trace.printable in
    let made = c.in_ok-lines-in-Line.ensures in
    let few = subst (λ (ls : List Line). length ls < 10 ^ 18) c.lines_in_memory.ensures.same c.lines_in_memory.ensures.few in
    subst (AreLinesFor fs t f) (sym c.lines_in_memory.ensures.same)
    (ends-tidy fs t forms old c.args.self.now c.in-Line.k f c.in_ok-lines-in-Line.lines.items few x made.tidy
    (made.derives t.p most_items t.target fs f (positive fs t c.args.self.now x.trace) fine is) (made.printable t.p (length t.target) printable))
