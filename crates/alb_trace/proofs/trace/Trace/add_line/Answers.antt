use Rattle.std.proofs.Common.{rules, refl, ◌≡◌, length}
use Rattle.alb_trace.proofs.TraceLemmas.{line-derives}
use Rattle.alb_trace.proofs.trace.Trace.add_line.Goals as goal

pub returns : goal.returns
returns c =
    let n : c.len.result ≡ length c.push.new.self.items = search rules in
    record {
      derives = λ fs t f h i fine is. line-derives fs t c.args.self.now (record c.args.self.now { lines = c.push.new.self }) c.args.entry c.len.result f c.in_ok-push.ensures.items
          (record { products = λ q. refl; monomials = λ k. refl; rows = λ k. refl; blocks = refl }) n h i fine is;
    }
