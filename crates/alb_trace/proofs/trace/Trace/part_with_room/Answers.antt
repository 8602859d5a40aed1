use Rattle.std.proofs.Common.{◌≡◌, [], ◌∷◌, List, ℕ, sym, subst, rules}
use Rattle.alb_deriv.specs.Short.{sum_of}
use Rattle.alb_trace.specs.Trace.{lines_of, Carries}
use Rattle.alb_trace.proofs.TraceLemmas.{next-part, carries-line}
use Rattle.alb_trace.proofs.trace.Trace.part_with_room.Goals as goal

pub returns-clause-carries : goal.returns-clause-carries
returns-clause-carries c = λ fs t rest f h a s.
    let x = next-part fs t c.args.self.now h c.args.part.items rest f s c.requires.few in
    let d = c.in_ok-line.ensures.derives fs t (sum_of fs (lines_of c.args.self.now) c.args.part.items) h a x.fine x.line in
    let e : c.push.new.self.items ≡ (1, c.in_ok-line.line) ∷ [] = search rules in
    subst (λ (xs : List (ℕ × ℕ)). Carries fs t c.args.self.now c.add_line.new.self xs rest f) (sym e)
    (carries-line fs t c.args.self.now h c.add_line.new.self c.args.part.items rest c.in_ok-line.line f s d)
