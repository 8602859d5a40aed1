use Rattle.std.proofs.Common.{arith, lit<}
use Rattle.alb_problem.proofs.GeneratorLemmas.{IsCount, IsNewLetter, fits-count, fits-letter, length-counts, begun-letter}
use Rattle.alb_problem.proofs.generators.Pairs.push.Goals as goal

pub push-requires : goal.push-requires
push-requires c =
    let ls = c.args.self.now.letters.items in
    let ns = c.args.self.now.counts.items in
    let f : IsCount ls ns c.in-Number.n = fits-count ls ns c.in-Number.n (rw c.in-Number.is at c.requires.next) in
    (lit< tt, omega (arith, f.positive, f.low, length-counts ns c.requires.begun.positive))

pub push-requires-in-Letter : goal.push-requires-in-Letter
push-requires-in-Letter c =
    let ls = c.args.self.now.letters.items in
    let ns = c.args.self.now.counts.items in
    let f : IsNewLetter ls ns c.in-Letter.letter = fits-letter ls ns c.in-Letter.letter (rw c.in-Letter.is at c.requires.next) in
    (lit< tt, omega (arith, f.missing, c.requires.begun.low, length-counts ns c.requires.begun.positive))

pub returns-in-Letter-clause-begun : goal.returns-in-Letter-clause-begun
returns-in-Letter-clause-begun c =
    rw c.push-in-Letter.ensures.items (begun-letter c.args.self.now.letters.items c.args.self.now.counts.items c.in-Letter.letter c.requires.begun (rw c.in-Letter.is at c.requires.next))
