use Rattle.std.specs.Prelude.{ℕ, true}
use Rattle.std.proofs.Common.{subst}
use Rattle.alb_script.specs.Asked.{Gives, or_error, asked, view}
use Rattle.alb_top.proofs.script.read_about.Goals as goal

pub returns-clause-exact : goal.returns-clause-exact
returns-clause-exact c =
    subst (λ (n : ℕ). Gives view (or_error c.read_line.result) (asked c.args.form true n c.args.problem.now.rules.field c.args.problem.now.letters c.args.line.now)) c.degree.ensures c.read_line.ensures.exact

pub returns-clause-read : goal.returns-clause-read
returns-clause-read c = c.read_line.ensures.read

pub returns-clause-plain : goal.returns-clause-plain
returns-clause-plain c = c.read_line.ensures.plain

pub returns-clause-word : goal.returns-clause-word
returns-clause-word c = c.read_line.ensures.word

pub read_line-requires : goal.read_line-requires
read_line-requires c = c.requires
