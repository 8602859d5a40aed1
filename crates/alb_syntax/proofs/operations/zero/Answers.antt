use Rattle.std.proofs.Common.{sym, subst, arith}
use Rattle.alb_syntax.specs.Reading.{IsCanonicalPoly}
use Rattle.alb_syntax.proofs.Kept.{kept-nil, table-above_one}
use Rattle.alb_syntax.proofs.operations.zero.Goals as goal

pub returns-clause-kept : goal.returns-clause-kept
returns-clause-kept c = subst (IsCanonicalPoly c.args.field.now) (sym c.zero.ensures) (kept-nil c.args.field.now c.p-p.ensures.listed)

pub prove-unreachable-requires : goal.prove-unreachable-requires
prove-unreachable-requires c = let one = table-above_one c.args.field.now c.p-p.ensures.listed in omega arith
