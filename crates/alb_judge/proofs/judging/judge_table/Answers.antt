use Rattle.std.proofs.Common.{Err, refl, sym, subst}
use Rattle.alb_poly.specs.Consequence.{forms}
use Rattle.alb_check.specs.Raw.{raw}
use Rattle.alb_check.specs.Verdict as tables
use Rattle.alb_check.specs.Verdict.{TableAnswers}
use Rattle.alb_check.specs.declared.error.TableError.{TableError}
use Rattle.alb_judge.specs.Views.{JudgesTable}
use Rattle.alb_judge.specs.declared.judging.Judged.{Judged}
use Rattle.alb_judge.proofs.judging.judge_table.Goals as goal

pub returns-in-Err-BadShape : goal.returns-in-Err-BadShape
returns-in-Err-BadShape c =
    let q = c.args.problem.now in
    let exact = subst (λ (e : TableError). TableAnswers q.rules.field q.rules.target (forms q.rules) (raw c.args.table.now) c.args.claim.now (Err e)) c.in-Err-BadShape.field-0-is c.in-Err-BadShape.ensures.exact in
    subst (λ (j : Judged). JudgesTable j q c.args.claim.now (raw c.args.table.now)) (sym c.rejected.ensures) (tables.BadShape c.in-Err-BadShape.rule, exact, refl)

pub returns-in-Err-Fails : goal.returns-in-Err-Fails
returns-in-Err-Fails c =
    let q = c.args.problem.now in
    let exact = subst (λ (e : TableError). TableAnswers q.rules.field q.rules.target (forms q.rules) (raw c.args.table.now) c.args.claim.now (Err e)) c.in-Err-Fails.field-0-is c.in-Err-Fails.ensures.exact in
    subst (λ (j : Judged). JudgesTable j q c.args.claim.now (raw c.args.table.now)) (sym c.rejected-in-Err-Fails.ensures) (tables.Fails c.in-Err-Fails.identity c.in-Err-Fails.tuple.items, exact, refl)
