use Rattle.std.proofs.Common.{ℕ, ◌≡◌, [], get_or, sym, subst, arith}
use Rattle.std.proofs.lemmas.Result.{IfOk-weaker}
use Rattle.alb_table.specs.Laws.{HasValue}
use Rattle.alb_sample.specs.Choice.{argument, chosen, instance_of}
use Rattle.alb_sample.specs.Problem.{sample_problem}
use Rattle.alb_sample.proofs.ValueLemmas.{left-instance-value, right-instance-value}
use Rattle.alb_sample.proofs.values.Values.instance.Goals as goal

pub returns-in-0 : goal.returns-in-0
returns-in-0 c =
    let t = c.args.tables.now in
    let d = c.args.choice.now in
    IfOk-weaker c.associators.result _ _ (λ x a.
    subst (λ (i : ℕ). HasValue t (instance_of (get_or sample_problem.identities i []) (chosen d)) x) (sym c.in-0.is)
    (left-instance-value t (argument d.first) (argument d.second) (argument d.third) x a)) c.associators.ensures

pub returns-in_default : goal.returns-in_default
returns-in_default c =
    let t = c.args.tables.now in
    let d = c.args.choice.now in
    let e : d.identity ≡ 1 = let h = c.requires.choice.identity in omega (arith, h, c.in_default) in
    IfOk-weaker c.associators-in_default.result _ _ (λ x a.
    subst (λ (i : ℕ). HasValue t (instance_of (get_or sample_problem.identities i []) (chosen d)) x) (sym e)
    (right-instance-value t (argument d.first) (argument d.second) (argument d.third) x a)) c.associators-in_default.ensures
