use Rattle.std.proofs.Common.{rules, ◌∙◌, sym, ap, ◌+◌, ◌-◌, arith, take, subst}
use Rattle.std.proofs.lemmas.List.{take-take, drop-set}
use Rattle.alb_subst.specs.Ranges.{Heads}
use Rattle.alb_subst.proofs.TupleLemmas.{begins_heads, begins_none}
use Rattle.alb_subst.proofs.tuples.try_later.Goals as goal

pub returns-then-first_at-clause-found : goal.returns-then-first_at-clause-found
returns-then-first_at-clause-found c = λ _.
    let l = c.first_at.ensures.len in
    let e = drop-set c.first_at.new.current.items c.args.i (c.args.chosen.now.number + 1) (omega arith) in
    subst (Heads _) (sym e) (begins_heads (c.args.chosen.now.number + 1) _ _ _ (omega arith) (c.first_at.ensures.found (search rules)))

pub returns-clause-kept : goal.returns-clause-kept
returns-clause-kept c =
    sym (take-take c.args.i (c.args.i + 1) c.first_at.new.current.items (omega arith)) ∙ ap (take c.args.i) c.first_at.ensures.kept
    ∙ take-take c.args.i (c.args.i + 1) c.args.current.now.items (omega arith)

pub returns-clause-none : goal.returns-clause-none
returns-clause-none c = λ _. rw (c.first_at.ensures.none c.if-first_at.false) (begins_none (c.args.chosen.now.number + 1) (c.args.chosen.now.range.now.first + c.args.chosen.now.range.now.count - (c.args.chosen.now.number + 1)))
