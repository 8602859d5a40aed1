use Rattle.std.proofs.Common.{All, sym, subst}
use Rattle.std.proofs.lemmas.List.Elements.{All-push}
use Rattle.alb_pool.specs.Work.{IsAnswered}
use Rattle.alb_pool.proofs.workers.work.Goals as goal

pub loop-preserved : goal.loop-preserved
loop-preserved c =
    let answered = IsAnswered c.args.degree.now in
    subst (All answered) (sym c.in-Ok.ensures.ok) (All-push answered c.loop.answers.items c.in-Some.answer c.loop.invariant c.in-Some.ensures)
