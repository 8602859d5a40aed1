use Rattle.std.proofs.Common.{All, sym, subst, arith}
use Rattle.std.proofs.lemmas.List.Elements.{All-push}
use Rattle.alb_pool.specs.Work.{IsAnswered}
use Rattle.alb_pool.proofs.claimed.claim_work.Goals as goal

pub loop-preserved : goal.loop-preserved
loop-preserved g c =
    let answered = IsAnswered c.args.degree.now in
    let drawn = c.claim_one.ensures.drawn in
    let before = c.loop.invariant.drawn in
    record {
      own = c.claim_one.ensures.own;
      drawn = omega (arith, drawn, before);
      answers = subst (All answered) (sym c.in-Ok.ensures.ok) (All-push answered c.loop.answers.items c.in-Some.answer c.loop.invariant.answers c.in-Some.ensures.answer);
    }
