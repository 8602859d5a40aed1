use Rattle.alb_top.specs.View.{state}
use Rattle.std.proofs.Common.{ap, ◌∙◌}
use Rattle.std.specs.Prelude.{if◌then◌else◌}
use Rattle.alb_top.specs.declared.response.Response.{Response}
use Rattle.alb_top.specs.declared.turn.Taken.TheVariants as took
use Rattle.alb_top.proofs.ClaimLemmas.{claim-taken, claim-read_fault, claim-input_limit, claim-gets, claiming-stage, accepted-stage}
use Rattle.alb_top.proofs.turn.take_claim.Goals as goal

pub returns-in-Verdict-clause-takes : goal.returns-in-Verdict-clause-takes
returns-in-Verdict-clause-takes g c =
    let q = c.in-Some.problem.now in
    claim-taken _ _ (state c.args.script) q c.args.claim.now _ _ c.read_evidence-given.result c.in-Verdict.verdict c.judged-response.result.1 c.ended.result c.answered.result
    (claiming-stage c.args.script q c.in-Some.ensures.some c.requires.check c.requires.going) (accepted-stage c.args.script q c.in-Some.ensures.some c.requires.script) c.requires.sound c.read_evidence-given.ensures.reads c.in-Verdict.ensures c.judged-response.ensures.responds c.ended.ensures
    (c.answered.ensures ∙ ap (λ (r : Response). if c.ended.result then took.Last r c.judged-response.result.1 else took.Response r c.judged-response.result.1) c.judged-response.ensures.response)

pub returns-in-ReadFault-clause-takes : goal.returns-in-ReadFault-clause-takes
returns-in-ReadFault-clause-takes g c =
    claim-read_fault _ _ (state c.args.script) _ _ c.args.claim.now _ _ c.read_evidence-given.result c.requires.going c.read_evidence-given.ensures.reads c.in-ReadFault.ensures

pub returns-in-InputLimit-clause-takes : goal.returns-in-InputLimit-clause-takes
returns-in-InputLimit-clause-takes g c =
    claim-input_limit _ _ (state c.args.script) _ _ c.args.claim.now _ _ c.read_evidence-given.result c.requires.going c.read_evidence-given.ensures.reads c.in-InputLimit.ensures

pub returns-in-NoMemory-clause-takes : goal.returns-in-NoMemory-clause-takes
returns-in-NoMemory-clause-takes g c =
    claim-gets _ _ c.in-Some.problem.now c.args.claim.now _ _ c.read_evidence-given.result c.read_evidence-given.ensures.reads c.in-NoMemory.ensures
