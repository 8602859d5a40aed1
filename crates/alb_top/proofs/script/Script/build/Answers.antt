use Rattle.alb_top.proofs.ScriptLemmas.{begins-responds, begins-writable, stating-script}
use Rattle.alb_top.proofs.script.Script.build.Goals as goal

pub returns-in_ok-response-in-Ok-clause-responds : goal.returns-in_ok-response-in-Ok-clause-responds
returns-in_ok-response-in-Ok-clause-responds g c =
    stating-script c.args.self c.in-Stating.builder c.in_ok-response-in-Ok.stage c.in_ok-response-in-Ok.response c.in-Stating.is
    (begins-responds c.args.self.mode c.args.self.form c.in-Stating.builder c.args.self.closed c.args.self.clean c.in-Ok.problem c.in_ok-response-in-Ok.response c.in_ok-response-in-Ok.stage
    c.in-Ok.ensures.exact c.in-Ok.ensures.whole c.in-Ok.ensures.accepted c.in_ok-response-in-Ok.ensures)

pub returns-in_ok-response-in-Ok-clause-writable : goal.returns-in_ok-response-in-Ok-clause-writable
returns-in_ok-response-in-Ok-clause-writable g c =
    begins-writable c.args.self.mode c.args.self.form c.args.self.closed c.args.self.clean c.in-Ok.problem c.in_ok-response-in-Ok.response c.in_ok-response-in-Ok.stage c.in_ok-response-in-Ok.ensures
