use Rattle.std.proofs.Common.{sym, subst}
use Rattle.alb_script.specs.Asked.{view}
use Rattle.alb_session.specs.Session.{asked_of}
use Rattle.alb_session.specs.View.{AsksFor}
use Rattle.alb_session.specs.declared.request.Request.{Request}
use Rattle.alb_session.proofs.RequestLemmas.{asked-session, refused-asks}
use Rattle.alb_table.specs.RightTable.{rules_view}
use Rattle.alb_session.proofs.request.read_request.Goals as goal

pub request_of-requires : goal.request_of-requires
request_of-requires c =
    asked-session (rules_view c.args.rules.now) c.args.letters.now c.args.line.now (view c.in-Ok.command) c.in-Ok.ensures.exact (c.if-asks_nothing.ensures (rules_view c.args.rules.now) c.args.letters.now)

pub returns-in-Err-clause-asks : goal.returns-in-Err-clause-asks
returns-in-Err-clause-asks c =
    subst (λ (x : Request). AsksFor x (asked_of (rules_view c.args.rules.now) c.args.letters.now c.args.line.now)) (sym c.refused.ensures)
    (refused-asks c.in-Err.error (asked_of (rules_view c.args.rules.now) c.args.letters.now c.args.line.now) c.in-Err.ensures.exact (c.if-asks_nothing.ensures (rules_view c.args.rules.now) c.args.letters.now))
