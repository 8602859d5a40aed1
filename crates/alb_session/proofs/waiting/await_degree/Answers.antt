use Rattle.std.proofs.Common.{rules, arith, ◌∙◌}
use Rattle.alb_board.specs.Passes.{board_rules, pass_view}
use Rattle.alb_session.specs.View.{response_text}
use Rattle.alb_session.proofs.AnswerLemmas.{await-told, await-lacks}
use Rattle.alb_session.proofs.ShotLemmas.{waiting-start, wait-on}
use Rattle.alb_table.specs.RightTable.{rules_view}
use Rattle.alb_session.proofs.waiting.await_degree.Goals as goal

pub looks-init : goal.looks-init
looks-init g c = record { own = c.requires.own; waiting = waiting-start (rules_view (board_rules c.args.board.now)) c.args.degree (pass_view c.args.pass.now) }

pub returns-in-Told-clause-answers : goal.returns-in-Told-clause-answers
returns-in-Told-clause-answers g c letters =
    let l = c.in-Told.ensures.looks in
    await-told (board_rules c.args.board.now) c.args.degree letters (pass_view c.args.pass.now) _ _ c.looks.invariant.waiting l.0 l.1 (response_text c.in-Told.response) l.2.0

pub returns-in-NoMemory-clause-answers : goal.returns-in-NoMemory-clause-answers
returns-in-NoMemory-clause-answers g c letters =
    await-lacks (rules_view (board_rules c.args.board.now)) c.args.degree letters (pass_view c.args.pass.now) _ _ c.looks.invariant.waiting c.in-NoMemory.ensures.looks _ c.seen.ensures

pub looks-preserved : goal.looks-preserved
looks-preserved g c =
    let l = c.in-Early.ensures.looks in
    let t = l.1.right.table in
    record {
      own = c.wait_change.ensures.own;
      waiting = wait-on (board_rules c.args.board.now) c.args.degree (pass_view c.args.pass.now) _ _ c.looks.invariant.waiting l.0 l.1 _ _ l.2.0 l.2.1 (omega (arith, t.within, t.goal.small)) c.wait_change.ensures.known c.wait_change.ensures.later;
    }
