use Rattle.std.proofs.Common.{◌≡◌, Some, Option, ℕ, List, refl, subst}
use Rattle.alb_board.specs.Passes.{board_rules, pass_view}
use Rattle.alb_poly.specs.declared.rules.Rules.{Rules}
use Rattle.alb_session.specs.Session.{asked_of, nothing}
use Rattle.alb_session.specs.Turns.{TakesAsked}
use Rattle.alb_session.specs.View.{AsksFor}
use Rattle.alb_session.proofs.AnswerLemmas.{asked-turn, long-step, plain-took}
use Rattle.alb_table.specs.RightTable.{rules_view}
use Rattle.alb_session.proofs.turn.take_turn.Goals as goal

same_line : (a b : List ℕ) (o : Option (List ℕ)) → Some a ≡ o → o ≡ Some b → a ≡ b
same_line a b o p q = cc

pub returns-in-Line-clause-takes : goal.returns-in-Line-clause-takes
returns-in-Line-clause-takes g c =
    let r = c.in-Line.ensures.reads in
    let same = same_line c.line.result.now r.gives.0 c.next_line.new.self.line c.line.ensures r.gives.1 in
    let asks = subst (λ (x : Rules). AsksFor c.read_request-request.result (asked_of (rules_view x) c.args.letters.now c.line.result.now)) c.rules.ensures c.read_request-request.ensures.asks in
    asked-turn (rules_view (board_rules c.args.board.now)) c.args.letters.now (pass_view c.args.pass.now) c.take_request.result _ _ _ _ _ r.gives.0 r.gives.2 (record { answer = _; reads = r; is_first = r.gives.3; running = r.gives.4 })
    (subst (λ (l : List ℕ). TakesAsked c.take_request.result (rules_view (board_rules c.args.board.now)) c.args.letters.now (asked_of (rules_view (board_rules c.args.board.now)) c.args.letters.now l) (pass_view c.args.pass.now) (pass_view c.take_request.new.pass)) same
    (c.take_request.ensures.takes (asked_of (rules_view (board_rules c.args.board.now)) c.args.letters.now c.line.result.now) asks))

pub returns-in-TooLong-clause-takes : goal.returns-in-TooLong-clause-takes
returns-in-TooLong-clause-takes g c =
    let r = c.in-TooLong.ensures.reads in
    record {
      line = r.gives.0;
      reads = record { answer = _; reads = r; is_first = r.gives.3; running = r.gives.4 };
      answers = record { support = nothing; step = long-step (rules_view (board_rules c.args.board.now)) c.args.letters.now (pass_view c.args.pass.now) r.gives.0 r.gives.2; took = plain-took (pass_view c.args.pass.now) };
    }
