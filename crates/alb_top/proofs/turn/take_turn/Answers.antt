use Rattle.std.proofs.Common.{◌≡◌, [], ◌∷◌, List, ℕ, Option, Some, refl, subst}
use Rattle.alb_top.specs.View.{state, AsksFor, response_of}
use Rattle.alb_top.proofs.TurnLemmas.{answers-line, step-command, commands-long}
use Rattle.alb_top.proofs.turn.take_turn.Goals as goal

same_line : (a b : List ℕ) (o : Option (List ℕ)) → Some a ≡ o → o ≡ Some b → a ≡ b
same_line a b o p q = cc

pub returns-in-Ok-clause-takes : goal.returns-in-Ok-clause-takes
returns-in-Ok-clause-takes g c =
    let r = c.in-Line.ensures.reads in
    let same = same_line c.line.result.now r.gives.0 c.next_line.new.self.line c.line.ensures r.gives.1 in
    c.take_asked.ensures.takes c.args.reader.now (g.S.Source.left c.args.input.now) r.gives.0 (record { answer = _; reads = r; is_first = r.gives.3; running = r.gives.4 }) r.gives.2
    (subst (AsksFor c.in-Ok.asks (state c.args.script)) same c.in-Ok.ensures.asks)

pub returns-in-Err-clause-takes : goal.returns-in-Err-clause-takes
returns-in-Err-clause-takes g c =
    let r = c.in-Line.ensures.reads in
    record { lines = r.gives.0 ∷ []; reads = (c.next_line.new.self, g.S.Source.left c.next_line.new.source, record { answer = _; reads = r; is_first = r.gives.3; running = r.gives.4 }, (refl, refl)) }

pub returns-in-TooLong-clause-takes : goal.returns-in-TooLong-clause-takes
returns-in-TooLong-clause-takes g c =
    let r = c.in-TooLong.ensures.reads in
    answers-line _ _ (state c.args.script) (state c.refuse-response.result.1) _ _ r.gives.0 (response_of c.refuse-response.result.0) c.requires.going (record { answer = _; reads = r; is_first = r.gives.3; running = r.gives.4 })
    (step-command (state c.args.script) (state c.refuse-response.result.1) r.gives.0 (response_of c.refuse-response.result.0) c.requires.going refl
    (commands-long (state c.args.script) (state c.refuse-response.result.1) r.gives.0 (response_of c.refuse-response.result.0) r.gives.2 c.refuse-response.ensures.responds))

pub returns-in-End-clause-takes : goal.returns-in-End-clause-takes
returns-in-End-clause-takes g c = record {
  mid = state c.args.script;
  pauses = record { lines = []; last = c.args.reader.now; between = g.S.Source.left c.args.input.now; inside = (refl, refl); shown = []; run = (refl, refl, refl); breaks = c.in-End.ensures.reads; runs = c.requires.going };
  ends = (refl, refl);
}

pub returns-in-ReadFault-clause-takes : goal.returns-in-ReadFault-clause-takes
returns-in-ReadFault-clause-takes g c =
    (state c.args.script, record { lines = []; last = c.args.reader.now; between = g.S.Source.left c.args.input.now; inside = (refl, refl); shown = []; run = (refl, refl, refl); breaks = c.in-ReadFault.ensures.reads; runs = c.requires.going })

pub returns-in-InputLimit-clause-takes : goal.returns-in-InputLimit-clause-takes
returns-in-InputLimit-clause-takes g c =
    (state c.args.script, record { lines = []; last = c.args.reader.now; between = g.S.Source.left c.args.input.now; inside = (refl, refl); shown = []; run = (refl, refl, refl); breaks = c.in-InputLimit.ensures.reads; runs = c.requires.going })
