use Rattle.alb_trace.proofs.answers.Deriver.new.Goals as goal

pub returns : goal.returns
returns c = λ r t right. c.new.ensures r.forms t right.table
