use Rattle.alb_problem_file.proofs.ReadLemmas.{Line-says, Long-says}
use Rattle.alb_problem_file.proofs.line.take_line.Goals as goal

pub returns-in-Line-clause-takes : goal.returns-in-Line-clause-takes
returns-in-Line-clause-takes g c = Line-says _ _ _ _ _ _ _ _ c.in-Line.ensures.reads c.line.ensures c.say.ensures

pub returns-in-TooLong-clause-takes : goal.returns-in-TooLong-clause-takes
returns-in-TooLong-clause-takes g c = Long-says _ _ _ _ _ _ _ c.in-TooLong.ensures.reads c.too_long_code.ensures
