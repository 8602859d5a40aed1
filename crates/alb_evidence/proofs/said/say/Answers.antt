use Rattle.alb_evidence.proofs.said.say.Goals as goal

pub returns-in_ok-so_far-in-Nothing-clause-said : goal.returns-in_ok-so_far-in-Nothing-clause-said
returns-in_ok-so_far-in-Nothing-clause-said c = λ h. c.in_ok-so_far-in-Nothing.ensures.said c.args.field.now
