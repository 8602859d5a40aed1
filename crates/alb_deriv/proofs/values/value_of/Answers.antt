use Rattle.alb_deriv.proofs.values.value_of.Goals as goal

pub returns-in-Instance-clause-value : goal.returns-in-Instance-clause-value
returns-in-Instance-clause-value c = λ gs e. rw c.in-Instance.is (rw c.deref.ensures.value at (c.instance_value.ensures.value gs))
