use Rattle.std.proofs.Common.{◌≡◌, ◌∷◌, map}
use Rattle.alb_host.specs.Steps.{builder_job, serve_job}
use Rattle.alb_host.proofs.start.line_up.Given as goal

abbrev pub invariant-loop-start : goal.invariant-loop-start
invariant-loop-start g l = l.jobs.items ≡ builder_job l.fn.pass l.fn.first ∷ map serve_job l.yielded
