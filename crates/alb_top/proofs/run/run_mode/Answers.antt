use Rattle.std.proofs.Common.{sym, subst}
use Rattle.alb_io.specs.declared.status.Status.TheVariants.{NoMemory}
use Rattle.alb_top.specs.Does.{DoesScript}
use Rattle.alb_top.specs.Script.{start}
use Rattle.alb_top.proofs.Going.{Outcome-nothing}
use Rattle.alb_top.proofs.SoundLemmas.{sound-start}
use Rattle.alb_top.proofs.run.run_mode.Goals as goal

pub returns-in_default-open-clause-outcome : goal.returns-in_default-open-clause-outcome
returns-in_default-open-clause-outcome g c =
    subst (λ o. DoesScript c.args.mode o NoMemory (g.S.Source.left c.args.input.now) (g.S.Source.left c.args.input.now) (g.K.Sink.taken c.args.output.now) (g.K.Sink.taken c.args.output.now)) c.in-Some.ensures
    (Outcome-nothing (start c.args.mode c.in-Some.form) (sound-start c.args.mode c.in-Some.form (sym c.in-Some.ensures)) _ _)
