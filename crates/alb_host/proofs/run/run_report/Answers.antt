use Rattle.std.proofs.Common.{◌≡◌, ◌∙◌, sym, Option, Some, None}
use Rattle.alb_host.specs.Words.{HostWords, words_view}
use Rattle.alb_host.proofs.RunLemmas.{never-usage}
use Rattle.alb_host.proofs.run.run_report.Goals as goal

pub returns-in-Ok-clause-usage : goal.returns-in-Ok-clause-usage
returns-in-Ok-clause-usage g c = λ ample. (
  λ is.
      absurd
      (never-usage g.D.In.Source g.D.Out.Sink (g.D.Desk.files c.args.desk.now) (g.D.Desk.is_sound c.args.desk.now) (words_view c.in-Ok.said) (g.D.Desk.faults c.args.desk.now)
      (g.D.Desk.faults c.run_words.new.desk) c.run_words.result c.run_words.ensures.runs is),
  λ none.
      let e : ◌≡◌ {A = Option HostWords} (Some (words_view c.in-Ok.said)) None = sym c.in-Ok.ensures.said ∙ none in
      cc,
)
