use Rattle.std.proofs.Common.{◌∙◌}
use Rattle.clap.specs.Words.{app_of}
use Rattle.alb_words.specs.Words.{texts_of}
use Rattle.alb_words.proofs.ReadLemmas.{found, refused}
use Rattle.alb_words.proofs.read.matches.Goals as goal

pub returns-in-Ok-clause-finds : goal.returns-in-Ok-clause-finds
returns-in-Ok-clause-finds c =
    found (app_of c.in_ok-command.command) (texts_of c.args.words.now) c.in-Ok.matches c.in_ok-command.ensures c.in-Ok.ensures.matches c.in-Ok.ensures.kinds

pub returns-in-Err-clause-usage : goal.returns-in-Err-clause-usage
returns-in-Err-clause-usage c is =
    refused (app_of c.in_ok-command.command) (texts_of c.args.words.now) c.in-Err.error c.in_ok-command.ensures c.in-Err.ensures.kinds (λ m. c.fault.ensures.usage (cc) (c.kind-kind.ensures ∙ m))
