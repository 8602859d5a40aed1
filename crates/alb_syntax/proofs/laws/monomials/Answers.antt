use Rattle.std.proofs.Common.{◌∙◌, sym}
use Rattle.alb_lex.proofs.Binds.{ok_is}
use Rattle.alb_syntax.proofs.Monomials.{mono-again, mono_denoted-spelled}
use Rattle.alb_syntax.specs.Reading.{Lettering}
use Rattle.alb_syntax.proofs.laws.monomials.Goals as goal

pub returns-clause-read : goal.returns-clause-read
returns-clause-read c end letters ts m =
    let s : Lettering = record { letters = letters; end = end } in (mono-again s ts m, mono_denoted-spelled s ts m)

pub returns-clause-one : goal.returns-clause-one
returns-clause-one c letters ts l m d e =
    let s : Lettering = record { letters = letters; end = 0 } in ok_is l m (sym (mono-again s ts l d) ∙ mono-again s ts m e)
