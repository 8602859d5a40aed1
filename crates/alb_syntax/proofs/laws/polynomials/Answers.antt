use Rattle.std.proofs.Common.{◌∙◌, sym}
use Rattle.alb_syntax.proofs.Again.{denoted-again}
use Rattle.alb_lex.proofs.Binds.{ok_is}
use Rattle.alb_syntax.proofs.Found.{denoted-found}
use Rattle.alb_syntax.specs.Reading.{Setting}
use Rattle.alb_syntax.proofs.laws.polynomials.Goals as goal

pub returns-clause-read : goal.returns-clause-read
returns-clause-read c p end letters ts f =
    let s : Setting = record { field = p; letters = letters; end = end } in (denoted-again s ts f, denoted-found s ts f)

pub returns-clause-one : goal.returns-clause-one
returns-clause-one c p letters ts f g d e =
    let s : Setting = record { field = p; letters = letters; end = 0 } in ok_is f g (sym (denoted-again s ts f d) ∙ denoted-again s ts g e)
