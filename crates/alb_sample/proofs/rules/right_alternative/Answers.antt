use Rattle.std.proofs.Common.{◌∙◌, sym}
use Rattle.alb_poly.specs.Terms.{terms}
use Rattle.alb_sample.proofs.CodeLemmas.{right-form, second-form}
use Rattle.alb_sample.proofs.rules.right_alternative.Goals as goal

pub returns : goal.returns
returns c = right-form c.in_ok-terms.terms (terms c.in_ok-list.list.items) c.field_251.result c.field_251.ensures c.in_ok-list.ensures c.in_ok-terms.ensures.value ∙ sym (second-form _)
