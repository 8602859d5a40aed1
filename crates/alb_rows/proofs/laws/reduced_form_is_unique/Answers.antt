use Rattle.alb_rows.specs.Span.{rows_of}
use Rattle.alb_rows.proofs.SpanLemmas.{forms_unique}
use Rattle.alb_rows.proofs.laws.reduced_form_is_unique.Goals as goal

pub returns : goal.returns
returns c p xs ys ps qs r s = forms_unique p (rows_of xs) (rows_of ys) ps qs r s
