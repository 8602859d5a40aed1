use Rattle.std.proofs.Common.{◌∷◌}
use Rattle.alb_rows.specs.Span.{rows_of}
use Rattle.alb_rows.proofs.SpanLemmas.{spans_joined, spans_more}
use Rattle.alb_reduce.proofs.laws.offers_add_up.Goals as goal

pub returns : goal.returns
returns c p old new offered row a b =
    spans_joined p (rows_of new) (rows_of (row ∷ old)) (rows_of (row ∷ offered)) b (spans_more p old offered row a)
