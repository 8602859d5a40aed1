use Rattle.std.proofs.Common.{◌≡◌, ℕ, List, [], get_or, ◌∙◌}
use Rattle.std.specs.List.{Contains}
use Rattle.std.proofs.lemmas.List.{get_or_default}
use Rattle.alb_rows.specs.Row.{Cells}
use Rattle.alb_rows.specs.Span.{rows_of}
use Rattle.alb_rows.proofs.SpanLemmas.{forms_unique, within_members}
use Rattle.alb_reduce.proofs.laws.order_is_free.Goals as goal

place : (xs : List Cells) (x : Cells) → Contains xs x → (m : ℕ) × (get_or xs m [] ≡ x)
place xs x w = (w.0, get_or_default xs w.0 [] x w.1 ∙ w.2)

pub returns : goal.returns
returns c p xs ys ps qs r s above h =
    forms_unique p (rows_of xs) (rows_of ys) ps qs r s above (record {
      into = within_members p xs ys (λ k l. place ys (get_or xs k []) (h.into k l));
      back = within_members p ys xs (λ k l. place xs (get_or ys k []) (h.back k l));
    })
