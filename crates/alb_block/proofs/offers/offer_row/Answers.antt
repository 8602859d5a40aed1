use Rattle.std.proofs.Common.{◌≡◌, ℕ, [], ◌∷◌, ◌++◌, List, map, refl, sym, subst}
use Rattle.alb_rows.specs.Row.{entry}
use Rattle.alb_rows.specs.Span.{InSpan, SameSpan, rows_of}
use Rattle.alb_reduce.specs.Reduction.{kept}
use Rattle.alb_table.specs.Table.{origin_view}
use Rattle.alb_block.specs.Offers.{AreKept}
use Rattle.alb_block.proofs.OfferLemmas.{has-zero, has-more, kept-dependent, kept-pivot, views-more}
use Rattle.alb_block.proofs.offers.offer_row.Goals as goal

pub returns-then-is_zero-clause-more : goal.returns-then-is_zero-clause-more
returns-then-is_zero-clause-more c = λ s a r.
    has-zero s c.args.offers.echelon (c.args.identity, c.args.args.items) c.args.row r (c.is_zero.ensures.value.0 c.if-is_zero.true)

pub returns-in-Dependent-clause-kept : goal.returns-in-Dependent-clause-kept
returns-in-Dependent-clause-kept c = λ s a i r.
    let old = c.args.offers.echelon in
    let new = c.in_ok-echelon.echelon in
    let g : SameSpan s.p (kept new) (rows_of (c.args.row ∷ old.rows)) =
    subst (λ q. SameSpan q (kept new) (rows_of (c.args.row ∷ old.rows))) a.field c.in_ok-echelon.ensures.span in
    let d : InSpan s.p (kept old) (entry c.args.row) =
    subst (λ q. InSpan q (kept old) (entry c.args.row)) a.field (c.in_ok-echelon.ensures.dependent.0 c.in-Dependent.is) in
    kept-dependent s old new (map origin_view c.args.offers.origins.items) c.args.row a g d c.in_ok-echelon.ensures.same

pub returns-in-Dependent-clause-more : goal.returns-in-Dependent-clause-more
returns-in-Dependent-clause-more c = λ s a r.
    let old = c.args.offers.echelon in
    let new = c.in_ok-echelon.echelon in
    has-more s old new (c.args.identity, c.args.args.items) c.args.row r
    (subst (λ q. SameSpan q (kept new) (rows_of (c.args.row ∷ old.rows))) a.field c.in_ok-echelon.ensures.span)

pub returns-in_ok-push-in-Pivot-clause-kept : goal.returns-in_ok-push-in-Pivot-clause-kept
returns-in_ok-push-in-Pivot-clause-kept c = λ s a i r.
    let old = c.args.offers.echelon in
    let new = c.in_ok-echelon.echelon in
    let name : ℕ × List ℕ = (c.args.identity, c.args.args.items) in
    let g : SameSpan s.p (kept new) (rows_of (c.args.row ∷ old.rows)) =
    subst (λ q. SameSpan q (kept new) (rows_of (c.args.row ∷ old.rows))) a.field c.in_ok-echelon.ensures.span in
    let adds = c.in_ok-echelon.ensures.pivot c.in-Pivot.field-0 c.in-Pivot.is in
    let views : map origin_view c.push.new.self.items ≡ map origin_view c.args.offers.origins.items ++ name ∷ [] =
    views-more c.args.offers.origins.items c.push.new.self.items (record { identity = c.args.identity; args = c.args.args }) name c.in_ok-push-in-Pivot.ensures.items refl in
    subst (AreKept s new) (sym views)
    (kept-pivot s old new (map origin_view c.args.offers.origins.items) name c.args.row c.in-Pivot.field-0 a i r g adds c.in_ok-echelon.ensures.same)

pub returns-in_ok-push-in-Pivot-clause-more : goal.returns-in_ok-push-in-Pivot-clause-more
returns-in_ok-push-in-Pivot-clause-more c = λ s a r.
    let old = c.args.offers.echelon in
    let new = c.in_ok-echelon.echelon in
    has-more s old new (c.args.identity, c.args.args.items) c.args.row r
    (subst (λ q. SameSpan q (kept new) (rows_of (c.args.row ∷ old.rows))) a.field c.in_ok-echelon.ensures.span)
