use Rattle.std.proofs.Common.{◌≡◌, ◌<◌, length, get_or, [], arith, refl}
use Rattle.std.proofs.lemmas.Bool.{false≢true}
use Rattle.std.proofs.lemmas.List.{get_or_read}
use Rattle.alb_reduce.proofs.EchelonLemmas.{no_pivot, found_row, over_read}
use Rattle.alb_reduce.proofs.StateLemmas.{found_pivot, row_below, row_leads}
use Rattle.alb_reduce.proofs.reduced.Reduced.row_of.Goals as goal

pub returns-in-None-clause-exactly : goal.returns-in-None-clause-exactly
returns-in-None-clause-exactly c =
    let none = c.in-None.ensures c.self.inside.order.items (rw (← c.deref.ensures.value) at c.self.invariant.index) in
    rw (← c.self.view_is) (λ e. absurd (false≢true e), λ is. absurd (no_pivot _ _ _ _ c.self.invariant.form.state.kept.echelon none is))

pub returns-in-Some-clause-exactly : goal.returns-in-Some-clause-exactly
returns-in-Some-clause-exactly c =
    let found = c.in-Some.ensures c.self.inside.order.items (rw (← c.deref.ensures.value) at c.self.invariant.index) in
    rw (← c.self.view_is) (λ e. found_pivot _ _ _ _ c.in-Some.k c.self.invariant.form.state.kept.echelon found.0 found.1, λ is. refl)

pub returns-in-Some-clause-reduced : goal.returns-in-Some-clause-reduced
returns-in-Some-clause-reduced c =
    let found = c.in-Some.ensures c.self.inside.order.items (rw (← c.deref.ensures.value) at c.self.invariant.index) in
    rw (← c.self.view_is) (found_row _ _ _ _ c.in-Some.k _ c.self.invariant.form.state.kept.echelon found.0 found.1 c.index.ensures)

pub returns-in-Some-clause-row : goal.returns-in-Some-clause-row
returns-in-Some-clause-row c =
    let found = c.in-Some.ensures c.self.inside.order.items (rw (← c.deref.ensures.value) at c.self.invariant.index) in
    let kept = c.self.invariant.form.state.kept in
    rw (← c.self.view_is) (over_read _ c.self.inside.rows.items c.in-Some.k _ kept.echelon.residues (omega (arith, kept.echelon.long, found.0)) c.index.ensures)

pub returns-in-Some-clause-columns : goal.returns-in-Some-clause-columns
returns-in-Some-clause-columns c =
    let found = c.in-Some.ensures c.self.inside.order.items (rw (← c.deref.ensures.value) at c.self.invariant.index) in
    let kept = c.self.invariant.form.state.kept in
    let l : c.in-Some.k < length c.self.inside.rows.items = omega (arith, kept.echelon.long, found.0) in
    let read : c.index.result.now ≡ get_or c.self.inside.rows.items c.in-Some.k [] = get_or_read c.self.inside.rows.items c.in-Some.k _ l c.index.ensures [] in
    rw (← c.self.view_is, read) (row_below _ _ _ _ c.in-Some.k kept l)

pub returns-in-Some-clause-leads : goal.returns-in-Some-clause-leads
returns-in-Some-clause-leads c =
    let found = c.in-Some.ensures c.self.inside.order.items (rw (← c.deref.ensures.value) at c.self.invariant.index) in
    let kept = c.self.invariant.form.state.kept in
    let l : c.in-Some.k < length c.self.inside.rows.items = omega (arith, kept.echelon.long, found.0) in
    let read : c.index.result.now ≡ get_or c.self.inside.rows.items c.in-Some.k [] = get_or_read c.self.inside.rows.items c.in-Some.k _ l c.index.ensures [] in
    row_leads _ _ _ _ c.in-Some.k _ kept.echelon found.0 found.1 read
