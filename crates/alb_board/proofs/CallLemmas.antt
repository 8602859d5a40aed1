-- What the calls of the builder need of a turn.
use Rattle.std.proofs.Common.{◌≡◌, ℕ, ◌+◌, ◌^◌, ◌<◌, ◌≤◌, true, sym, ap, ◌∙◌, subst, arith, Option, Some, None, Global}
use Rattle.std.specs.Arc.{arc_value}
use Rattle.std.specs.declared.sync.Arc.{Arc}
use Rattle.alb_table.specs.declared.tables.Tables.{Tables}
use Rattle.alb_table.specs.declared.end.BuildEnd.{BuildEnd}
use Rattle.alb_table.specs.End.{end_of}
use Rattle.alb_table.specs.RightTable.{RulesView, rules_view, IsRightFor}
use Rattle.alb_table.specs.Table.{Table}
use Rattle.alb_board.specs.declared.kept.Shot.{Shot}
use Rattle.alb_board.specs.declared.kept.Published.{Published}
use Rattle.alb_board.specs.declared.kept.PassView.{PassView}
use Rattle.alb_board.specs.Published.{published_of, end_count, number_of, IsAllowedEnd, MayEnd, IsKeepable}
use Rattle.alb_board.specs.Steps.{FindsShot, in_turn}

abbrev pub entered : PassView → Published → ℕ → PassView
entered v h n = record (in_turn v h) { ticket = Some n; calls = v.calls + 1 }

-- the value may follow the one that is kept
abbrev pub MayFollow : PassView → Shot → Type 0
MayFollow w new = IsKeepable w.rules new × (number_of (published_of new) ≡ number_of w.held + 1) × (w.held.degree ≤ (published_of new).degree) × (number_of (published_of new) < 2 ^ 64)

-- with no end, the number is the degree
pub unended : (h : Published) → h.end ≡ None → number_of h ≡ h.degree
unended h e = let zero : end_count h.end ≡ 0 = ap end_count e in omega arith

-- a right table has at most degree 12
pub degree_small : (r : RulesView) (t : Table) → IsRightFor r t → t.degree ≤ 12
degree_small r t right = omega (arith, right.table.within, right.table.goal.small)

pub next_follows : (v w : PassView) (h : Published) (n : ℕ) (k new : Shot) → w ≡ entered v h n → FindsShot v h k → v.builder ≡ true → v.end ≡ None
    → IsRightFor (rules_view v.rules) (arc_value new.tables) → (arc_value new.tables).degree ≡ v.seen + 1 → new.end ≡ None → MayFollow w new
next_follows v w h n k new is finds builds none_yet right next no_end = let b = finds.builder builds in let here = unended h (sym b.2 ∙ none_yet) in let there = unended (published_of new) no_end in
    let seen : v.seen ≡ h.degree = b.1 in let most = degree_small (rules_view v.rules) (arc_value new.tables) right in
    subst (λ (x : PassView). MayFollow x new) (sym is)
    (record { right = right; end = subst (λ (e : Option BuildEnd). MayEnd (rules_view v.rules) (arc_value new.tables).degree e) (sym no_end) tt }, omega arith, omega arith, omega arith)

pub end_follows : (v w : PassView) (h : Published) (n : ℕ) (k new : Shot) (e : BuildEnd) → w ≡ entered v h n → FindsShot v h k → v.builder ≡ true → v.end ≡ None
    → new.tables ≡ k.tables → new.end ≡ Some e → IsAllowedEnd (rules_view v.rules) v.seen (end_of e) → MayFollow w new
end_follows v w h n k new e is finds builds none_yet same ended allowed =
    let b = finds.builder builds in let here = unended h (sym b.2 ∙ none_yet) in let seen : v.seen ≡ h.degree = b.1 in
    let d : (arc_value new.tables).degree ≡ h.degree = ap (λ (t : Arc Tables Global). (arc_value t).degree) same ∙ ap (λ (t : Published). t.degree) finds.published_is in
    let right : IsRightFor (rules_view v.rules) (arc_value new.tables) = subst (λ (t : Arc Tables Global). IsRightFor (rules_view v.rules) (arc_value t)) (sym same) finds.keepable.right in
    let most = degree_small (rules_view v.rules) (arc_value new.tables) right in
    let one : end_count new.end ≡ 1 = ap end_count ended in let at : v.seen ≡ (arc_value new.tables).degree = omega arith in
    subst (λ (x : PassView). MayFollow x new) (sym is)
    (record { right = right; end = subst (λ (x : ℕ × Option BuildEnd). MayEnd (rules_view v.rules) x.0 x.1) (λ i. (at i, sym ended i)) allowed }, omega arith, omega arith, omega arith)
