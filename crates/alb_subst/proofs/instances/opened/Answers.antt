use Rattle.std.proofs.Common.{rules, ◌≡◌, ◌+◌, ◌<◌, ◌^◌, ◌∙◌, sym, subst, length, List}
use Rattle.alb_mono.specs.Listing.{Each}
use Rattle.alb_subst.specs.declared.range.Range.{Range}
use Rattle.alb_subst.specs.Ranges.{RisesFrom, ranges}
use Rattle.alb_subst.proofs.RangeLemmas.{rises-ranges, long-ranges, fit-ranges}
use Rattle.alb_subst.proofs.TupleLaw.{all_come}
use Rattle.alb_subst.proofs.LeastLemmas.{least-listing}
use Rattle.alb_subst.proofs.instances.opened.Goals as goal

pub begun-more-requires-clause-rises : goal.begun-more-requires-clause-rises
begun-more-requires-clause-rises c =
    let e : c.deref.result.now ≡ ranges c.args.tables.now.parts c.args.t.now c.args.tables.now.degree = c.deref.ensures.value ∙ c.in_ok-ranges.ensures in
    subst (RisesFrom 0) (sym e) (rises-ranges c.args.tables.now c.args.t.now c.degree.ensures.table c.requires.long c.requires.within)

pub begun-more-requires-clause-long : goal.begun-more-requires-clause-long
begun-more-requires-clause-long c =
    let e : c.deref.result.now ≡ ranges c.args.tables.now.parts c.args.t.now c.args.tables.now.degree = c.deref.ensures.value ∙ c.in_ok-ranges.ensures in
    subst (λ (rs : List Range). Each (λ (s : Range). length s.at ≡ length c.args.t.now) rs) (sym e)
    (long-ranges c.args.tables.now c.args.t.now c.degree.ensures.table c.requires.long c.requires.within)

pub begun-more-requires-clause-fit : goal.begun-more-requires-clause-fit
begun-more-requires-clause-fit c =
    let e : c.deref.result.now ≡ ranges c.args.tables.now.parts c.args.t.now c.args.tables.now.degree = c.deref.ensures.value ∙ c.in_ok-ranges.ensures in
    subst (λ (rs : List Range). Each (λ (s : Range). s.first + s.count < 2 ^ 32) rs) (sym e)
    (fit-ranges c.args.tables.now c.args.t.now c.degree.ensures.table c.requires.long c.requires.within)

pub returns : goal.returns
returns c =
    rw c.copied_runs.ensures
    (least-listing _ _ _ c.args.runs.now _
    (all_come c.args.tables.now c.args.t.now c.degree.ensures.table c.requires.long c.requires.within _ _ _ _ _ _ _ c.deref.ensures.value c.in_ok-ranges.ensures (search rules) (search rules)
    c.begun-more.ensures.comes))
