use Rattle.std.proofs.Common.{◌≡◌, ◌+◌, ◌-◌, ◌≤◌, ◌<◌, ◌||◌, ◌∙◌, ℕ, Bool, List, true, false, refl, sym, ap, subst, arith, map, length, Vec, Global}
use Rattle.std.proofs.lemmas.List.{length-map, with_items_is}
use Rattle.alb_deriv.specs.Derivation.{Line}
use Rattle.alb_deriv.specs.Views.{line}
use Rattle.alb_tidy.specs.Cites.{CitesWithin}
use Rattle.alb_tidy.specs.Needed.{is_marked}
use Rattle.alb_tidy.specs.Tidy.{line_at, cites}
use Rattle.alb_tidy.proofs.Citing.{within-more}
use Rattle.alb_tidy.proofs.Marking.{IsMarking, marking-skip, marking-next, marked-at}
use Rattle.alb_tidy.proofs.Tidying.{at-line}
use Rattle.alb_tidy.proofs.marks.needed.Goals as goal
use Rattle.alb_tidy.proofs.marks.needed.Goals.{then-index, else-index}

abbrev Marks : Type 0
Marks = Vec Bool Global

pub mark_cited-requires : goal.mark_cited-requires
mark_cited-requires c =
    let k : ℕ = c.args.last - 1 - c.loop-i.i in
    let i : ℕ = c.loop-i.i in
    let t : i < c.args.last = c.loop-i-test.true in
    let b : k < length c.args.lines.now = omega (arith, c.requires.number.among) in
    let m : length (map line c.args.lines.now) ≡ length c.args.lines.now = length-map c.args.lines.now line in
    let at : line_at (map line c.args.lines.now) k ≡ line c.index-lines-k.result = at-line c.args.lines.now k c.index-lines-k.result b c.index-lines-k.is in
    let n : length c.deref_mut.result.now ≡ c.args.last = ap length c.deref_mut.ensures.value ∙ c.loop-i.invariant.count in
    record { within = within-more k (length c.deref_mut.result.now) (line c.index-lines-k.result) (omega (arith, n)) (subst (CitesWithin k) at (c.requires.ordered k (omega (arith, m)))) }

pub loop-i-preserved : goal.loop-i-preserved
loop-i-preserved c =
    let lines : List Line = map line c.args.lines.now in
    let last : ℕ = c.args.last in
    let i : ℕ = c.loop-i.i in
    let k : ℕ = last - 1 - i in
    let t : i < last = c.loop-i-test.true in
    let here : k + i + 1 ≡ last = omega arith in
    let b : k < length c.args.lines.now = omega (arith, c.requires.number.among) in
    let inside : k < length c.loop-i.marks.items = omega (arith, c.loop-i.invariant.count) in
    let mark : is_marked c.loop-i.marks.items k ≡ c.index.result.now = marked-at c.loop-i.marks.items k c.index.result.now inside c.index.ensures in
    let m : length lines ≡ length c.args.lines.now = length-map c.args.lines.now line in
    elim c.if-index.branch [
      | then-index w ↦ (
          let at : line_at lines k ≡ line w.index-lines-k.result = at-line c.args.lines.now k w.index-lines-k.result b w.index-lines-k.is in
          let count : length w.mark_cited.new.marks ≡ length c.loop-i.marks.items = w.mark_cited.ensures.count ∙ ap length w.deref_mut.ensures.value in
          let same : (j : ℕ) → is_marked w.mark_cited.new.marks j ≡ (is_marked c.loop-i.marks.items j || cites (line_at lines k) (j + 1)) =
          λ j. w.mark_cited.ensures.marks j ∙ (λ x. is_marked (w.deref_mut.ensures.value x) j || cites (sym at x) (j + 1)) in
          subst (λ (v : Marks). IsMarking lines last (i + 1) v.items) (sym w.marks-is)
          (subst (IsMarking lines last (i + 1)) (sym (with_items_is c.loop-i.marks w.mark_cited.new.marks (w.mark_cited.ensures.count ∙ w.deref_mut.ensures.len)))
          (marking-next lines last i c.loop-i.marks.items c.loop-i.invariant k here c.requires.ordered (omega (arith, m, c.requires.number.among)) (mark ∙ w.if-index.true) w.mark_cited.new.marks count same)))
      | else-index w ↦ subst (λ (v : Marks). IsMarking lines last (i + 1) v.items) (sym w.marks-is)
          (marking-skip lines last i c.loop-i.marks.items c.loop-i.invariant k here (mark ∙ w.if-index.false))
    ]
