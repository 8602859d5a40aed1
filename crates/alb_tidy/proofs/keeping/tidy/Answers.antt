use Rattle.std.proofs.Common.{◌≡◌, ◌+◌, ◌≤◌, ◌<◌, ℕ, Bool, refl, sym, ap, ◌∙◌, subst, arith, All, map, length, get_or, Vec, Global}
use Rattle.std.proofs.lemmas.Result.{IfOk-weaker}
use Rattle.alb_deriv.specs.Short.{AreFine, IsLineOf}
use Rattle.alb_deriv.specs.Views.{line, IsLine}
use Rattle.alb_deriv.specs.declared.line.Line.{Line}
use Rattle.alb_tidy.specs.Numbers.{lines_in}
use Rattle.alb_tidy.specs.Needed.{is_marked}
use Rattle.alb_tidy.specs.Tidy.{IsTidy}
use Rattle.alb_tidy.proofs.Marking.{marked-at}
use Rattle.alb_tidy.specs.declared.keeping.Keeping.{Keeping}
use Rattle.alb_tidy.proofs.Tidying.{IsTidying, tidying-start, tidying-within, tidying-skip, tidying-keep, tidied, tidied-fine}
use Rattle.alb_tidy.proofs.keeping.tidy.Goals as goal
use Rattle.alb_tidy.proofs.keeping.tidy.Goals.{then-index+in_ok-keep, else-index+in_ok-skip}

abbrev Lines : Type 0
Lines = Vec Line Global

pub keep-requires : goal.keep-requires
keep-requires c =
    tidying-within c.args.lines.now c.args.last c.in_ok-marks.marks.items c.requires.number c.requires.ordered c.in_ok-marks.ensures c.loop-k.k c.loop-k-test.true
    (lines_in c.loop-k.keeping.ledger) c.loop-k.keeping.places.items c.loop-k.invariant c.index-lines-k.result c.index-lines-k.is

pub loop-k-preserved : goal.loop-k-preserved
loop-k-preserved c =
    let marked : (k : ℕ) → k < c.args.last → (b : Bool) → b ≡ get_or c.in_ok-marks.marks.items k b → is_marked c.in_ok-marks.marks.items k ≡ b =
    λ k l b e. marked-at c.in_ok-marks.marks.items k b (omega (arith, c.in_ok-marks.ensures.count)) e in
    elim c.if-index.branch [
      | then-index+in_ok-keep w ↦ subst (λ (s : Keeping). IsTidying c.args.lines.now c.in_ok-marks.marks.items (c.loop-k.k + 1) (lines_in s.ledger) s.places.items) (sym w.keeping-is)
          (tidying-keep c.args.lines.now c.args.last c.in_ok-marks.marks.items c.requires.number c.requires.ordered c.in_ok-marks.ensures c.loop-k.k c.loop-k-test.true
          (lines_in c.loop-k.keeping.ledger) c.loop-k.keeping.places.items c.loop-k.invariant w.index-lines-k.result w.index-lines-k.is (marked c.loop-k.k c.loop-k-test.true c.index.result.now c.index.ensures ∙ w.if-index.true) c.loop-k.keeping w.keep.new.self refl refl w.in_ok-keep.ensures)
      | else-index+in_ok-skip w ↦ subst (λ (s : Keeping). IsTidying c.args.lines.now c.in_ok-marks.marks.items (c.loop-k.k + 1) (lines_in s.ledger) s.places.items) (sym w.keeping-is)
          (tidying-skip c.args.lines.now c.args.last c.in_ok-marks.marks.items c.requires.number c.requires.ordered c.in_ok-marks.ensures c.loop-k.k c.loop-k-test.true
          (lines_in c.loop-k.keeping.ledger) c.loop-k.keeping.places.items c.loop-k.invariant c.loop-k.keeping w.skip.new.self refl refl (marked c.loop-k.k c.loop-k-test.true c.index.result.now c.index.ensures ∙ w.if-index.false) w.in_ok-skip.ensures)
    ]

-- what is known at the end
ended : (c : goal.After-drop-marks-2) → IsTidying c.args.lines.now c.in_ok-marks.marks.items c.args.last (lines_in c.loop-k.keeping.ledger) c.loop-k.keeping.places.items
ended c =
    let e : c.loop-k.k ≡ c.args.last = omega (arith, c.loop-k.auto.k-end, c.loop-k-test.false) in
    subst (λ k. IsTidying c.args.lines.now c.in_ok-marks.marks.items k (lines_in c.loop-k.keeping.ledger) c.loop-k.keeping.places.items) e c.loop-k.invariant

pub returns-clause-tidy : goal.returns-clause-tidy
returns-clause-tidy c =
    IfOk-weaker c.into_lines.result (λ (v : Lines). v.items ≡ lines_in c.loop-k.keeping.ledger) (λ (v : Lines). IsTidy (map line v.items))
    (λ v e. subst (λ ls. IsTidy (map line ls)) (sym e)
    (tidied c.args.lines.now c.args.last c.in_ok-marks.marks.items c.requires.number c.requires.ordered c.in_ok-marks.ensures (lines_in c.loop-k.keeping.ledger) c.loop-k.keeping.places.items (ended c)))
    c.into_lines.ensures

pub returns-clause-derives : goal.returns-clause-derives
returns-clause-derives c = λ p most target fs f pos good is.
    IfOk-weaker c.into_lines.result (λ (v : Lines). v.items ≡ lines_in c.loop-k.keeping.ledger) (λ (v : Lines). AreFine p most target fs (map line v.items) × IsLineOf p fs (map line v.items) (length v.items) f)
    (λ v e. subst (λ ls. AreFine p most target fs (map line ls) × IsLineOf p fs (map line ls) (length ls) f) (sym e)
    (tidied-fine c.args.lines.now c.args.last c.in_ok-marks.marks.items c.requires.number c.requires.ordered c.in_ok-marks.ensures (lines_in c.loop-k.keeping.ledger) c.loop-k.keeping.places.items (ended c) p most target fs f pos good is))
    c.into_lines.ensures

pub returns-clause-printable : goal.returns-clause-printable
returns-clause-printable c = λ p n a.
    IfOk-weaker c.into_lines.result (λ (v : Lines). v.items ≡ lines_in c.loop-k.keeping.ledger) (λ (v : Lines). All (λ l. IsLine p n l) v.items)
    (λ v e. subst (All (λ l. IsLine p n l)) (sym e) ((ended c).printable p n a))
    c.into_lines.ensures
