use Rattle.std.proofs.Common.{◌<◌, length, drop, sym, subst, arith, false-eqb}
use Rattle.std.specs.Prelude.{All, IsTrue}
use Rattle.std.specs.List.{flat_map}
use Rattle.std.proofs.lemmas.List.Elements.{All-drop}
use Rattle.alb_io.proofs.Writers.{Writes-exit, Writes-more, Writes-then, Writes-text}
use Rattle.alb_mono.specs.Tree.{tree, are_below}
use Rattle.alb_poly.specs.Terms.{terms}
use Rattle.alb_poly.specs.declared.term.Term.{Term}
use Rattle.alb_print.specs.Text.{later_text}
use Rattle.alb_print.proofs.Writes.{poly-cons}
use Rattle.alb_print.proofs.poly.write_terms.Goals as goal

pub returns-in_err-write_first : goal.returns-in_err-write_first
returns-in_err-write_first g c =
    let some : 0 < length c.args.list.now = omega (arith, false-eqb (length c.args.list.now) 0 c.if-is_empty.ensures) in
    Writes-exit _ _ c.from_residual.ensures.1
    (Writes-text (poly-cons c.args.field.now c.args.letters.now c.args.list.now c.first.result.now some c.first.ensures)
    (Writes-more (flat_map (later_text c.args.field.now c.args.letters.now) (terms (drop 1 c.args.list.now))) c.in_err-write_first.ensures))

pub write_others-requires-clause-residues : goal.write_others-requires-clause-residues
write_others-requires-clause-residues g c = subst (All (λ (t : Term). t.coef < c.args.field.now)) (sym c.behind.ensures) (All-drop (λ (t : Term). t.coef < c.args.field.now) 1 c.args.list.now c.requires.residues)

pub write_others-requires-clause-known : goal.write_others-requires-clause-known
write_others-requires-clause-known g c =
    let P = λ (t : Term). IsTrue (are_below (length c.args.letters.now) (tree t.mono)) in
    subst (All P) (sym c.behind.ensures) (All-drop P 1 c.args.list.now c.requires.known)

pub returns : goal.returns
returns g c =
    let some : 0 < length c.args.list.now = omega (arith, false-eqb (length c.args.list.now) 0 c.if-is_empty.ensures) in
    Writes-text (poly-cons c.args.field.now c.args.letters.now c.args.list.now c.first.result.now some c.first.ensures)
    (Writes-then c.in_ok-write_first.ensures (rw c.behind.ensures at c.write_others.ensures))
