use Rattle.std.proofs.Common.{◌≡◌, ◌∙◌, ap, length, arith}
use Rattle.alb_poly.specs.Consequence.{form}
use Rattle.alb_linear.specs.Runs.{exchanged, same_terms}
use Rattle.alb_linear.proofs.RunLemmas.{positions-length, positions-small, positions-known, exchangeable}
use Rattle.alb_linear.proofs.runs.are_exchangeable.Goals as goal

pub instance-requires-clause-full : goal.instance-requires-clause-full
instance-requires-clause-full c =
    ap length c.deref.ensures.value ∙ positions-length (exchanged c.args.j) c.args.f.now.degree c.in_ok-positions.positions.items c.in_ok-positions.ensures

pub instance-requires-clause-small : goal.instance-requires-clause-small
instance-requires-clause-small c =
    let e = positions-small (exchanged c.args.j) c.args.f.now.degree c.in_ok-positions.positions.items c.in_ok-positions.ensures in
    rw (c.deref.ensures.value, e) (omega (arith, c.requires.few))

pub instance-requires-clause-known : goal.instance-requires-clause-known
instance-requires-clause-known c =
    rw c.deref.ensures.value (positions-known c.args.j c.args.f.now.degree c.in_ok-positions.positions.items c.requires.few c.requires.next c.in_ok-positions.ensures)

pub returns : goal.returns
returns c =
    let e : c.are_same.result ≡ same_terms c.in_ok-other.other c.args.f.now.terms = rw (c.terms.ensures.value, c.terms-2.ensures.value) at c.are_same.ensures in
    exchangeable c.args.field.now c.args.j (form c.args.f.now) c.in_ok-positions.positions.items c.in_ok-other.other c.are_same.result (omega (arith, c.p.ensures.value, c.p.ensures.above_one))
    c.requires.form c.terms-2.ensures.descending c.in_ok-positions.ensures (rw c.deref.ensures.value at c.in_ok-other.ensures.value) e
