use Rattle.std.proofs.Common.{◌<◌, ◌∙◌, arith, sym, length, map}
use Rattle.std.proofs.lemmas.List.{length-map}
use Rattle.alb_mono.specs.Tree.{tree}
use Rattle.alb_poly.specs.Consequence.{form}
use Rattle.alb_deriv.proofs.Fits.{all_below, instance-fit}
use Rattle.alb_deriv.proofs.LineLemmas.{place-found, linearized_of, table-one}
use Rattle.alb_deriv.proofs.values.instance_value.Goals as goal

pub instance_terms-requires-clause-one : goal.instance_terms-requires-clause-one
instance_terms-requires-clause-one c = table-one c.args.rules.now.field c.requires.rules.prime

pub instance_terms-requires-clause-linearized : goal.instance_terms-requires-clause-linearized
instance_terms-requires-clause-linearized c =
    let q = place-found c.len.result c.args.i c.in-Some.k c.in-Some.ensures in
    let below : c.in-Some.k < length c.args.rules.now.linears.items = omega (arith, q.below, c.len.ensures, c.args.rules.now.linears.ok.0) in
    linearized_of _ c.args.rules.now.linears.items c.in-Some.k c.index-linear.result.now below c.index-linear.ensures c.requires.rules.linearized

pub returns-in-Ok-clause-numbered : goal.returns-in-Ok-clause-numbered
returns-in-Ok-clause-numbered c =
    let q = place-found c.len.result c.args.i c.in-Some.k c.in-Some.ensures in
    let below : c.in-Some.k < length c.args.rules.now.linears.items = omega (arith, q.below, c.len.ensures, c.args.rules.now.linears.ok.0) in
    let lin = linearized_of _ c.args.rules.now.linears.items c.in-Some.k c.index-linear.result.now below c.index-linear.ensures c.requires.rules.linearized in
    let target = c.args.rules.now.target in
    let ms = c.args.ms.now in
    c.in-Ok.ensures.numbered target
    (instance-fit target (form c.index-linear.result.now) (map tree ms) lin.multilinear (length-map ms tree ∙ c.if-ms-linear.false) (all_below (length target) ms c.requires.known)
    (sym c.if-not-are_within.ensures))
