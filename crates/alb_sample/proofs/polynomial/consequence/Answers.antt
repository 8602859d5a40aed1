use Rattle.std.proofs.Common.{◌≡◌, ◌∙◌, length, map, sym, ap, arith}
use Rattle.std.proofs.lemmas.Result.{IfOk-weaker}
use Rattle.alb_mono.specs.Tree.{tree}
use Rattle.alb_poly.specs.Poly.{normal}
use Rattle.alb_sample.specs.Choice.{chosen}
use Rattle.alb_sample.proofs.ChoiceLemmas.{instance_at}
use Rattle.alb_sample.proofs.PolyLemmas.{two-linears, form-linearized, form-degree, instance-normal, three-monos, low-monos, low-normal, consequence-normal}
use Rattle.alb_sample.proofs.polynomial.consequence.Goals as goal

pub index-linear-requires : goal.index-linear-requires
index-linear-requires c =
    let i = c.requires.choice.identity in
    let n = two-linears c.args.rules.now c.requires.rules in omega (arith, i, n, c.args.rules.now.linears.ok.0)

pub instance-requires-clause-linearized : goal.instance-requires-clause-linearized
instance-requires-clause-linearized c = form-linearized c.args.rules.now c.requires.rules c.args.choice.now c.requires.choice c.index-linear.result.now c.index-linear.ensures

pub instance-requires-clause-full : goal.instance-requires-clause-full
instance-requires-clause-full c =
    ap length c.deref.ensures.value ∙ three-monos c.in_ok-monos.monos.items c.args.choice.now c.in_ok-monos.ensures
    ∙ sym (form-degree c.args.rules.now c.requires.rules c.args.choice.now c.requires.choice c.index-linear.result.now c.index-linear.ensures)

pub instance-requires-clause-small : goal.instance-requires-clause-small
instance-requires-clause-small c = low-monos c.deref.result.now c.args.choice.now c.requires.choice (ap (map tree) c.deref.ensures.value ∙ c.in_ok-monos.ensures)

pub mul_mono-requires-clause-small : goal.mul_mono-requires-clause-small
mul_mono-requires-clause-small c =
    let monos : map tree c.deref.result.now ≡ chosen c.args.choice.now = ap (map tree) c.deref.ensures.value ∙ c.in_ok-monos.ensures in
    low-normal c.args.choice.now c.in_ok-value.value c.requires.choice
    (c.in_ok-value.ensures.value ∙ instance-normal c.args.rules.now c.requires.rules c.args.choice.now c.requires.choice c.index-linear.result.now c.index-linear.ensures _ monos)

pub returns : goal.returns
returns c =
    let monos : map tree c.deref.result.now ≡ chosen c.args.choice.now = ap (map tree) c.deref.ensures.value ∙ c.in_ok-monos.ensures in
    let value : c.in_ok-value.value ≡ normal 251 (instance_at c.args.choice.now) =
    c.in_ok-value.ensures.value ∙ instance-normal c.args.rules.now c.requires.rules c.args.choice.now c.requires.choice c.index-linear.result.now c.index-linear.ensures _ monos in
    record { value = IfOk-weaker c.mul_mono.result _ _ (λ g h. h ∙ consequence-normal c.args.choice.now c.in_ok-value.value value) c.mul_mono.ensures }
