use Rattle.std.proofs.Common.{◌≡◌, ◌≤◌, ◌<◌, ◌∙◌, ◌+◌, ℕ, List, length, map, sym, ap, subst, arith}
use Rattle.std.specs.Prelude.{All, IsTrue, sum_by}
use Rattle.alb_mono.specs.Tree.{tree, degree, are_below}
use Rattle.alb_mono.specs.declared.mono.Mono.{Mono}
use Rattle.alb_linear.specs.Identity.{IsLinearized}
use Rattle.alb_poly.specs.Instance.{instance}
use Rattle.alb_poly.specs.Poly.{normal}
use Rattle.alb_poly.specs.Consequence.{form, forms}
use Rattle.alb_table.specs.Table.{mono_at}
use Rattle.gf_sums.specs.Sums.{scale}
use Rattle.alb_deriv.specs.Derivation as value
use Rattle.alb_deriv.specs.Derivation.{Line}
use Rattle.alb_deriv.proofs.Appended.{Appends}
use Rattle.alb_trace.specs.Origins.{origin_instance}
use Rattle.alb_trace.specs.Trace.{most_items, lines_of, PushesItems}
use Rattle.alb_trace.specs.declared.trace.Citation.TheVariants as citations
use Rattle.alb_trace.proofs.OriginLemmas.{count, identity-below, args-below, linearized, monos-known, monos-small, monos-long, degrees-small, known-26, next-instance, value-is}
use Rattle.alb_trace.proofs.PushLemmas.{pushes-item}
use Rattle.alb_trace.proofs.trace.Trace.add_origin_instance.Goals as goal

pub index-f-requires : goal.index-f-requires
index-f-requires c =
    let here : c.args.k < length c.origins.result.now = (let n = count c.args.ground.now.rules.now c.args.ground.now.tables.now c.requires.ground.right c.args.t.now c.requires.product c.origins.result.now c.origins.ensures in omega (arith, n, c.requires.kept)) in
    let l = identity-below c.args.ground.now.rules.now c.args.ground.now.tables.now c.requires.ground.right c.args.t.now c.requires.product c.origins.result.now c.origins.ensures c.args.k c.index-origins-k.result here c.index-origins-k.is in omega arith

pub basis_monos-requires : goal.basis_monos-requires
basis_monos-requires c =
    let here : c.args.k < length c.origins.result.now = (let n = count c.args.ground.now.rules.now c.args.ground.now.tables.now c.requires.ground.right c.args.t.now c.requires.product c.origins.result.now c.origins.ensures in omega (arith, n, c.requires.kept)) in
    rw c.as_slice.ensures.value (args-below c.args.ground.now.rules.now c.args.ground.now.tables.now c.requires.ground.right c.args.t.now c.requires.product c.origins.result.now c.origins.ensures c.args.k c.index-origins-k.result here c.index-origins-k.is)

pub instance-requires : goal.instance-requires
instance-requires c =
    let here : c.args.k < length c.origins.result.now = (let n = count c.args.ground.now.rules.now c.args.ground.now.tables.now c.requires.ground.right c.args.t.now c.requires.product c.origins.result.now c.origins.ensures in omega (arith, n, c.requires.kept)) in
    let are : map tree c.in_ok-monos.monos.items ≡ map (mono_at c.args.ground.now.tables.now.parts) c.index-origins-k.result.args.items =
    c.in_ok-monos.ensures ∙ ap (map (mono_at c.args.ground.now.tables.now.parts)) c.as_slice.ensures.value in
    let q : c.deref.result.now ≡ c.in_ok-monos.monos.items = c.deref.ensures.value in
    record {
      linearized = subst (λ (p : ℕ). IsLinearized p (form c.index-f.result.now)) (sym c.field.ensures) (linearized c.args.ground.now.rules.now c.args.ground.now.tables.now c.requires.ground.right c.args.t.now c.requires.product c.origins.result.now c.origins.ensures c.args.k c.index-origins-k.result here c.index-origins-k.is c.index-f.result.now c.index-f.ensures c.requires.ground.rules);
      full = ap length q ∙ monos-long c.args.ground.now.rules.now c.args.ground.now.tables.now c.requires.ground.right c.args.t.now c.requires.product c.origins.result.now c.origins.ensures c.args.k c.index-origins-k.result here c.index-origins-k.is c.index-f.result.now c.index-f.ensures c.in_ok-monos.monos.items are;
      small = subst (λ (ms : List Mono). sum_by (λ m. degree (tree m)) ms ≤ 64) (sym q) (degrees-small c.args.ground.now.rules.now c.args.ground.now.tables.now c.requires.ground.right c.args.t.now c.requires.product c.origins.result.now c.origins.ensures c.args.k c.index-origins-k.result here c.index-origins-k.is c.index-f.result.now c.index-f.ensures c.in_ok-monos.monos.items are);
      known = subst (λ (ms : List Mono). All (λ m. IsTrue (are_below 26 (tree m))) ms) (sym q) (known-26 c.args.ground.now.rules.now c.args.ground.now.tables.now c.requires.ground.right c.args.t.now c.requires.product c.origins.result.now c.origins.ensures c.args.k c.index-origins-k.result here c.index-origins-k.is c.index-f.result.now c.index-f.ensures c.in_ok-monos.monos.items are);
    }

pub returns-clause-pushes : goal.returns-clause-pushes
returns-clause-pushes c =
    let here : c.args.k < length c.origins.result.now = (let n = count c.args.ground.now.rules.now c.args.ground.now.tables.now c.requires.ground.right c.args.t.now c.requires.product c.origins.result.now c.origins.ensures in omega (arith, n, c.requires.kept)) in
    let are : map tree c.in_ok-monos.monos.items ≡ map (mono_at c.args.ground.now.tables.now.parts) c.index-origins-k.result.args.items =
    c.in_ok-monos.ensures ∙ ap (map (mono_at c.args.ground.now.tables.now.parts)) c.as_slice.ensures.value in
    let fs = forms c.args.ground.now.rules.now in
    let t = c.args.ground.now.tables.now in
    let x = next-instance c.args.ground.now.rules.now c.args.ground.now.tables.now c.requires.ground.right c.args.t.now c.requires.product c.origins.result.now c.origins.ensures c.args.k c.index-origins-k.result here c.index-origins-k.is c.index-f.result.now c.index-f.ensures c.in_ok-monos.monos.items are c.args.self.now c.requires.trace in
    let e : c.index-origins-k.result.identity + 1 ≡ c.from.result + 1 = omega arith in
    let y : Appends t.p most_items t.target fs (lines_of c.args.self.now) (value.Instance (c.from.result + 1) (map tree c.in_ok-monos.monos.items)) (origin_instance fs t c.args.t.now c.args.k) =
    subst (λ (n : ℕ). Appends t.p most_items t.target fs (lines_of c.args.self.now) (value.Instance n (map tree c.in_ok-monos.monos.items)) (origin_instance fs t c.args.t.now c.args.k)) e x in
    let d = c.in_ok-line.ensures.derives fs t (origin_instance fs t c.args.t.now c.args.k) c.requires.trace
    (monos-known c.args.ground.now.rules.now c.args.ground.now.tables.now c.requires.ground.right c.args.t.now c.requires.product c.origins.result.now c.origins.ensures c.args.k c.index-origins-k.result here c.index-origins-k.is c.index-f.result.now c.index-f.ensures c.in_ok-monos.monos.items are, monos-small c.args.ground.now.rules.now c.args.ground.now.tables.now c.requires.ground.right c.args.t.now c.requires.product c.origins.result.now c.origins.ensures c.args.k c.index-origins-k.result here c.index-origins-k.is c.index-f.result.now c.index-f.ensures c.in_ok-monos.monos.items are) y.fine y.line in
    subst (λ (xs : List (ℕ × ℕ)). PushesItems fs t c.args.self.now c.add_line.new.self c.args.sum.now.items.items xs (scale c.args.c (origin_instance fs t c.args.t.now c.args.k))) (sym c.in_ok-add.ensures)
    (pushes-item fs t c.args.self.now c.add_line.new.self c.args.sum.now.items.items (citations.Line c.in_ok-line.line) c.args.c (origin_instance fs t c.args.t.now c.args.k) c.requires.residue d)

pub returns-clause-value : goal.returns-clause-value
returns-clause-value c =
    let here : c.args.k < length c.origins.result.now = (let n = count c.args.ground.now.rules.now c.args.ground.now.tables.now c.requires.ground.right c.args.t.now c.requires.product c.origins.result.now c.origins.ensures in omega (arith, n, c.requires.kept)) in
    let are : map tree c.in_ok-monos.monos.items ≡ map (mono_at c.args.ground.now.tables.now.parts) c.index-origins-k.result.args.items =
    c.in_ok-monos.ensures ∙ ap (map (mono_at c.args.ground.now.tables.now.parts)) c.as_slice.ensures.value in
    let e : c.in_ok-value.value ≡ normal c.args.ground.now.tables.now.p (instance (form c.index-f.result.now) (map tree c.in_ok-monos.monos.items)) =
    c.in_ok-value.ensures.value ∙ ap (λ (p : ℕ). normal p (instance (form c.index-f.result.now) (map tree c.deref.result.now))) c.field.ensures
    ∙ ap (λ (ms : List Mono). normal c.args.ground.now.tables.now.p (instance (form c.index-f.result.now) (map tree ms))) c.deref.ensures.value in
    e ∙ value-is c.args.ground.now.rules.now c.args.ground.now.tables.now c.requires.ground.right c.args.t.now c.requires.product c.origins.result.now c.origins.ensures c.args.k c.index-origins-k.result here c.index-origins-k.is c.index-f.result.now c.index-f.ensures c.in_ok-monos.monos.items are c.args.ground.now.tables.now.p
