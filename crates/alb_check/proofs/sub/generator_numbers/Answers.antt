use Rattle.std.proofs.Common.{◌≡◌, ◌∙◌, ◌<◌, ℕ, List, true, false, refl, ap, sym, length, get_or, arith}
use Rattle.std.specs.Prelude.{Some, None}
use Rattle.std.proofs.lemmas.List.{length-map}
use Rattle.alb_mono.specs.Tree.{type_le, rising}
use Rattle.alb_table.specs.Table.{elems}
use Rattle.alb_table.proofs.GeneratorLemmas.{gens_within}
use Rattle.alb_check.specs.SubTable.{is_kept, number_of, generator_number}
use Rattle.alb_check.proofs.SubCode.{map-push, map-get}
use Rattle.alb_check.proofs.SubShape.{length-rising}
use Rattle.alb_check.proofs.sub.generator_numbers.Goals.{then-le+in_ok-push, else-le+in_ok-push-2}
use Rattle.alb_check.proofs.sub.generator_numbers.Goals as goal

pub type_at-requires : goal.type_at-requires
type_at-requires c =
    let w = gens_within c.args.tables.now c.target.ensures.table in
    omega (arith, ap length c.counts-g-end.ensures.value, ap length c.target.ensures.value)

pub bounds-numbers-g : goal.bounds-numbers-g
bounds-numbers-g c =
    let t = c.args.tables.now in
    let w = gens_within t c.target.ensures.table in
    omega (
      arith,
      ap length c.counts-g-end.ensures.value,
      ap length c.target.ensures.value,
      ap length c.requires.numbers,
      length-map (rising 0 (length (elems t.parts))) (number_of t c.args.top.now),
      length-rising 0 (length (elems t.parts)),
    )

pub loop-g-preserved : goal.loop-g-preserved
loop-g-preserved c =
    let t = c.args.tables.now in
    let top = c.args.top.now in
    let g = c.loop-g.g in
    let w = gens_within t c.target.ensures.table in
    let l : g < length (elems t.parts) = omega (arith, ap length c.counts-g-end.ensures.value, ap length c.target.ensures.value) in
    let is : type_le c.type_at.result.now top ≡ is_kept t top g = ap (λ (w : List ℕ). type_le w top) c.type_at.ensures.value in
    let test : is_kept t top g ≡ c.le.result = sym (c.le.ensures ∙ is) in
    let n : get_or c.args.numbers.now g 0 ≡ number_of t top g = ap (λ (ns : List ℕ). get_or ns g 0) c.requires.numbers ∙ map-get (number_of t top) (length (elems t.parts)) g 0 l in
    elim c.if-le.branch [
      | then-le+in_ok-push w ↦
          let k : is_kept t top g ≡ true = test ∙ w.if-le.true in
          map-push (generator_number t top) c.loop-g.out.items c.if-le.out.items g (Some (get_or c.args.numbers.now g 0)) c.loop-g.invariant
          (ap (λ v. v.items) w.out-is ∙ w.in_ok-push.ensures.items) (rw k (ap Some n))
      | else-le+in_ok-push-2 w ↦
          let k : is_kept t top g ≡ false = test ∙ w.if-le.false in
          map-push (generator_number t top) c.loop-g.out.items c.if-le.out.items g None c.loop-g.invariant
          (ap (λ v. v.items) w.out-is ∙ w.in_ok-push-2.ensures.items) (rw k refl)
    ]
