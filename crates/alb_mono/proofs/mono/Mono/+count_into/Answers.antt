use Rattle.std.proofs.Common.{◌∙◌, sym, refl, length}
use Rattle.std.proofs.lemmas.Bool.{ltb-true}
use Rattle.alb_mono.specs.Tree.{tree}
use Rattle.alb_mono.proofs.Leaves.{plus-leaf, plus-node}
use Rattle.alb_mono.proofs.mono.Mono.+count_into.Goals as goal

pub returns-in-Gen-clause-value : goal.returns-in-Gen-clause-value
returns-in-Gen-clause-value t c =
    rw c.in-Gen.is (c.count_more.ensures ∙ sym (plus-leaf c.args.counts.now (length c.args.counts.now) c.in-Gen.g (ltb-true c.in-Gen.g (length c.args.counts.now) (rw c.in-Gen.is at c.requires.known)) refl))

pub returns-in-Prod-clause-value : goal.returns-in-Prod-clause-value
returns-in-Prod-clause-value t c =
    let e = plus-node c.args.counts.now (length c.args.counts.now) (tree c.in-Prod.left.value) (tree c.in-Prod.right.value) refl in
    rw c.in-Prod.is (rw (c.count_into.ensures.len, c.count_into.ensures.value, c.deref.ensures, c.deref-in-Prod.ensures) at c.count_into-in-Prod.ensures.value ∙ e)
