use Rattle.std.proofs.Common.{◌∙◌, sym}
use Rattle.alb_mono.specs.Tree.{tree}
use Rattle.alb_mono.proofs.Order.{types-by_degree}
use Rattle.alb_mono.proofs.Leaves.{length-type_of}
use Rattle.alb_mono.proofs.mono.Mono.cmp_their_types.Goals as goal

pub cmp_type-requires : goal.cmp_type-requires
cmp_type-requires c = rw (c.type_of.ensures, c.type_of-in-Equal.ensures) (length-type_of 26 _ ∙ sym (length-type_of 26 _))

pub returns-in_default : goal.returns-in_default
returns-in_default c =
    let e = rw (c.degree.ensures, c.degree-2.ensures) at c.cmp.ensures in
    e ∙ sym (types-by_degree (tree c.args.self.now) (tree c.args.other.now) c.requires.letters c.requires.other_letters (λ q. c.in_default.not-Equal (e ∙ q)))
