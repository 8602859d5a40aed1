use Rattle.std.proofs.Common.{◌≡◌, ◌<◌, ◌∙◌, true, length, ap, sym, subst, arith, [], List, Some, slice_get}
use Rattle.std.specs.Option.{option_copied}
use Rattle.std.proofs.lemmas.Option.{get_or_from_slice_get}
use Rattle.alb_mono.specs.Tree.{Tree}
use Rattle.alb_nodes.specs.declared.node.Node.{Node}
use Rattle.alb_nodes.specs.Nodes.{at, made, made_all, is_after}
use Rattle.alb_nodes.proofs.NodeLemmas.{length-all, node-at, after-zero}
use Rattle.alb_nodes.proofs.numbers.Numbers.node.Goals as goal

pub unwrap-requires : goal.unwrap-requires
unwrap-requires c = c.get_index.ensures.found.1 (omega (arith, c.requires, length-all [] c.self.inside.nodes.keys, ap length c.self.view_is))

pub returns-clause-made : goal.returns-clause-made
returns-clause-made c =
    let ns = c.self.inside.nodes.keys in
    let n = c.unwrap.result.now in
    let low : c.args.k < length ns = omega (arith, c.requires, length-all [] ns, ap length c.self.view_is) in
    let got : slice_get ns c.args.k ≡ Some n = sym c.get_index.ensures.key ∙ ap option_copied c.unwrap.ensures in
    subst (λ (ts : List Tree). at ts c.args.k ≡ made ts n) c.self.view_is
    (node-at ns c.args.k n c.self.invariant low ∙ ap (made (made_all [] ns)) (get_or_from_slice_get ns c.args.k n n got))

pub returns-clause-after : goal.returns-clause-after
returns-clause-after c =
    let ns = c.self.inside.nodes.keys in
    let n = c.unwrap.result.now in
    let low : c.args.k < length ns = omega (arith, c.requires, length-all [] ns, ap length c.self.view_is) in
    let got : slice_get ns c.args.k ≡ Some n = sym c.get_index.ensures.key ∙ ap option_copied c.unwrap.ensures in
    subst (λ (x : Node). is_after c.args.k x ≡ true) (get_or_from_slice_get ns c.args.k n n got) (after-zero ns c.args.k n c.self.invariant low)
