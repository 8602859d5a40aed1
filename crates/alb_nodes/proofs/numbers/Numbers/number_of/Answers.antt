use Rattle.std.proofs.Common.{◌≡◌, true, [], length, sym, subst, List}
use Rattle.alb_mono.specs.Tree.{Tree}
use Rattle.alb_nodes.specs.Nodes.{IsNumber, Extends, made, made_all, is_after}
use Rattle.alb_nodes.proofs.NodeLemmas.{same_node, same_node-tells, put-extends, put-after, put-number}
use Rattle.alb_nodes.proofs.numbers.Numbers.number_of.Goals as goal

pub invariant_of-self-2 : goal.invariant_of-self-2
invariant_of-self-2 c =
    put-after same_node c.self.inside.nodes.keys c.insert_full.new.self.keys c.args.entry c.in_ok-place.ensures.keys c.self.invariant
    (subst (λ (ts : List Tree). is_after (length ts) c.args.entry ≡ true) (sym c.self.view_is) c.requires)

pub returns-clause-number : goal.returns-clause-number
returns-clause-number c =
    let s = c.in_ok-place.ensures.stored in
    subst (λ (ts : List Tree). IsNumber (made_all [] c.insert_full.new.self.keys) c.in_ok-place.place (made ts c.args.entry)) c.self.view_is
    (put-number same_node same_node-tells
    c.self.inside.nodes.keys c.insert_full.new.self.keys c.args.entry s.0 c.in_ok-place.place c.in_ok-place.ensures.keys c.self.invariant
    (subst (λ (ts : List Tree). is_after (length ts) c.args.entry ≡ true) (sym c.self.view_is) c.requires)
    c.in_ok-place.ensures.within s.1 s.2)

pub returns-clause-kept : goal.returns-clause-kept
returns-clause-kept c =
    subst (λ (ts : List Tree). Extends ts (made_all [] c.insert_full.new.self.keys)) c.self.view_is
    (put-extends same_node c.self.inside.nodes.keys c.insert_full.new.self.keys c.args.entry c.in_ok-place.ensures.keys)
