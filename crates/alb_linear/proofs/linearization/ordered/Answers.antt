use Rattle.std.proofs.Common.{◌≡◌, ◌∙◌, ◌<◌, Ok, Err, Result}
use Rattle.std.specs.Prelude.{IfOk}
use Rattle.std.proofs.lemmas.List.Sorted.{All-permutation}
use Rattle.alb_mono.specs.declared.error.NoMemory.{NoMemory}
use Rattle.alb_poly.specs.Poly.{Poly}
use Rattle.alb_poly.specs.declared.term.Term.{Term}
use Rattle.alb_poly.proofs.Collecting.{normal-permutation}
use Rattle.alb_linear.proofs.linearization.ordered.Goals as goal

pub from_terms-requires : goal.from_terms-requires
from_terms-requires c = All-permutation (λ (t : Term). t.coef < c.args.field.now) c.args.list.items c.bring_near.new.list.items c.bring_near.ensures c.requires

value_of : (r : Result Poly NoMemory) (a b : Poly) → IfOk r (λ f. f ≡ a) → a ≡ b → IfOk r (λ f. f ≡ b)
value_of (Ok f) a b h e = h ∙ e
value_of (Err e) a b h k = tt

pub returns : goal.returns
returns c = record {
  value = value_of c.from_terms.result _ _ c.from_terms.ensures.value (normal-permutation c.args.field.now c.args.list.items c.bring_near.new.list.items c.requires c.bring_near.ensures);
  residues = c.from_terms.ensures.residues;
}
