use Rattle.std.proofs.Common.{◌∙◌, length, map, sym, subst}
use Rattle.std.proofs.lemmas.List.{length-map}
use Rattle.alb_mono.specs.Listing.{Each}
use Rattle.alb_mono.specs.Tree.{tree}
use Rattle.alb_poly.specs.Poly.{AreResidues}
use Rattle.alb_poly.specs.Instance.{fill, IsMultilinear}
use Rattle.alb_linear.proofs.LinearLemmas.{position-terms, small-terms, known-terms, all-trees, total-degrees, coefficients, residues-reindex}
use Rattle.alb_linear.proofs.instances.instance.Goals as goal

pub filled_terms-requires-clause-positions : goal.filled_terms-requires-clause-positions
filled_terms-requires-clause-positions c =
    position-terms (length c.args.ms.now) c.terms.result.now c.args.f.now.terms c.terms.ensures.value
    (subst (λ n. Each (λ t. IsMultilinear n t.1) c.args.f.now.terms) (sym c.requires.full) c.requires.linearized.multilinear)

pub filled_terms-requires-clause-small : goal.filled_terms-requires-clause-small
filled_terms-requires-clause-small c =
    small-terms (map tree c.args.ms.now) c.terms.result.now c.args.f.now.terms c.terms.ensures.value
    (subst (λ n. Each (λ t. IsMultilinear n t.1) c.args.f.now.terms) (sym (length-map c.args.ms.now tree ∙ c.requires.full)) c.requires.linearized.multilinear)
    (rw (total-degrees c.args.ms.now) c.requires.small)

pub filled_terms-requires-clause-known : goal.filled_terms-requires-clause-known
filled_terms-requires-clause-known c =
    known-terms (map tree c.args.ms.now) c.terms.result.now c.args.f.now.terms c.terms.ensures.value
    (subst (λ n. Each (λ t. IsMultilinear n t.1) c.args.f.now.terms) (sym (length-map c.args.ms.now tree ∙ c.requires.full)) c.requires.linearized.multilinear)
    (all-trees c.args.ms.now c.requires.known)

pub from_terms-requires : goal.from_terms-requires
from_terms-requires c =
    coefficients c.args.field.now c.in_ok-list.list.items _ c.in_ok-list.ensures
    (residues-reindex c.args.field.now (fill (map tree c.args.ms.now)) _ (subst (AreResidues c.args.field.now) (sym c.terms.ensures.value) c.requires.linearized.residues))
