use Rattle.std.proofs.Common.{◌<◌, ℕ, length}
use Rattle.std.specs.Prelude.{IsTrue}
use Rattle.alb_mono.specs.Tree.{Tree, are_below}
use Rattle.alb_print.proofs.Writes.{All-terms}
use Rattle.alb_print.proofs.poly.write_poly.Goals as goal

pub write_terms-requires-clause-residues : goal.write_terms-requires-clause-residues
write_terms-requires-clause-residues g c = All-terms (λ (t : ℕ × Tree). t.0 < c.args.field.now) c.terms.result.now c.args.g.now c.terms.ensures.value c.requires.residues

pub write_terms-requires-clause-known : goal.write_terms-requires-clause-known
write_terms-requires-clause-known g c = All-terms (λ (t : ℕ × Tree). IsTrue (are_below (length c.args.letters.now) t.1)) c.terms.result.now c.args.g.now c.terms.ensures.value c.requires.known
