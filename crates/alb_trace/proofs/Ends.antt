-- The lines of an answer, out of those of a trace.
use Rattle.std.proofs.Common.{◌≡◌, ℕ, suc, ◌<◌, ◌≤◌, ◌^◌, List, [], ◌∷◌, length, map, sym, subst, arith}
use Rattle.std.specs.Prelude.{All}
use Rattle.std.proofs.lemmas.List.{length-map}
use Rattle.gf_sums.proofs.Alike.{Alike}
use Rattle.alb_mono.specs.Listing.{Each}
use Rattle.alb_poly.specs.Poly.{Poly}
use Rattle.alb_poly.specs.Instance.{Form}
use Rattle.alb_poly.specs.Consequence.{forms}
use Rattle.alb_poly.specs.declared.rules.Rules.{Rules}
use Rattle.alb_poly.proofs.Consequence.{alike_poly, poly_alike}
use Rattle.alb_linear.proofs.LinearLemmas.{each_from_all}
use Rattle.alb_deriv.specs.Derivation as value
use Rattle.alb_deriv.specs.Short.{AreFine, IsLineOf}
use Rattle.alb_deriv.specs.Views.{line, IsLine}
use Rattle.alb_deriv.specs.declared.line.Line.{Line}
use Rattle.alb_deriv.specs.declared.line.Line.TheVariants.{Instance, Times, Sum}
use Rattle.alb_deriv.proofs.Limited.{HasResidues, fine-limited}
use Rattle.alb_table.specs.RightTable.{rules_view, AreRules}
use Rattle.alb_table.specs.Table.{Table}
use Rattle.alb_tidy.specs.Tidy.{IsTidy}
use Rattle.alb_tidy.proofs.Citing.{sound-ordered}
use Rattle.alb_trace.specs.Answer.{AreLinesFor, Stands}
use Rattle.alb_trace.specs.Trace.{most_items, lines_of, Derives}
use Rattle.alb_trace.specs.declared.trace.Citation.{Citation}
use Rattle.alb_trace.specs.declared.trace.Citation.TheVariants as citations
use Rattle.alb_trace.specs.declared.trace.Trace.{Trace}

-- rules stand for forms that can be numbered
pub forms-few : (rules : Rules) → AreRules (rules_view rules) → length (forms rules) < 10 ^ 18
forms-few rules r = omega (arith, r.few)

-- lines that can be printed have residues, and factors of degree at most 64
line-residues : (p n : ℕ) (l : Line) → IsLine p n l → HasResidues p (line l)
line-residues p n (Instance i ms) h = tt
line-residues p n (Times k s m) h = h.1
line-residues p n (Sum cs) h = each_from_all (λ c. c.0 < p) cs.items h

module _ (fs : List Form) (t : Table) where
  all-residues : (ls : List Line) → All (λ l. IsLine t.p (length t.target) l) ls → Each (HasResidues t.p) (map line ls)
  all-residues [] h = tt
  all-residues (l ∷ ls) h = (line-residues t.p (length t.target) l (h 0 l (omega arith)), all-residues ls (λ k d m. h (suc k) d (omega arith)))

  -- no lines for zero
  pub ends-none : (old s : Trace) (f : Poly) → Derives fs t old s citations.Zero f → AreLinesFor fs t f []
  ends-none old s f d =
      let a : Alike t.p [] f = alike_poly d.adds.sum.same in
      record {
        derivation = record { derives = record { sound = tt; last = poly_alike a }; few = omega arith; limited = tt };
        tidy = record { different = λ j k h l. absurd (omega arith); cited = λ k l. absurd (omega arith) };
        printable = λ k l m. absurd (omega arith);
      }

  -- what is cited stands among the lines
  pub derived-stands : (old s : Trace) (o : Citation) (f : Poly) → Derives fs t old s o f → Stands s o
  derived-stands old s citations.Zero f d = tt
  derived-stands old s (citations.Line k) f d =
      let place = d.adds.sum.places.0 in
      (sound-ordered t.p t.target fs (lines_of s) d.adds.fine.sound, record { above = place.above; among = place.among })

  -- the tidy lines for what is cited
  pub ends-tidy : length fs < 10 ^ 18 → (old s : Trace) (k : ℕ) (f : Poly) (ls : List Line) → length ls < 10 ^ 18 → Derives fs t old s (citations.Line k) f →
      IsTidy (map line ls) → AreFine t.p most_items t.target fs (map line ls) × IsLineOf t.p fs (map line ls) (length ls) f → All (λ l. IsLine t.p (length t.target) l) ls → AreLinesFor fs t f ls
  ends-tidy forms old s k f ls few d tidy is printable =
      let n : length (map line ls) ≡ length ls = length-map ls line in
      record {
        derivation = fine-limited t.p t.target fs d.trace.table.goal.small forms f (map line ls) (omega (arith, n)) is.0 (all-residues ls printable)
            (subst (λ m. IsLineOf t.p fs (map line ls) m f) (sym n) is.1);
        tidy = tidy;
        printable = printable;
      }
