-- How the evidence for a claim is judged, and how verdicts print.
use Rattle.std.specs.Prelude.{◌≡◌, ℕ, Bool, true, false, List, [], ◌∷◌, ◌++◌, Option, None, Some, Result, Ok, Err, decimal, codes}
use Rattle.std.specs.List.{flat_map}
use Rattle.alb_poly.specs.Poly.{Poly}
use Rattle.alb_poly.specs.Instance.{Form}
use Rattle.alb_poly.specs.Textbook.{IsTextConsequence}
use Rattle.alb_print.specs.Text.{named}
use Rattle.alb_deriv.specs.Derivation as derivation
use Rattle.alb_deriv.specs.Derivation.{claim_fault}
use Rattle.alb_check.specs.Verdict as tables
use Rattle.alb_evidence.specs.Block as block
use Rattle.alb_evidence.specs.Block.{Evidence, BlockFault}

-- Why evidence is rejected: a line of its block; a line of the derivation, or the polynomial of the last one; the rule of shape
-- that the table breaks, the identity that fails in it at some elements, or that the claim has the value zero there.
pub data Rejection : Type 0 where
  OfBlock : BlockFault → Rejection
  OfDerivation : derivation.DerivationFault → ℕ → Rejection
  BadShape : ℕ → Rejection
  Fails : ℕ → List ℕ → Rejection
  ValueZero : Rejection

-- the claim is zero, or it is not, or the evidence is rejected
pub data Verdict : Type 0 where
  AcceptedZero : Verdict
  AcceptedNotZero : Verdict
  Rejected : Rejection → Verdict

abbrev pub is_accepted : Verdict → Bool
is_accepted (Rejected r) = false
is_accepted other = true

-- ---- verdicts

abbrev pub of_derivation : Option (derivation.DerivationFault × ℕ) → Verdict
of_derivation None = AcceptedZero
of_derivation (Some fault) = Rejected (OfDerivation fault.0 fault.1)

abbrev pub of_table : tables.TableVerdict → Verdict
of_table tables.Refuted = AcceptedNotZero
of_table (tables.BadShape rule) = Rejected (BadShape rule)
of_table (tables.Fails i ks) = Rejected (Fails i ks)
of_table tables.ValueZero = Rejected ValueZero

-- THE VERDICT on the evidence for a claim `g`, over `p` elements, within the target, and with the linearized identities `fs`
abbrev pub IsVerdict : ℕ → List ℕ → List Form → Poly → Result Evidence BlockFault → Verdict → Type 0
IsVerdict p target fs g (Err fault) v = v ≡ Rejected (OfBlock fault)
IsVerdict p target fs g (Ok (block.Zero lines)) v = v ≡ of_derivation (claim_fault p target fs g lines)
IsVerdict p target fs g (Ok (block.NotZero t)) v = (w : tables.TableVerdict) × tables.IsTableVerdict p target fs t g w × (v ≡ of_table w)

-- WHAT A VERDICT SAYS: `accepted zero` stands only where the claim is a consequence of the identities in the textbook's sense: it
-- equals a sum of multiples of values of the identities, at any polynomials, in contexts; `accepted not zero` only where it is none
abbrev pub IsJustified : ℕ → List Poly → Poly → Verdict → Type 0
IsJustified p identities g AcceptedZero = IsTextConsequence p identities g
IsJustified p identities g AcceptedNotZero = IsTextConsequence p identities g → ⊥
IsJustified p identities g (Rejected r) = Unit {0}

-- ---- texts

-- a line that ends with a number
abbrev pub numbered_line : List ℕ → ℕ → List ℕ
numbered_line front k = named front k ++ codes "\n"

-- the elements, and then the end of the line
abbrev pub places_text : List ℕ → List ℕ
places_text ks = codes " at" ++ (flat_map (λ k. 32 ∷ decimal k) ks ++ codes "\n")

-- the identity that fails, and the elements at which it does
abbrev pub failure_text : ℕ → List ℕ → List ℕ
failure_text i ks = codes "rejected 61 identity " ++ (decimal i ++ places_text ks)

abbrev pub rejection_text : Rejection → List ℕ
rejection_text (OfBlock (block.BadLine k)) = numbered_line (codes "rejected 70 line ") k
rejection_text (OfBlock (block.BadNumber k)) = numbered_line (codes "rejected 71 line ") k
rejection_text (OfDerivation derivation.BadIdentity k) = numbered_line (codes "rejected 50 line ") k
rejection_text (OfDerivation derivation.WrongCount k) = numbered_line (codes "rejected 51 line ") k
rejection_text (OfDerivation derivation.LaterLine k) = numbered_line (codes "rejected 52 line ") k
rejection_text (OfDerivation derivation.OutOfType k) = numbered_line (codes "rejected 53 line ") k
rejection_text (OfDerivation derivation.NotTheClaim k) = codes "rejected 54\n"
rejection_text (BadShape rule) = numbered_line (codes "rejected 60 rule ") rule
rejection_text (Fails i ks) = failure_text i ks
rejection_text ValueZero = codes "rejected 62\n"

-- the line of a verdict
abbrev pub verdict_text : Verdict → List ℕ
verdict_text AcceptedZero = codes "accepted zero\n"
verdict_text AcceptedNotZero = codes "accepted not zero\n"
verdict_text (Rejected r) = rejection_text r
