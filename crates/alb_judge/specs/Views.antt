-- What contracts see of verdicts, and what the judge does.
use Rattle.std.specs.Prelude.{◌≡◌, List, Result, Ok, Err}
use Rattle.alb_poly.specs.Poly.{Poly}
use Rattle.alb_poly.specs.Consequence.{forms}
use Rattle.alb_problem.specs.declared.problem.Problem.{Problem}
use Rattle.alb_deriv.specs.Derivation as derivation
use Rattle.alb_deriv.specs.Derivation.{Line}
use Rattle.alb_check.specs.Raw.{Raw}
use Rattle.alb_evidence.specs.Block as block
use Rattle.alb_evidence.specs.Views.{evidence}
use Rattle.alb_evidence.specs.declared.evidence.Evidence.{Evidence}
use Rattle.alb_evidence.specs.declared.error.EvidenceError.{EvidenceError}
use Rattle.alb_evidence.specs.declared.error.EvidenceError.TheVariants as given
use Rattle.alb_judge.specs.Verdict as verdicts
use Rattle.alb_judge.specs.declared.judging.Judged.{Judged}
use Rattle.alb_judge.specs.declared.judging.Judged.TheVariants as judged
use Rattle.alb_judge.specs.declared.verdict.Rejection.{Rejection}
use Rattle.alb_judge.specs.declared.verdict.Rejection.TheVariants as rejected
use Rattle.alb_judge.specs.declared.verdict.Verdict.{Verdict}
use Rattle.alb_judge.specs.declared.verdict.Verdict.TheVariants as verdict

-- what contracts see of a rejection, and of a verdict
abbrev pub rejection_of : Rejection → verdicts.Rejection
rejection_of (rejected.BadLine k) = verdicts.OfBlock (block.BadLine k)
rejection_of (rejected.BadNumber k) = verdicts.OfBlock (block.BadNumber k)
rejection_of (rejected.BadIdentity k) = verdicts.OfDerivation derivation.BadIdentity k
rejection_of (rejected.WrongCount k) = verdicts.OfDerivation derivation.WrongCount k
rejection_of (rejected.LaterLine k) = verdicts.OfDerivation derivation.LaterLine k
rejection_of (rejected.OutOfType k) = verdicts.OfDerivation derivation.OutOfType k
rejection_of rejected.NotTheClaim = verdicts.OfDerivation derivation.NotTheClaim 0
rejection_of (rejected.BadShape rule) = verdicts.BadShape rule
rejection_of (rejected.Fails i ks) = verdicts.Fails i ks.items
rejection_of rejected.ValueZero = verdicts.ValueZero

abbrev pub judgement : Verdict → verdicts.Verdict
judgement verdict.Zero = verdicts.AcceptedZero
judgement verdict.NotZero = verdicts.AcceptedNotZero
judgement (verdict.Rejected r) = verdicts.Rejected (rejection_of r)

-- the verdict on what was read, for a claim `g` about a problem
abbrev pub IsVerdictOn : Problem → Poly → Result block.Evidence block.BlockFault → Verdict → Type 0
IsVerdictOn q g read v = verdicts.IsVerdict q.rules.field q.rules.target (forms q.rules) g read (judgement v)

-- the verdict on a table, unless memory ran out
abbrev pub JudgesTable : Judged → Problem → Poly → Raw → Type 0
JudgesTable (judged.Verdict v) q g t = IsVerdictOn q g (Ok (block.NotZero t)) v
JudgesTable judged.NoMemory q g t = Unit {0}
JudgesTable other q g t = ⊥

-- the verdict on the lines of a derivation, unless memory ran out
abbrev pub JudgesLines : Judged → Problem → Poly → List Line → Type 0
JudgesLines (judged.Verdict v) q g lines = IsVerdictOn q g (Ok (block.Zero lines)) v
JudgesLines judged.NoMemory q g lines = Unit {0}
JudgesLines other q g lines = ⊥

-- the verdict on what was read of a block, unless it was not read whole or memory ran out
abbrev pub JudgeAnswers : Judged → Problem → Poly → Result Evidence EvidenceError → Type 0
JudgeAnswers (judged.Verdict v) q g (Ok e) = IsVerdictOn q g (Ok (evidence e)) v
JudgeAnswers (judged.Verdict v) q g (Err (given.BadLine k)) = IsVerdictOn q g (Err (block.BadLine k)) v
JudgeAnswers (judged.Verdict v) q g (Err (given.BadNumber k)) = IsVerdictOn q g (Err (block.BadNumber k)) v
JudgeAnswers (judged.Verdict v) q g (Err other) = ⊥
JudgeAnswers judged.ReadFault q g read = read ≡ Err given.ReadFault
JudgeAnswers judged.InputLimit q g read = read ≡ Err given.InputLimit
JudgeAnswers judged.NoMemory q g (Ok e) = Unit {0}
JudgeAnswers judged.NoMemory q g (Err e) = e ≡ given.NoMemory
