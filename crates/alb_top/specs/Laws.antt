-- Laws that functions of `laws` state.
use Rattle.std.specs.Prelude.{◌≡◌, ◌⊎◌, ◌≤◌, ℕ, false, true, List, [], ◌∷◌, ◌++◌, length, Option, Some, Ok}
use Rattle.alb_io.specs.Reader.{lines_of}
use Rattle.alb_poly.specs.Poly.{Poly}
use Rattle.alb_script.specs.Asked as asking
use Rattle.alb_script.specs.Asked.{Asked, Claim}
use Rattle.alb_script.specs.declared.form.Form.TheVariants as form
use Rattle.alb_judge.specs.Verdict.{Verdict, verdict_text}
use Rattle.alb_question.specs.Laws.{verdict_of}
use Rattle.alb_question.specs.Question.{Prove, Finding, IsFinding, answer_text, Shot, Pair, rules_of}
use Rattle.alb_top.specs.Outcome.{Run, AnswersAll}
use Rattle.alb_top.specs.Script.{State, NoBlock, start, Step, Finish, asked_of}
use Rattle.alb_top.specs.declared.mode.Mode.TheVariants as mode

-- a script of a check, and one of a batch, before its first line
abbrev pub check : State
check = start mode.Check form.Check

abbrev pub batch : State
batch = start mode.Batch form.Batch

-- the transcript of a check is unique: its text, and the state after it
abbrev pub CheckIsUnique : Type 0
CheckIsUnique = (lines : List (List ℕ)) (shown other : List (Option Pair)) (t u : List ℕ) (last end : State) → AnswersAll Step Finish check lines shown t last → AnswersAll Step Finish check lines other u end
    → (t ≡ u) × (last ≡ end)

-- the texts are the same answer to `prove`, each with its own evidence after it
pub record HaveOwnEvidence (line t u : List ℕ) : Type 0 where
  pub state : State
  pub polynomial : Poly
  pub asks : asked_of state line ≡ Ok (asking.Prove polynomial)
  pub shot : Shot
  pub finding : Finding
  pub found : IsFinding (rules_of state.problem) shot.table (Prove polynomial) finding
  pub here : List ℕ
  pub there : List ℕ
  pub left : t ≡ answer_text state.problem.letters shot.table finding ++ here
  pub right : u ≡ answer_text state.problem.letters shot.table finding ++ there

-- two texts answer the lines alike: line by line with the same text, but for evidence that `prove` prints
abbrev pub AnswerAlike : List (List ℕ) → List ℕ → List ℕ → Type 0
AnswerAlike [] t u = t ≡ u
AnswerAlike (line ∷ lines) t u = (first : List ℕ) × (other : List ℕ) × (rest : List ℕ) × (others : List ℕ) × (t ≡ first ++ rest) × (u ≡ other ++ others)
    × ((first ≡ other) ⊎ HaveOwnEvidence line first other) × AnswerAlike lines rest others

-- the transcript of a batch is unique but for the evidence that `prove` prints; so are the degrees and ends that it shows, and the
-- state after it but for its table
abbrev pub BatchIsUnique : Type 0
BatchIsUnique = (lines : List (List ℕ)) (shown other : List (Option Pair)) (t u : List ℕ) (last end : State) → AnswersAll Step Finish batch lines shown t last → AnswersAll Step Finish batch lines other u end
    → AnswerAlike lines t u × (shown ≡ other) × (end ≡ record last { shot = end.shot })

-- ---- printed evidence

-- some lines lead a script that opens so to the state
pub record IsReached (opening s : State) : Type 0 where
  pub lines : List (List ℕ)
  pub shown : List (Option Pair)
  pub text : List ℕ
  pub run : Run Step opening lines shown text s

-- the script goes on, no block is open, and the line asks for this
pub record Asks (s : State) (line : List ℕ) (a : Asked) : Type 0 where
  pub runs : s.closed ≡ false
  pub outside : s.block ≡ NoBlock
  pub short : length line ≤ 65536
  pub asked : asked_of s line ≡ Ok a

-- the lines are answered by this text, and by no other
pub record AnswersOnly (s : State) (lines : List (List ℕ)) (text : List ℕ) : Type 0 where
  pub shown : List (Option Pair)
  pub last : State
  pub run : Run Step s lines shown text last
  pub only : (other : List (Option Pair)) (t : List ℕ) (end : State) → Run Step s lines other t end → (t ≡ text) × (end ≡ last)

-- The text is the answer to `g`, and after it evidence: a check about the same problem that is asked the claim `g` answers the
-- claim and the evidence by the verdict that is due, which accepts.
pub record PrintsEvidence (old : State) (g : Poly) (text : List ℕ) : Type 0 where
  pub shot : Shot
  pub finding : Finding
  pub evidence : List ℕ
  pub asked : old.shot ≡ Some shot
  pub found : IsFinding (rules_of old.problem) shot.table (Prove g) finding
  pub text_is : text ≡ answer_text old.problem.letters shot.table finding ++ evidence
  pub accepts : (v : Verdict) → verdict_of finding ≡ Some v → (s : State) (claim : List ℕ) → IsReached check s → s.problem ≡ old.problem → s.built ≡ true → Asks s claim (Claim g)
      → AnswersOnly s (claim ∷ lines_of evidence) (verdict_text v)

-- EVIDENCE THAT `prove` PRINTED IS ACCEPTED BY `check`
abbrev pub EvidenceIsAccepted : Type 0
EvidenceIsAccepted = (old new : State) (line text : List ℕ) (shown : Option Pair) (g : Poly) → IsReached batch old → Asks old line (asking.Prove g) → Step old line shown text new
    → PrintsEvidence old g text
