-- What the commands of a script make of it.
use Rattle.std.proofs.Common.{◌≡◌, ℕ, ◌≤◌, Bool, true, false, length, Option, Some, None, refl, sym, ap, ap₂, ◌∙◌, subst, arith}
use Rattle.alb_problem.specs.Builder.{Builder, finish_refusal, IsSoundProblem}
use Rattle.alb_problem.specs.Problem.{problem, IsAccepted}
use Rattle.alb_problem.specs.declared.problem.Problem.{Problem}
use Rattle.alb_problem.proofs.SoundLemmas.{accepted-finish}
use Rattle.alb_script.specs.Asked as asking
use Rattle.alb_script.specs.Asked.{Asked, view, IsCommandOver}
use Rattle.alb_script.specs.declared.command.Command.{Command}
use Rattle.alb_script.specs.declared.command.Command.TheVariants as commands
use Rattle.alb_script.specs.declared.form.Form.{Form}
use Rattle.alb_script.specs.declared.form.Form.TheVariants as form
use Rattle.alb_question.specs.Question as questions
use Rattle.alb_question.specs.Question.{Finding, IsFinding, Shot, rules_of, IsBuilt}
use Rattle.alb_question.specs.Views.{shot_of, IsTopic, IsQuestionOver}
use Rattle.alb_question.specs.declared.topic.Topic.{Topic}
use Rattle.alb_question.proofs.FindingLemmas.{findings-true}
use Rattle.alb_question.proofs.ProblemRules.{topic-built, topic-finding}
use Rattle.alb_top.specs.Does.{script_form}
use Rattle.alb_top.specs.Script.{Response, Built, Found, State, NoBlock, start, respond, BuildsBy, BuildsUnless, question_in, FindsBy, Obeys}
use Rattle.alb_top.specs.Sound.{IsSoundState}
use Rattle.alb_top.specs.View.{response_of, state, state_at, problem_of, IsStage, IsScript, IsQuestion, IsWritable, Begins}
use Rattle.alb_top.specs.declared.mode.Mode.{Mode}
use Rattle.alb_top.specs.declared.mode.Mode.TheVariants as mode
use Rattle.alb_top.specs.declared.response.Response as Rust
use Rattle.alb_top.specs.declared.script.Script.{Script}
use Rattle.alb_top.specs.declared.script.Stage.{Stage}
use Rattle.alb_top.specs.declared.script.Stage.TheVariants as stage
use Rattle.alb_top.proofs.SoundLemmas.{sound-start}

-- a script before its first line is sound
pub opening-sound : (s : Script) → state s ≡ start (state s).mode (state s).form → IsScript s → IsSoundState (state s)
opening-sound s is h = subst (λ (t : State). IsSoundState t) (sym is) (sound-start s.mode s.form h.reads)

-- the form of a check is read by its mode alone
pub check-mode : (m : Mode) (f : Form) → script_form m ≡ Some f → f ≡ form.Check → m ≡ mode.Check
check-mode mode.Check f is h = refl
check-mode mode.Batch f is h = absurd (let e : Some form.Batch ≡ Some form.Check = is ∙ ap (λ (x : Form). Some x) h in cc)
check-mode (mode.Sample n) f is h = absurd (cc)

-- ---- questions

-- what is found for a question stands in the transcript
found : (m : Mode) (f : Form) (t : Topic) (closed clean : Bool) (q : questions.Question) (x : Finding) → IsTopic t → IsSoundProblem (problem t.problem)
    → IsFinding (rules_of (problem t.problem)) t.tables q x
    → FindsBy (Some (shot_of t)) (state_at m f (stage.Asking t) closed clean) q (Found x) (state_at m f (stage.Asking t) closed clean)
found m f t closed clean q x h sound is = record {
  finding = x;
  is = is;
  holds = findings-true (problem t.problem) t.tables q x (record { sound = sound; accepted = accepted-finish t.problem h.accepted }) (topic-built t h).right is;
  responds = refl;
}

-- a question as a command
by-question : (a : Asked) (q : questions.Question) (old new : State) (response : Response) → IsQuestion a → question_in a ≡ Some q → FindsBy old.shot old q response new → Obeys old a response new
by-question (asking.Polynomial g) q old new response h is e = let same : questions.Polynomial g ≡ q = cc in subst (λ x. FindsBy old.shot old x response new) (sym same) e
by-question (asking.Prove g) q old new response h is e = let same : questions.Prove g ≡ q = cc in subst (λ x. FindsBy old.shot old x response new) (sym same) e
by-question asking.Dimensions q old new response h is e = let same : questions.Dimensions ≡ q = cc in subst (λ x. FindsBy old.shot old x response new) (sym same) e
by-question asking.Table q old new response h is e = let same : questions.Products ≡ q = cc in subst (λ x. FindsBy old.shot old x response new) (sym same) e
by-question a q old new response h is e = absurd h

pub question-responds : (s : Script) (t : Topic) (a : Asked) (q : questions.Question) (x : Finding) → s.stage ≡ stage.Asking t → IsTopic t → IsSoundProblem (state s).problem → IsQuestion a
    → question_in a ≡ Some q → IsFinding (rules_of (problem t.problem)) t.tables q x → Obeys (state s) a (Found x) (state s)
question-responds s t a q x is h sound asks e found_is =
    let same : state s ≡ state_at s.mode s.form (stage.Asking t) s.closed s.clean = ap (λ (u : Stage). state_at s.mode s.form u s.closed s.clean) is in
    subst (λ (u : State). Obeys u a (Found x) u) (sym same)
    (by-question a q _ _ (Found x) asks e
    (found s.mode s.form t s.closed s.clean q x h (subst (λ (u : State). IsSoundProblem u.problem) same sound) found_is))

-- the question of a command that was read is one about the table
pub read-question : (p n : ℕ) (c : Command) (q : questions.Question) → IsQuestion (view c) → question_in (view c) ≡ Some q → IsCommandOver p n c → IsQuestionOver p n q
read-question p n (commands.Polynomial g) q h is r =
    let same : questions.Polynomial g ≡ q = cc in subst (IsQuestionOver p n) same (record { residues = r.residues; known = r.known })
read-question p n (commands.Prove g) q h is r = let same : questions.Prove g ≡ q = cc in subst (IsQuestionOver p n) same (record { residues = r.residues; known = r.known })
read-question p n commands.Dimensions q h is r = let same : questions.Dimensions ≡ q = cc in subst (IsQuestionOver p n) same tt
read-question p n commands.Table q h is r = let same : questions.Products ≡ q = cc in subst (IsQuestionOver p n) same tt
read-question p n c q h is r = absurd h

-- over the field and the generators of the table
pub topic-question : (t : Topic) (q : questions.Question) → IsTopic t → IsQuestionOver t.problem.rules.field (length t.problem.letters) q → IsQuestionOver t.tables.p (length t.tables.target) q
topic-question t q h over =
    let named : length t.problem.letters ≡ length t.tables.target = h.accepted.named ∙ ap length (sym h.built.right.target) in
    subst (λ p. IsQuestionOver p (length t.tables.target) q) (sym h.built.right.field) (subst (λ n. IsQuestionOver t.problem.rules.field n q) named over)

pub script-topic : (s : Script) (t : Topic) → s.stage ≡ stage.Asking t → IsScript s → IsTopic t
script-topic s t is h =
    let u : IsStage s.mode (stage.Asking t) = subst (λ (u : Stage). IsStage s.mode u) is h.stage in u.1

-- a topic that has answered a question stands for the same state
pub answered-state : (s : Script) (t u : Topic) → s.stage ≡ stage.Asking t → u.problem ≡ t.problem → shot_of u ≡ shot_of t → state_at s.mode s.form (stage.Asking u) s.closed s.clean ≡ state s
answered-state s t u is same shot =
    ap₂ (λ (q : Problem) (x : Shot). record (state_at s.mode s.form (stage.Asking u) s.closed s.clean) { problem = problem q; shot = Some x }) same shot
    ∙ ap (λ (v : Stage). state_at s.mode s.form v s.closed s.clean) (sym is)

-- ---- the end of a problem

begun : (m : Mode) (f : Form) (b : Builder) (closed clean : Bool) (q : Problem) (r : Rust.Response) (u : Stage) → problem q ≡ b → IsAccepted q → Begins m q r u
    → BuildsBy m (record (state_at m f u closed clean) { problem = b; built = false; shot = None }) (response_of r) (state_at m f u closed clean)
begun mode.Batch f b closed clean q r (stage.Asking t) whole a e =
    let same : problem t.problem ≡ b = ap problem e.0 ∙ whole in
    record {
      shot = shot_of t;
      built = subst (λ c. IsBuilt (rules_of c) (shot_of t)) same (topic-built t e.1);
      responds = ap₂ (λ (x : Rust.Response) (c : Builder). (response_of x, record (state_at mode.Batch f (stage.Asking t) closed clean) { problem = c })) e.2 same;
    }
begun mode.Check f b closed clean q r (stage.Claiming c) whole a e =
    ap₂ (λ (x : Rust.Response) (d : Builder). (response_of x, record (state_at mode.Check f (stage.Claiming c) closed clean) { problem = d })) e.1 (ap problem e.0 ∙ whole)
begun m f b closed clean q r u whole a e = absurd e

pub begins-responds : (m : Mode) (f : Form) (b : Builder) (closed clean : Bool) (q : Problem) (r : Rust.Response) (u : Stage) → finish_refusal b ≡ None → problem q ≡ b → IsAccepted q → Begins m q r u
    → BuildsUnless (finish_refusal b) (record (state_at m f u closed clean) { problem = b; built = false; shot = None }) (response_of r) (state_at m f u closed clean)
begins-responds m f b closed clean q r u none whole a e =
    subst (λ o. BuildsUnless o (record (state_at m f u closed clean) { problem = b; built = false; shot = None }) (response_of r) (state_at m f u closed clean)) (sym none)
    (begun m f b closed clean q r u whole a e)

-- the response can be written
pub begins-writable : (m : Mode) (f : Form) (closed clean : Bool) (q : Problem) (r : Rust.Response) (u : Stage) → Begins m q r u → IsWritable (state_at m f u closed clean) r
begins-writable mode.Batch f closed clean q r (stage.Asking t) e = subst (IsWritable (state_at mode.Batch f (stage.Asking t) closed clean)) (sym e.2) tt
begins-writable mode.Check f closed clean q r (stage.Claiming c) e = subst (IsWritable (state_at mode.Check f (stage.Claiming c) closed clean)) (sym e.1) tt
begins-writable m f closed clean q r u e = absurd e

-- the same of a script
pub stating-script : (s : Script) (b : Builder) (u : Stage) (r : Rust.Response) → s.stage ≡ stage.Stating b
    → BuildsUnless (finish_refusal b) (record (state_at s.mode s.form u s.closed s.clean) { problem = b; built = false; shot = None }) (response_of r) (state_at s.mode s.form u s.closed s.clean)
    → BuildsUnless (finish_refusal (problem_of s.stage)) (state s) (response_of r) (state_at s.mode s.form u s.closed s.clean)
stating-script s b u r is h =
    subst (λ (v : Stage). BuildsUnless (finish_refusal (problem_of v)) (state_at s.mode s.form v s.closed s.clean) (response_of r) (state_at s.mode s.form u s.closed s.clean)) (sym is) h
