-- How a claim is answered after its block.
use Rattle.std.proofs.Common.{◌≡◌, ℕ, Bool, true, false, List, [], ◌∷◌, ◌++◌, Option, None, Result, Ok, Err, refl, sym, ap, ◌∙◌, subst}
use Rattle.std.specs.Prelude.{if◌then◌else◌}
use Rattle.alb_poly.specs.Poly.{Poly}
use Rattle.alb_poly.specs.Consequence.{forms}
use Rattle.alb_io.specs.Reader.{Reader}
use Rattle.alb_io.specs.declared.step.LineStep.TheVariants as step
use Rattle.alb_problem.specs.Problem.{problem, IsAccepted}
use Rattle.alb_problem.specs.Builder.{forms_of}
use Rattle.alb_problem.specs.declared.problem.Problem.{Problem}
use Rattle.alb_problem.proofs.SoundLemmas.{forms-rules}
use Rattle.alb_script.specs.declared.form.Form.{Form}
use Rattle.alb_evidence.specs.Block as block
use Rattle.alb_evidence.specs.Block.{evidence_of}
use Rattle.alb_evidence.specs.Reads.{ReadsBlock, ReadsAs, Breaks}
use Rattle.alb_evidence.specs.Views.{evidence}
use Rattle.alb_evidence.specs.declared.evidence.Evidence.{Evidence}
use Rattle.alb_evidence.specs.declared.error.EvidenceError.{EvidenceError}
use Rattle.alb_evidence.specs.declared.error.EvidenceError.TheVariants as given
use Rattle.alb_judge.specs.Verdict.{IsVerdict}
use Rattle.alb_judge.specs.Views as views
use Rattle.alb_judge.specs.Views.{judgement}
use Rattle.alb_judge.specs.declared.judging.Judged.TheVariants as judged
use Rattle.alb_judge.specs.declared.verdict.Verdict.{Verdict}
use Rattle.alb_judge.proofs.VerdictLemmas.{evidence-read, verdict-justified}
use Rattle.alb_top.specs.Script as responses
use Rattle.alb_top.specs.Script.{State, NoBlock, Claimed, OfBlock, EndsBlock, JudgesClaim, respond}
use Rattle.alb_top.specs.Sound.{IsSoundState}
use Rattle.alb_top.specs.View.{state, state_at, IsStage, IsScript}
use Rattle.alb_top.specs.Turns.{TakesTurn, Gets, Stops, claimed}
use Rattle.alb_top.specs.declared.mode.Mode.{Mode}
use Rattle.alb_top.specs.declared.mode.Mode.TheVariants as mode
use Rattle.alb_top.specs.declared.response.Response.TheVariants as response
use Rattle.alb_top.specs.declared.script.Script.{Script}
use Rattle.alb_top.specs.declared.script.Stage.{Stage}
use Rattle.alb_top.specs.declared.script.Stage.TheVariants as stage
use Rattle.alb_top.specs.declared.turn.Taken.{Taken}
use Rattle.alb_top.specs.declared.turn.Taken.TheVariants as took
use Rattle.alb_top.proofs.TurnLemmas.{lines-more, inside-claimed, block-taken, block-broken}

-- claims about this problem may be made
abbrev pub claiming : Form → Problem → Bool → State
claiming f q clean = record { mode = mode.Check; form = f; problem = problem q; built = true; shot = None; block = NoBlock; closed = false; clean = clean }

-- the verdict on what was read stands in the transcript
judges : (m : Form) (q : Problem) (clean : Bool) (f : Poly) (lines : List (List ℕ)) (has_end : Bool) (seen : Result block.Evidence block.BlockFault) (v : Verdict) (next : Script)
    → IsAccepted q → IsSoundState (claiming m q clean) → evidence_of q.rules.field q.letters lines has_end ≡ seen → IsVerdict q.rules.field q.rules.target (forms q.rules) f seen (judgement v)
    → (responses.Judged (judgement v), state next) ≡ respond (responses.Judged (judgement v)) (claiming m q clean)
    → JudgesClaim (record (claiming m q clean) { block = Claimed f lines }) f (evidence_of q.rules.field q.letters lines has_end) (responses.Judged (judgement v)) (state next)
judges m q clean f lines has_end seen v next a sound read is responds =
    let stands : IsVerdict q.rules.field q.rules.target (forms_of (problem q)) f (evidence_of q.rules.field q.letters lines has_end) (judgement v) =
    subst (λ fs. IsVerdict q.rules.field q.rules.target fs f (evidence_of q.rules.field q.letters lines has_end) (judgement v)) (forms-rules q a)
    (subst (λ (r : Result block.Evidence block.BlockFault). IsVerdict q.rules.field q.rules.target (forms q.rules) f r (judgement v)) (sym read) is) in
    record {
      verdict = judgement v;
      judged = stands;
      responds = responds;
      justified = verdict-justified (problem q) f (evidence_of q.rules.field q.letters lines has_end) (judgement v) sound.problem (sound.accepted refl) (evidence-read (problem q) q.letters lines has_end a.prime a.named) stands;
    }

judged-taken : (old new : Reader) (m : Form) (q : Problem) (clean : Bool) (f : Poly) (now now' : Option (List ℕ)) (lines : List (List ℕ)) (has_end : Bool) (seen : Result block.Evidence block.BlockFault)
    (v : Verdict) (next : Script) (ended : Bool) (taken : Taken) → IsAccepted q → IsSoundState (claiming m q clean) → ReadsBlock has_end lines old new now now'
    → evidence_of q.rules.field q.letters lines has_end ≡ seen → IsVerdict q.rules.field q.rules.target (forms q.rules) f seen (judgement v)
    → (responses.Judged (judgement v), state next) ≡ respond (responses.Judged (judgement v)) (claiming m q clean)
    → ended ≡ new.ended → taken ≡ (if ended then took.Last (response.Judged v) next else took.Response (response.Judged v) next) → TakesTurn taken old new (claimed f (claiming m q clean)) now now'
judged-taken old new m q clean f now now' lines has_end seen v next ended taken a sound r read is responds e was =
    let mid : State = record (claiming m q clean) { block = Claimed f lines } in
    let j : JudgesClaim mid f (evidence_of q.rules.field q.letters lines has_end) (responses.Judged (judgement v)) (state next) = judges m q clean f lines has_end seen v next a sound read is responds in
    block-taken old new (claimed f (claiming m q clean)) mid now now' lines has_end ended (response.Judged v) next taken r (inside-claimed (claiming m q clean) f [] lines refl r.no_end) refl
    (λ line k h. subst (λ b. OfBlock b mid line (responses.Judged (judgement v)) (state next)) (sym k)
    (subst (λ b. JudgesClaim mid f (evidence_of q.rules.field q.letters lines b) (responses.Judged (judgement v)) (state next)) h j))
    (λ h. subst (λ b. JudgesClaim mid f (evidence_of q.rules.field q.letters lines b) (responses.Judged (judgement v)) (state next)) h j) e was

claim_taken : (old new : Reader) (m : Form) (q : Problem) (clean : Bool) (f : Poly) (now now' : Option (List ℕ)) (read : Result Evidence EvidenceError)
    (v : Verdict) (next : Script) (ended : Bool) (taken : Taken) → IsAccepted q → IsSoundState (claiming m q clean) → ReadsAs read q.rules.field q.letters old new now now'
    → views.JudgeAnswers (judged.Verdict v) q f read → (responses.Judged (judgement v), state next) ≡ respond (responses.Judged (judgement v)) (claiming m q clean)
    → ended ≡ new.ended → taken ≡ (if ended then took.Last (response.Judged v) next else took.Response (response.Judged v) next) → TakesTurn taken old new (claimed f (claiming m q clean)) now now'
claim_taken old new m q clean f now now' (Ok x) v next ended taken a sound r j responds e was =
    judged-taken old new m q clean f now now' r.0 true (Ok (evidence x)) v next ended taken a sound r.1 r.2 j responds e was
claim_taken old new m q clean f now now' (Err (given.BadLine k)) v next ended taken a sound r j responds e was =
    judged-taken old new m q clean f now now' r.0 r.1 (Err (block.BadLine k)) v next ended taken a sound r.2 r.3 j responds e was
claim_taken old new m q clean f now now' (Err (given.BadNumber k)) v next ended taken a sound r j responds e was =
    judged-taken old new m q clean f now now' r.0 r.1 (Err (block.BadNumber k)) v next ended taken a sound r.2 r.3 j responds e was
claim_taken old new m q clean f now now' (Err given.ReadFault) v next ended taken a sound r j responds e was = absurd j
claim_taken old new m q clean f now now' (Err given.InputLimit) v next ended taken a sound r j responds e was = absurd j
claim_taken old new m q clean f now now' (Err given.NoMemory) v next ended taken a sound r j responds e was = absurd j

-- a claim was judged
pub claim-taken : (old new : Reader) (s : State) (q : Problem) (f : Poly) (now now' : Option (List ℕ)) (read : Result Evidence EvidenceError)
    (v : Verdict) (next : Script) (ended : Bool) (taken : Taken) → s ≡ claiming s.form q s.clean → IsAccepted q → IsSoundState s → ReadsAs read q.rules.field q.letters old new now now'
    → views.JudgeAnswers (judged.Verdict v) q f read → (responses.Judged (judgement v), state next) ≡ respond (responses.Judged (judgement v)) s
    → ended ≡ new.ended → taken ≡ (if ended then took.Last (response.Judged v) next else took.Response (response.Judged v) next) → TakesTurn taken old new (claimed f s) now now'
claim-taken old new s q f now now' read v next ended taken is a sound r j responds e was =
    subst (λ (t : State). TakesTurn taken old new (claimed f t) now now') (sym is)
    (claim_taken old new s.form q s.clean f now now' read v next ended taken a (subst (λ (t : State). IsSoundState t) is sound) r j (responds ∙ ap (respond (responses.Judged (judgement v))) is) e was)

-- a claim's block broke off
pub claim-read_fault : (old new : Reader) (s : State) (p : ℕ) (letters : List ℕ) (f : Poly) (now now' : Option (List ℕ)) (read : Result Evidence EvidenceError) → s.closed ≡ false
    → ReadsAs read p letters old new now now' → read ≡ Err given.ReadFault → Stops step.ReadFault old new (claimed f s) now now'
claim-read_fault old new s p letters f now now' read going r is =
    let b : Breaks step.ReadFault old new now now' = subst (λ (x : Result Evidence EvidenceError). ReadsAs x p letters old new now now') is r in
    block-broken _ _ _ _ _ _ _ b (inside-claimed s f [] b.lines going b.no_end) going

pub claim-input_limit : (old new : Reader) (s : State) (p : ℕ) (letters : List ℕ) (f : Poly) (now now' : Option (List ℕ)) (read : Result Evidence EvidenceError) → s.closed ≡ false
    → ReadsAs read p letters old new now now' → read ≡ Err given.InputLimit → Stops step.InputLimit old new (claimed f s) now now'
claim-input_limit old new s p letters f now now' read going r is =
    let b : Breaks step.InputLimit old new now now' = subst (λ (x : Result Evidence EvidenceError). ReadsAs x p letters old new now now') is r in
    block-broken _ _ _ _ _ _ _ b (inside-claimed s f [] b.lines going b.no_end) going

-- there was no memory to judge a claim
pub claim-gets : (old new : Reader) (q : Problem) (f : Poly) (now now' : Option (List ℕ)) (read : Result Evidence EvidenceError) → ReadsAs read q.rules.field q.letters old new now now'
    → views.JudgeAnswers judged.NoMemory q f read → Gets old new now now'
claim-gets old new q f now now' (Ok e) r j = record {
  lines = r.0 ++ r.1.closes.0 ∷ [];
  reads = lines-more r.0 r.1.closes.0 old r.1.last new now r.1.between now' r.1.inside r.1.closes.2;
}
claim-gets old new q f now now' (Err e) r j =
    let n = subst (λ (x : EvidenceError). ReadsAs (Err x) q.rules.field q.letters old new now now') j r in
    record { lines = n.0; reads = n.1 }

-- ---- scripts

pub claiming-stage : (s : Script) (q : Problem) → s.stage ≡ stage.Claiming q → s.mode ≡ mode.Check → (state s).closed ≡ false → state s ≡ claiming s.form q (state s).clean
claiming-stage s q is check going =
    ap (λ (t : Stage). state_at s.mode s.form t s.closed s.clean) is ∙ ap (λ (m : Mode). state_at m s.form (stage.Claiming q) s.closed s.clean) check
    ∙ ap (λ (b : Bool). state_at mode.Check s.form (stage.Claiming q) b s.clean) going

pub accepted-stage : (s : Script) (q : Problem) → s.stage ≡ stage.Claiming q → IsScript s → IsAccepted q
accepted-stage s q is h =
    let t : IsStage s.mode (stage.Claiming q) = subst (λ (t : Stage). IsStage s.mode t) is h.stage in t.1
