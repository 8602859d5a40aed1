-- What is true of every state that a script comes to.
use Rattle.std.specs.Prelude.{◌≡◌, Bool, true, false, Option, None, Some}
use Rattle.alb_problem.specs.Builder.{Builder, finish_refusal, IsSoundProblem}
use Rattle.alb_question.specs.Question.{Shot, rules_of, IsBuilt}
use Rattle.alb_top.specs.Does.{script_form}
use Rattle.alb_top.specs.Script.{State, Open, Claimed}
use Rattle.alb_top.specs.declared.mode.Mode.{Mode}
use Rattle.alb_top.specs.declared.mode.Mode.TheVariants as mode

-- claims stand after `build`
abbrev pub IsAfterBuild : Open → Bool → Type 0
IsAfterBuild (Claimed f lines) built = built ≡ true
IsAfterBuild other built = Unit {0}

-- there is a shot at which the building of the problem ends
abbrev pub HasBuilt : Builder → Option Shot → Type 0
HasBuilt b (Some s) = IsBuilt (rules_of b) s
HasBuilt b None = ⊥

-- after `build` a batch has it
abbrev pub HasShot : Mode → Bool → Builder → Option Shot → Type 0
HasShot mode.Batch true b shot = HasBuilt b shot
HasShot mode.Batch false b shot = Unit {0}
HasShot mode.Check built b shot = Unit {0}
HasShot (mode.Sample n) built b shot = Unit {0}

pub record IsSoundState (s : State) : Type 0 where
  pub problem : IsSoundProblem s.problem
  pub accepted : s.built ≡ true → finish_refusal s.problem ≡ None
  pub claims : IsAfterBuild s.block s.built
  pub reads : script_form s.mode ≡ Some s.form
  pub shot : HasShot s.mode s.built s.problem s.shot
