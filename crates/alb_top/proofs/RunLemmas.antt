-- Runs over lines: one line more, two runs joined, and that there is one for all lines.
use Rattle.std.proofs.Common.{◌≡◌, ℕ, true, List, [], ◌∷◌, ◌++◌, Option, None, refl, sym, ap, ◌∙◌, subst, append_assoc}
use Rattle.std.proofs.lemmas.List.{append-nil}
use Rattle.alb_question.specs.Question.{Pair}
use Rattle.alb_top.specs.Script.{Nothing, State, Step, Finish, AnswersLine, AnswersEnd}
use Rattle.alb_top.specs.Outcome.{Run}
use Rattle.alb_top.specs.Sound.{IsSoundState}
use Rattle.alb_top.proofs.SoundLemmas.{step-some, step-sound}

module _ {S L : Type 0} (by : S → List ℕ → L → List ℕ → S → Type 0) where
  pub Run-join : (old mid new : S) (xs ys : List (List ℕ)) (ps qs : List L) (t u : List ℕ) → Run by old xs ps t mid → Run by mid ys qs u new → Run by old (xs ++ ys) (ps ++ qs) (t ++ u) new
  Run-join old mid new [] ys ps qs t u p q =
      subst (λ s. Run by s ys (ps ++ qs) (t ++ u) new) p.2 (subst (λ l. Run by mid ys (l ++ qs) (t ++ u) new) (sym p.0) (subst (λ l. Run by mid ys qs (l ++ u) new) (sym p.1) q))
  Run-join old mid new (x ∷ xs) ys ps qs t u p q =
      (p.0, p.1 ++ qs, p.2, p.3 ++ u, p.4, ap (λ l. l ++ qs) p.5, ap (λ l. l ++ u) p.6 ∙ append_assoc p.2 p.3 u, p.7, Run-join p.4 mid new xs ys p.1 qs p.3 u p.8 q)

  pub Run-one : (old new : S) (line : List ℕ) (a : L) (t : List ℕ) → by old line a t new → Run by old (line ∷ []) (a ∷ []) t new
  Run-one old new line a t p = (a, [], t, [], new, refl, sym (append-nil t), p, (refl, refl, refl))

-- each script has a transcript, and a sound one leads to a sound one
pub Run-some : (old : State) (lines : List (List ℕ)) → IsSoundState old → (shown : List (Option Pair)) × (t : List ℕ) × (new : State) × Run Step old lines shown t new
Run-some old [] sound = ([], [], old, (refl, refl, refl))
Run-some old (line ∷ lines) sound =
    let answer = step-some old line sound in
    let rest = Run-some answer.2 lines answer.4 in
    (answer.0 ∷ rest.0, answer.1 ++ rest.1, rest.2, (answer.0, rest.0, answer.1, rest.1, answer.2, refl, refl, answer.3, rest.3))

-- a run leads from a sound state to a sound state
pub Run-sound : (old new : State) (lines : List (List ℕ)) (shown : List (Option Pair)) (t : List ℕ) → IsSoundState old → Run Step old lines shown t new → IsSoundState new
Run-sound old new [] shown t sound run = subst (λ (s : State). IsSoundState s) (sym run.2) sound
Run-sound old new (line ∷ lines) shown t sound run = Run-sound run.4 new lines run.1 run.3 (step-sound old run.4 line run.2 run.0 sound run.7) run.8

-- lines that show nothing
abbrev pub silent : List (List ℕ) → List (Option Pair)
silent [] = []
silent (line ∷ lines) = None ∷ silent lines

-- after the end of a script the lines are not read
pub Run-closed : (s : State) (lines : List (List ℕ)) → s.closed ≡ true → Run Step s lines (silent lines) [] s
Run-closed s [] closed = (refl, refl, refl)
Run-closed s (line ∷ lines) closed = (
  None,
  silent lines,
  [],
  [],
  s,
  refl,
  refl,
  record { response = Nothing; answers = subst (λ c. AnswersLine c s line Nothing s) (sym closed) (refl, refl); shows = refl; responds = refl },
  Run-closed s lines closed,
)

pub Finish-closed : (s : State) → s.closed ≡ true → Finish s [] s
Finish-closed s closed = record { response = Nothing; answers = subst (λ c. AnswersEnd c s Nothing s) (sym closed) (refl, refl); responds = refl }
