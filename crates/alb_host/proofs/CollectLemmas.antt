-- The jobs, and what they left, one after the other.
use Rattle.std.proofs.Common.{◌≡◌, ℕ, zero, suc, ◌+◌, ◌<◌, List, All, [], ◌∷◌, ◌++◌, length, map, take, get_or, Option, None, Some, refl, sym, ap, ◌∙◌, subst, arith}
use Rattle.std.proofs.lemmas.List.{append-nil, map-append, map-id}
use Rattle.std.proofs.lemmas.List.Elements.{All-push}
use Rattle.alb_board.specs.declared.kept.PassView.{PassView}
use Rattle.alb_board.specs.declared.rule.Pass.{Pass}
use Rattle.alb_table.specs.declared.end.BuildEnd.{BuildEnd}
use Rattle.alb_host.specs.Steps.{IsSplitFrom, sessions_of, built_of, served}
use Rattle.alb_host.specs.declared.jobs.Done.{Done}
use Rattle.alb_host.specs.declared.jobs.Done.TheVariants as done
use Rattle.alb_host.specs.declared.report.SessionReport.{SessionReport}

-- ---- passes

-- a pass that split once more
pub split-more : (first old new : PassView) → IsSplitFrom first old → new ≡ record old { passes = old.passes + 1 } → IsSplitFrom first new
split-more first old new so_far is =
    is ∙ ap (λ (v : PassView). record v { passes = old.passes + 1 }) so_far ∙ ap (λ (k : ℕ). record first { passes = k }) (sym (ap (λ (v : PassView). v.passes) is))

-- ---- lists that grow

-- one more of the members that are seen by `f`
pub map-snoc : {A B : Type 0} (f : A → B) (xs new : List A) (x : A) (ys : List B) (y : B) → new ≡ xs ++ x ∷ [] → map f xs ≡ ys → f x ≡ y → map f new ≡ ys ++ y ∷ []
map-snoc f xs new x ys y made so_far is = ap (map f) made ∙ map-append f xs (x ∷ []) ∙ ap (λ zs. zs ++ f x ∷ []) so_far ∙ ap (λ z. ys ++ z ∷ []) is

pub all-snoc : {A : Type 0} (P : A → Type 0) (xs new : List A) (x : A) → new ≡ xs ++ x ∷ [] → All P xs → P x → All P new
all-snoc P xs new x made so_far here = subst (All P) (sym made) (All-push P xs x so_far here)

-- one job more
pub jobs-more : {A B : Type 0} (f : A → B) (first : B) (xs : List A) (x : A) (js new : List B) → new ≡ js ++ f x ∷ [] → js ≡ first ∷ map f xs → new ≡ first ∷ map f (xs ++ x ∷ [])
jobs-more f first xs x js new made so_far =
    made ∙ ap (λ zs. zs ++ f x ∷ []) so_far ∙ ap (λ zs. first ∷ zs) (sym (map-append f xs (x ∷ [])))

module _ {I K : Type 0} where
  -- ---- what jobs left

  -- one job more
  snoc-sessions : (ds : List (Done I K)) (d : Done I K) → sessions_of (ds ++ d ∷ []) ≡ sessions_of ds ++ sessions_of (d ∷ [])
  snoc-sessions [] d = refl
  snoc-sessions (done.Built p e ∷ ds) d = snoc-sessions ds d
  snoc-sessions (done.Served r ∷ ds) d = ap (λ rs. r ∷ rs) (snoc-sessions ds d)

  snoc-built : (o : Option (Pass × BuildEnd)) (ds : List (Done I K)) (d : Done I K) → built_of o (ds ++ d ∷ []) ≡ built_of (built_of o ds) (d ∷ [])
  snoc-built o [] d = refl
  snoc-built o (done.Built p e ∷ ds) d = snoc-built (Some (p, e)) ds d
  snoc-built o (done.Served r ∷ ds) d = snoc-built o ds d

  -- there are fewer sessions before the place of one
  pub sessions-below : (ds : List (Done I K)) (n : ℕ) (r : SessionReport I K) → n < length ds → served r ≡ get_or ds n (served r) → length (sessions_of (take n ds)) < length (sessions_of ds)
  sessions-below [] n r less is = absurd (omega (arith, less))
  sessions-below (done.Built p e ∷ ds) zero r less is = cc
  sessions-below (done.Served s ∷ ds) zero r less is = omega arith
  sessions-below (done.Built p e ∷ ds) (suc n) r less is = sessions-below ds n r (omega (arith, less)) is
  sessions-below (done.Served s ∷ ds) (suc n) r less is = omega (arith, sessions-below ds n r (omega (arith, less)) is)

  -- there is room for what a session left
  pub sessions-room : (ds seen : List (Done I K)) (d : Done I K) (r : SessionReport I K) → d ≡ served r → map (λ x. x) seen ≡ take (length seen) ds → length seen < length ds
      → d ≡ get_or ds (length seen) d → length (sessions_of seen) < length (sessions_of ds)
  sessions-room ds seen d r is so_far less here =
      subst (λ (xs : List (Done I K)). length (sessions_of xs) < length (sessions_of ds)) (sym so_far ∙ map-id seen)
      (sessions-below ds (length seen) r less (subst (λ (x : Done I K). x ≡ get_or ds (length seen) x) is here))

  -- after what a session left
  pub sessions-served : (seen : List (Done I K)) (d : Done I K) (r : SessionReport I K) (old new : List (SessionReport I K)) → d ≡ served r → old ≡ sessions_of seen → new ≡ old ++ r ∷ []
      → new ≡ sessions_of (seen ++ d ∷ [])
  sessions-served seen d r old new is so_far made =
      made ∙ ap (λ rs. rs ++ r ∷ []) so_far ∙ ap (λ x. sessions_of seen ++ sessions_of (x ∷ [])) (sym is) ∙ sym (snoc-sessions seen d)

  pub built-served : (seen : List (Done I K)) (d : Done I K) (r : SessionReport I K) (o : Option (Pass × BuildEnd)) → d ≡ served r → o ≡ built_of None seen → o ≡ built_of None (seen ++ d ∷ [])
  built-served seen d r o is so_far = so_far ∙ ap (λ x. built_of (built_of None seen) (x ∷ [])) (sym is) ∙ sym (snoc-built None seen d)

  -- after what the builder left
  pub sessions-built : (seen : List (Done I K)) (d : Done I K) (p : Pass) (e : BuildEnd) (rs : List (SessionReport I K)) → d ≡ done.Built p e → rs ≡ sessions_of seen → rs ≡ sessions_of (seen ++ d ∷ [])
  sessions-built seen d p e rs is so_far =
      so_far ∙ sym (append-nil (sessions_of seen)) ∙ ap (λ x. sessions_of seen ++ sessions_of (x ∷ [])) (sym is) ∙ sym (snoc-sessions seen d)

  pub built-built : (seen : List (Done I K)) (d : Done I K) (p : Pass) (e : BuildEnd) → d ≡ done.Built p e → Some (p, e) ≡ built_of None (seen ++ d ∷ [])
  built-built seen d p e is = ap (λ x. built_of (built_of None seen) (x ∷ [])) (sym is) ∙ sym (snoc-built None seen d)
