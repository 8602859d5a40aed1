-- Accepted problems.
use Rattle.std.specs.Prelude.{◌≡◌, ◌<◌, ◌≤◌, List, length, sum, map, All}
use Rattle.gf_field.specs.Modular.{IsInTable}
use Rattle.alb_mono.specs.Listing.{Each}
use Rattle.alb_poly.specs.Instance.{Identity}
use Rattle.alb_poly.specs.Consequence.{forms}
use Rattle.alb_linear.specs.Identity.{IsIdentity, IsLinearized}
use Rattle.alb_problem.specs.Builder.{Builder, linear_form, with_degrees, IsKeptIdentity}
use Rattle.alb_problem.specs.declared.problem.Problem.{Problem}

-- what a problem says, as a builder
abbrev pub problem : Problem → Builder
problem q = record { field = q.rules.field; letters = q.letters; counts = q.rules.target; identities = map (λ f. f.poly) q.identities.items }

-- the identities of a problem, with the degrees of their variables
abbrev pub identities_of : Problem → List Identity
identities_of q = map (λ f. with_degrees f.poly) q.identities.items

-- A problem that the engine accepts. The field is one of the table and has more elements than the total degree, which is 1 to
-- 12; no count is 0, and each has its letter; there are at most 32 identities, and the rules stand for them: their forms are the
-- linearizations, in order.
pub record IsAccepted (q : Problem) : Type 0 where
  pub prime : IsInTable q.rules.field
  pub large : sum q.rules.target < q.rules.field
  pub low : sum q.rules.target ≤ 12
  pub some : 0 < sum q.rules.target
  pub long : length q.rules.target ≤ 12
  pub positive : All (λ n. 0 < n) q.rules.target
  pub named : length q.letters ≡ length q.rules.target
  pub few : length q.identities.items ≤ 32
  pub identities : Each IsIdentity q.identities.items
  pub kept : Each (λ f. IsKeptIdentity q.rules.field f.poly) q.identities.items
  pub stand : forms q.rules ≡ map (λ f. linear_form q.rules.field f.poly) q.identities.items
  pub linearized : Each (IsLinearized q.rules.field) (forms q.rules)
