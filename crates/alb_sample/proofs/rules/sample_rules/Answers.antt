use Rattle.std.proofs.Common.{◌≡◌, ◌++◌, ◌∷◌, ◌∙◌, ℕ, List, [], map, sym, ap, ap₂, subst}
use Rattle.alb_poly.specs.Instance.{Form}
use Rattle.alb_poly.specs.Consequence.{form}
use Rattle.alb_poly.specs.declared.rules.Linear.{Linear}
use Rattle.alb_table.specs.RightTable.{RulesView, AreRules}
use Rattle.alb_sample.specs.Problem.{sample_forms}
use Rattle.alb_sample.proofs.CodeLemmas.{two-forms}
use Rattle.alb_sample.proofs.ProblemLemmas.{sample-rules}
use Rattle.alb_sample.proofs.rules.sample_rules.Goals as goal

pub returns-clause-value : goal.returns-clause-value
returns-clause-value c =
    let x : Linear = c.in_ok-left_alternative.field-0 in
    let y : Linear = c.in_ok-right_alternative.field-0 in
    let items : c.push-2.new.self.items ≡ x ∷ y ∷ [] =
    c.in_ok-push-2.ensures.items ∙ ap (λ (l : List Linear). l ++ y ∷ []) (c.in_ok-push.ensures.items ∙ ap (λ (l : List Linear). l ++ x ∷ []) c.new-linears.ensures.items) in
    let all : map form c.push-2.new.self.items ≡ sample_forms = ap (map form) items ∙ two-forms (form x) (form y) c.in_ok-left_alternative.ensures c.in_ok-right_alternative.ensures in
    ap₂ (λ (p : ℕ) (q : List ℕ × List Form). let r : RulesView = record { p = p; target = q.0; forms = q.1 } in r) c.field_251.ensures (ap₂ (λ (t : List ℕ) (f : List Form). (t, f)) c.of.ensures all)

pub returns-clause-rules : goal.returns-clause-rules
returns-clause-rules c = subst (λ (r : RulesView). AreRules r) (sym (returns-clause-value c)) sample-rules
