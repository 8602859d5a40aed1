use Rattle.std.proofs.Common.{◌≡◌, ◌<◌, ℕ, List, [], All}
use Rattle.alb_mono.specs.Tree.{Tree}
use Rattle.alb_poly.specs.Consequence.{forms}
use Rattle.alb_poly.proofs.Multilinear.{all_from_each}
use Rattle.alb_table.specs.Block.{spread}
use Rattle.alb_table.specs.Right.{IsWithinDegree}
use Rattle.alb_table.specs.RightTable.{RulesView, rules_view, IsRightFor}
use Rattle.alb_table.specs.Table.{Table}
use Rattle.alb_poly.specs.Instance.{Form}
use Rattle.alb_poly.specs.Poly.{Poly}
use Rattle.alb_deriv.specs.Short.{IsSumOf}
use Rattle.alb_query.specs.Answer.{Zero, IsAnswer}
use Rattle.alb_trace.specs.Trace.{lines_of, mono_less, IsTrace, Derives, PushesItems}
use Rattle.alb_trace.specs.declared.trace.Citation.{Citation}
use Rattle.alb_trace.specs.declared.trace.Trace.{Trace}
use Rattle.alb_trace.proofs.Asked.{answered-within, answered-sum}
use Rattle.alb_trace.proofs.Ends.{forms-few, derived-stands}
use Rattle.alb_trace.proofs.ProductLemmas.{pushes-sum, pushes-residues}
use Rattle.alb_trace.proofs.ResultLemmas.{on-ok}
use Rattle.alb_trace.proofs.answers.Deriver.derive.Goals as goal

pub add_monomials-requires-clause-within : goal.add_monomials-requires-clause-within
add_monomials-requires-clause-within c =
    all_from_each (λ (s : ℕ × Tree). IsWithinDegree c.args.tables.now.target c.args.tables.now.degree s.1) c.args.g.now
    (answered-within c.args.tables.now.p (forms c.args.rules.now) c.args.tables.now.target c.args.tables.now.degree c.args.g.now c.requires.zero)

-- the sum of the monomials less their values is the polynomial
derived : (r : RulesView) (t : Table) → IsRightFor r t → (g : Poly) → IsAnswer t.p r.forms t.target t.degree g Zero → (start mid end : Trace) (before after : List (ℕ × ℕ)) (o : Citation) → before ≡ [] →
    PushesItems r.forms t start mid before after (spread (mono_less t) g) →
    ((fs : List Form) (t : Table) (f : Poly) → IsTrace fs t mid → All (λ c. c.0 < t.p) after → IsSumOf t.p fs (lines_of mid) after f → Derives fs t mid end o f) → Derives r.forms t mid end o g
derived r t right g zero start mid end before after o e p h =
    let s = pushes-sum r.forms t start mid before after (spread (mono_less t) g) e p in
    let a = pushes-residues r.forms t start mid before after (spread (mono_less t) g) e p in
    h r.forms t g p.trace a (answered-sum r t right g zero (lines_of mid) after s)

pub lines_to-requires : goal.lines_to-requires
lines_to-requires c = record {
  stands = derived-stands (forms c.args.rules.now) c.args.tables.now c.add_monomials.new.self c.sum_line.new.self c.in_ok-cited.cited c.args.g.now
      (derived (rules_view c.args.rules.now) c.args.tables.now c.requires.right c.args.g.now c.requires.zero c.args.self.now.trace c.add_monomials.new.self c.sum_line.new.self
      c.new-sum.result.items.items c.add_monomials.new.sum.items.items c.in_ok-cited.cited c.new-sum.ensures c.in_ok-add_monomials.ensures c.in_ok-cited.ensures.derives);
}

pub returns-clause-lines : goal.returns-clause-lines
returns-clause-lines c =
    c.lines_to.ensures (forms c.args.rules.now) c.args.tables.now c.add_monomials.new.self c.args.g.now (forms-few c.args.rules.now c.requires.rules)
    (derived (rules_view c.args.rules.now) c.args.tables.now c.requires.right c.args.g.now c.requires.zero c.args.self.now.trace c.add_monomials.new.self c.sum_line.new.self
    c.new-sum.result.items.items c.add_monomials.new.sum.items.items c.in_ok-cited.cited c.new-sum.ensures c.in_ok-add_monomials.ensures c.in_ok-cited.ensures.derives)

pub returns-clause-deriver : goal.returns-clause-deriver
returns-clause-deriver c = on-ok c.lines_to.result
    (derived (rules_view c.args.rules.now) c.args.tables.now c.requires.right c.args.g.now c.requires.zero c.args.self.now.trace c.add_monomials.new.self c.sum_line.new.self
    c.new-sum.result.items.items c.add_monomials.new.sum.items.items c.in_ok-cited.cited c.new-sum.ensures c.in_ok-add_monomials.ensures c.in_ok-cited.ensures.derives).trace
