-- A building from degree to degree.
use Rattle.std.proofs.Common.{◌≡◌, ℕ, ◌+◌, true, None, refl, sym, ap, ◌∙◌, arith}
use Rattle.alb_board.specs.Calls.{KeepsShot}
use Rattle.alb_board.specs.Published.{published}
use Rattle.alb_board.specs.declared.kept.PassView.{PassView}
use Rattle.alb_table.specs.RightTable.{RulesView, IsRightFor}
use Rattle.alb_table.specs.Table.{Table}
use Rattle.alb_builder.specs.Building.{IsAfter}
use Rattle.alb_builder.specs.Steps.{IsBuilding}

pub after-join : (u v w : PassView) → IsAfter u v → IsAfter v w → IsAfter u w
after-join u v w a b = record {
  rules = b.rules ∙ a.rules;
  builder = b.builder ∙ a.builder;
  passes = b.passes ∙ a.passes;
  shots = b.shots ∙ a.shots;
}

pub building-start : (r : RulesView) (t : Table) (v : PassView) → IsRightFor r t → t.degree ≡ 1 → v.builder ≡ true → v.end ≡ None → v.seen ≡ 1 → v.known ≡ 1 → IsBuilding r t v v
building-start r t v right one builder none seen known = record {
  right = right;
  seen = seen ∙ sym one;
  known = known ∙ sym one;
  unended = none;
  builder = builder;
  calls = omega (arith, one);
  after = record { rules = refl; builder = refl; passes = refl; shots = refl };
}

-- a degree is published
pub building-next : (r : RulesView) (t u : Table) (v w x : PassView) (d : ℕ) → IsBuilding r t v w → IsRightFor r u → u.degree ≡ t.degree + 1 → KeepsShot w (published d None) x → d ≡ u.degree
    → IsBuilding r u v x
building-next r t u v w x d h right next kept is = record {
  right = right;
  seen = kept.seen ∙ is;
  known = let k : x.known ≡ t.degree + 1 = kept.known ∙ ap (λ n. n + 1) h.known in k ∙ sym next;
  unended = kept.end;
  builder = kept.called.builder ∙ h.builder;
  calls = omega (arith, kept.called.calls, h.calls, next);
  after = after-join v w x h.after (record { rules = kept.called.rules; builder = kept.called.builder; passes = kept.called.passes; shots = kept.shots });
}
