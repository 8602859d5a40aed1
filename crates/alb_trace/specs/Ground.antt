-- What a derivation is made from, as contracts see it.
use Rattle.alb_table.specs.RightTable.{rules_view, AreRules, IsRightFor}
use Rattle.alb_trace.specs.declared.ground.Ground.{Ground}

-- the rules are accepted, and the table is right for them
pub record IsGround (g : Ground) : Type 0 where
  pub rules : AreRules (rules_view g.rules.now)
  pub right : IsRightFor (rules_view g.rules.now) g.tables.now
