-- What threads begin with.
use Rattle.std.specs.Prelude.{◌≡◌, ◌+◌, true, None}
use Rattle.alb_board.specs.declared.rule.Board.{Board}
use Rattle.alb_board.specs.declared.rule.Pass.{Pass}
use Rattle.alb_board.specs.Passes.{board_rules, IsPassOf, pass_view}
use Rattle.alb_table.specs.RightTable.{rules_view, IsRightFor}
use Rattle.alb_table.specs.Table.{Table}

-- the builder's pass, before its first call
pub record IsOpening (board : Board) (pass : Pass) : Type 0 where
  pub own : IsPassOf board pass
  pub builder : (pass_view pass).builder ≡ true
  pub unended : (pass_view pass).end ≡ None
  pub calls : (pass_view pass).calls ≡ 0
  pub seen : (pass_view pass).seen ≡ 1

-- the builder's pass which has published this table, by one call for each degree above 1
pub record IsBuilder (board : Board) (pass : Pass) (t : Table) : Type 0 where
  pub own : IsPassOf board pass
  pub builder : (pass_view pass).builder ≡ true
  pub unended : (pass_view pass).end ≡ None
  pub calls : (pass_view pass).calls + 1 ≡ t.degree
  pub seen : (pass_view pass).seen ≡ t.degree
  pub right : IsRightFor (rules_view (board_rules board)) t

-- a session's pass, before its first call
pub record IsSession (board : Board) (pass : Pass) : Type 0 where
  pub own : IsPassOf board pass
  pub unended : (pass_view pass).end ≡ None
  pub calls : (pass_view pass).calls ≡ 0
