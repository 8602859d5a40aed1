-- What new passes know, and passes between two calls.
use Rattle.std.specs.Prelude.{◌≡◌, true, false, [], Option, None}
use Rattle.atomic_table.specs.Table.{Me}
use Rattle.alb_poly.specs.declared.rules.Rules.{Rules}
use Rattle.alb_board.specs.declared.kept.Shot.{Shot}
use Rattle.alb_board.specs.declared.kept.PassView.{PassView}
use Rattle.alb_board.specs.Published.{published}

-- the pass with which a board is opened, the builder's: it has seen degree 1 and no end, and knows the number 1
abbrev pub first_view : Rules → PassView
first_view rules = record {
  rules = rules;
  ticket = None;
  turn = false;
  counted = false;
  held = published 0 None;
  calls = 0;
  builder = true;
  passes = 1;
  seen = 1;
  end = None;
  known = 1;
  shots = [];
}

-- a pass that is split off: it has seen and knows what this one has, was given no shot and has made no call
abbrev pub split_view : PassView → PassView
split_view v = record {
  rules = v.rules;
  ticket = None;
  turn = false;
  counted = false;
  held = published 0 None;
  calls = 0;
  builder = false;
  passes = 0;
  seen = v.seen;
  end = v.end;
  known = v.known;
  shots = [];
}

-- what the slot has: `None` while the value is in the hand of the pass that has its turn
abbrev pub Slot : Type 0
Slot = Option Shot

-- a pass: what it knows, and the slots that it holds, each with what is in it
abbrev pub M : Type 0
M = Me Slot PassView

-- between two calls a pass has no ticket, no turn and no slot
abbrev pub HasNoTurn : M → Type 0
HasNoTurn me = (me.0.ticket ≡ None) × (me.0.turn ≡ false) × (me.1 ≡ [])
