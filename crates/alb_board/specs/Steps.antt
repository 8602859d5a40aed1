-- What each kind of step tells the pass that makes it.
use Rattle.std.specs.Prelude.{◌≡◌, ◌≢◌, ℕ, true, false, ◌+◌, ◌≤◌, [], ◌∷◌, ◌++◌, Some, None}
use Rattle.std.specs.Option.{is_some}
use Rattle.atomic_table.specs.Table.{Step, rest}
use Rattle.alb_table.specs.declared.end.BuildEnd.{BuildEnd}
use Rattle.alb_board.specs.declared.kept.Published.{Published}
use Rattle.alb_board.specs.declared.kept.Shot.{Shot}
use Rattle.alb_board.specs.declared.kept.PassView.{PassView}
use Rattle.alb_board.specs.Published.{published, published_of, number_of, IsKeepable}
use Rattle.alb_board.specs.Views.{Slot, M}

-- a ticket was drawn, for one call more
abbrev pub draws : Step Slot → M → ℕ → M → Type 0
draws st me found me' = (me'.0 ≡ record me.0 { ticket = Some found; calls = me.0.calls + 1 }) × (me'.1 ≡ me.1)

-- what is known of the kept value `k` where a turn begins: it may be kept, and is not below what the pass has seen and knows.
-- The builder has seen it
pub record FindsShot (v : PassView) (h : Published) (k : Shot) : Type 0 where
  pub keepable : IsKeepable v.rules k
  pub published_is : published_of k ≡ h
  pub seen : v.seen ≤ h.degree
  pub known : v.known ≤ number_of h
  pub same_end : (e : BuildEnd) → v.end ≡ Some e → h ≡ published v.seen (Some e)
  pub builder : v.builder ≡ true → (v.known ≡ number_of h) × (v.seen ≡ h.degree) × (v.end ≡ h.end)

abbrev pub in_turn : PassView → Published → PassView
in_turn v h = record v { turn = true; counted = false; held = h }

-- where the own ticket is served the turn begins, and the pass holds the slot; else nothing changes
abbrev pub looks : Step Slot → M → ℕ → M → Type 0
looks st me found me' =
    (me.0.ticket ≡ Some found → (h : Published) × (k : Shot) × (me'.0 ≡ in_turn me.0 h) × (me'.1 ≡ (0, Some k) ∷ me.1) × FindsShot me.0 h k)
    × (me.0.ticket ≢ Some found → me' ≡ me)

-- the number of the kept value is known, and is not below the one that was
abbrev pub counts : Step Slot → M → ℕ → M → Type 0
counts st me found me' = (me'.0 ≡ record me.0 { known = found }) × (me'.1 ≡ me.1) × (me.0.known ≤ found)

-- in a turn it is the number of the value that was found
abbrev pub counts_in_turn : Step Slot → M → ℕ → M → Type 0
counts_in_turn st me found me' =
    (me'.0 ≡ record me.0 { known = found; counted = true }) × (me'.1 ≡ me.1) × (me.0.known ≤ found) × (found ≡ number_of me.0.held)

abbrev pub after_raise : PassView → Published → PassView
after_raise v h = record v { held = h; known = v.known + 1; seen = h.degree; end = h.end }

-- the value that lies in the slot is kept, and the builder has seen it
abbrev pub raises : Step Slot → M → ℕ → M → Type 0
raises st me found me' = (k : Shot) → me.1 ≡ (0, Some k) ∷ [] → (me'.0 ≡ after_raise me.0 (published_of k)) × (me'.1 ≡ me.1)

abbrev pub no_turn : PassView → PassView
no_turn v = record v { ticket = None; turn = false; counted = false }

abbrev pub after_shot : PassView → PassView
after_shot v = record (no_turn v) { seen = v.held.degree; end = v.held.end; shots = v.shots ++ (v.held.degree, is_some v.held.end) ∷ [] }

-- the turn ends, the slot is at home, and the pass has seen the value, by a shot
abbrev pub shows : Step Slot → M → ℕ → M → Type 0
shows st me found me' = (me'.0 ≡ after_shot me.0) × (me'.1 ≡ rest me.1)

-- the turn ends, and the slot is at home
abbrev pub leaves : Step Slot → M → ℕ → M → Type 0
leaves st me found me' = (me'.0 ≡ no_turn me.0) × (me'.1 ≡ rest me.1)

-- the pass holds the slot, with a value in it
abbrev pub HoldsShot : M → Type 0
HoldsShot me = (k : Shot) × (me.1 ≡ (0, Some k) ∷ [])

-- the pass has its turn by one call more, and holds the slot with the kept value
abbrev pub HasTurn : M → M → Type 0
HasTurn me me' =
    (n : ℕ) × (h : Published) × (k : Shot)
    × (me'.0 ≡ record (in_turn me.0 h) { ticket = Some n; calls = me.0.calls + 1 }) × (me'.1 ≡ (0, Some k) ∷ []) × FindsShot me.0 h k

-- in the slot that it holds is the value that it knows as the kept one
abbrev pub HoldsKept : M → Type 0
HoldsKept me = (k : Shot) × (me.1 ≡ (0, Some k) ∷ []) × IsKeepable me.0.rules k × (published_of k ≡ me.0.held)
