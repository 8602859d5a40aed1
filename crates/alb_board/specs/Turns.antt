-- The rule of a board, which holds between any two steps of any threads.
use Rattle.std.specs.Prelude.{◌≡◌, ◌⊎◌, ℕ, Bool, true, false, ◌+◌, ◌^◌, ◌<◌, ◌≤◌, List, [], ◌∷◌, length, slice_index, Some}
use Rattle.std.specs.List.{sum_by}
use mathlib.Core.Option.{some, none}
use lib.ListN.{get_elem?}
use Rattle.atomic_table.specs.Table.{State}
use Rattle.alb_poly.specs.declared.rules.Rules.{Rules}
use Rattle.alb_table.specs.declared.end.BuildEnd.{BuildEnd}
use Rattle.alb_board.specs.declared.kept.Published.{Published}
use Rattle.alb_board.specs.declared.kept.Shot.{Shot}
use Rattle.alb_board.specs.declared.kept.PassView.{PassView}
use Rattle.alb_board.specs.Published.{published, published_of, number_of, IsKeepable, IsPublishable}
use Rattle.alb_board.specs.Views.{Slot}

-- a board: its words, its slot, and what each pass knows
abbrev pub S : Type 0
S = State Slot PassView

-- the next ticket, the ticket that is served, and the number of the kept value
abbrev pub ticket : S → ℕ
ticket s = slice_index s.words 0

abbrev pub serving : S → ℕ
serving s = slice_index s.words 1

abbrev pub count : S → ℕ
count s = slice_index s.words 2

-- the pass at this seat knows this
abbrev pub Sits : List PassView → ℕ → PassView → Type 0
Sits views seat v = get_elem? views seat ≡ some v

-- the number of a shot in a list: its degree, and one more where it had an end
abbrev pub shot_number : ℕ × Bool → ℕ
shot_number (d, false) = d
shot_number (d, true) = d + 1

-- the numbers of shots never fall, from one number to another
abbrev pub RiseTo : ℕ → ℕ → List (ℕ × Bool) → Type 0
RiseTo from to [] = from ≤ to
RiseTo from to (x ∷ xs) = (from ≤ shot_number x) × RiseTo (shot_number x) to xs

-- What the pass at a seat knows, where `holder` tells the seat of each ticket from `now` to below `next`, and `kept` is kept, with
-- this number: its ticket; its turn; its calls; the builder; the greatest number; the end; its shots
pub record Knows (rules : Rules) (next now number : ℕ) (holder : ℕ → ℕ) (kept : Published) (seats seat : ℕ) (v : PassView) : Type 0 where
  pub own : v.rules ≡ rules
  pub queued : (n : ℕ) → v.ticket ≡ Some n → (now ≤ n) × (n < next) × (holder n ≡ seat)
  pub served : v.turn ≡ true → (v.ticket ≡ Some now) × (v.held ≡ kept)
  pub bounded : v.calls ≤ 2 ^ 48
  pub builds : v.builder ≡ true → (seat ≡ 0) × (v.passes ≡ seats) × (v.known ≡ number) × (v.seen ≡ kept.degree) × (v.end ≡ kept.end)
  pub known : v.known ≤ number
  pub counted : v.turn ≡ true → v.counted ≡ true → v.known ≡ number
  pub seen : v.seen ≤ kept.degree
  pub ended : (e : BuildEnd) → v.end ≡ Some e → kept ≡ published v.seen (Some e)
  pub shown : RiseTo 0 v.known v.shots

-- a pass has its turn, and the slot is out
abbrev pub IsOut : List (mathlib.Core.Option.Option Slot) → List PassView → Type 0
IsOut homes views = (seat : ℕ) × (v : PassView) × Sits views seat v × (v.turn ≡ true) × (get_elem? homes 0 ≡ some none)

-- no pass has its turn, and the slot is at home with the value that is kept
abbrev pub IsHome : Rules → Published → List (mathlib.Core.Option.Option Slot) → List PassView → Type 0
IsHome rules kept homes views =
    ((seat : ℕ) (v : PassView) → Sits views seat v → v.turn ≡ false)
    × ((k : Shot) × (get_elem? homes 0 ≡ some (some (Some k))) × IsKeepable rules k × (published_of k ≡ kept))

abbrev pub Guarded : Rules → Published → List (mathlib.Core.Option.Option Slot) → List PassView → Type 0
Guarded rules kept homes views = IsOut homes views ⊎ IsHome rules kept homes views

-- THE RULE: the tickets from the one that is served on are held by passes, each once; the tickets are as many as the calls; there
-- are at most 16 passes; the count word is the number of what is kept, which may be kept; each pass knows what is right; and the
-- slot is out exactly in a turn
pub record Turns (rules : Rules) (s : S) : Type 0 where
  pub holder : ℕ → ℕ
  pub kept : Published
  pub wide : length s.words ≡ 3
  pub deep : length s.homes ≡ 1
  pub order : serving s ≤ ticket s
  pub held : (n : ℕ) → serving s ≤ n → n < ticket s → (v : PassView) × Sits s.views (holder n) v × (v.ticket ≡ Some n)
  pub called : ticket s ≡ sum_by (λ (v : PassView). v.calls) s.views
  pub few : length s.views ≤ 16
  pub numbered : count s ≡ number_of kept
  pub publishable : IsPublishable rules kept
  pub each_seat : (seat : ℕ) (v : PassView) → Sits s.views seat v → Knows rules (ticket s) (serving s) (count s) holder kept (length s.views) seat v
  pub guarded : Guarded rules kept s.homes s.views
