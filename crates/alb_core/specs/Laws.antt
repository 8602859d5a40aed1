-- Laws that functions of `laws` state.
use Rattle.std.specs.Prelude.{◌≡◌, ℕ, ◌<◌, ◌≤◌, List, [], ◌∷◌, ◌++◌, length}
use Rattle.alb_core.specs.declared.event.Ended.{Ended}
use Rattle.alb_core.specs.declared.event.Event.{Event}
use Rattle.alb_core.specs.declared.event.Event.TheVariants.{Publish, End}
use Rattle.alb_core.specs.declared.event.Reply.{Reply}
use Rattle.alb_core.specs.declared.event.Reply.TheVariants.{Nothing, Seen}
use Rattle.alb_core.specs.Machine.{opened}
use Rattle.alb_core.specs.Runs.{IsRun, run, takers, givers, reply_after}

-- since the last publication the block was taken once and given once, by one worker
pub record IsDoneOnce (block : ℕ) (events : List Event) : Type 0 where
  pub worker : ℕ
  pub taken : takers block [] events ≡ worker ∷ []
  pub given : givers block [] events ≡ worker ∷ []

-- at each publication of a run each block of the degree that is published was done once
abbrev pub EachBlockOnce : List ℕ → Type 0
EachBlockOnce counts = (before later : List Event) (block : ℕ) → IsRun (opened counts) (before ++ Publish ∷ later)
    → block < length (run (opened counts) before).cells → IsDoneOnce block before

-- the degree that a reply shows
abbrev pub degree_of : Reply → ℕ
degree_of Nothing = 0
degree_of (Seen degree ended) = degree

-- a session that asks later in a run is shown no lower degree
abbrev pub RepliesRise : List ℕ → Type 0
RepliesRise counts = (before later : List Event) (s t : ℕ) → IsRun (opened counts) (before ++ later)
    → degree_of (reply_after counts before s) ≤ degree_of (reply_after counts (before ++ later) t)

-- all who ask after an end was kept are shown this end, and the degree at which it was kept
abbrev pub EndIsFinal : List ℕ → Type 0
EndIsFinal counts = (before later : List Event) (end : Ended) (s : ℕ) → IsRun (opened counts) (before ++ End end ∷ later)
    → reply_after counts (before ++ End end ∷ later) s ≡ Seen (run (opened counts) before).degree end
