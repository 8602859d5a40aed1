-- Runs of the machine.
use Rattle.std.specs.Prelude.{◌≡◌, ℕ, true, ◌==◌, List, [], ◌∷◌, ◌++◌, if◌then◌else◌}
use Rattle.alb_core.specs.declared.event.Event.{Event}
use Rattle.alb_core.specs.declared.event.Event.TheVariants.{Take, Give, Publish, Ask}
use Rattle.alb_core.specs.declared.event.Reply.{Reply}
use Rattle.alb_core.specs.Machine.{Machine, opened, is_enabled, after, reply_to}

-- A RUN from a state: each event is enabled where it comes
abbrev pub IsRun : Machine → List Event → Type 0
IsRun m [] = Unit {0}
IsRun m (e ∷ es) = (is_enabled m e ≡ true) × IsRun (after m e) es

-- the state after some events
abbrev pub run : Machine → List Event → Machine
run m [] = m
run m (e ∷ es) = run (after m e) es

-- who took the block since the last publication, in order. The list so far is `workers`
abbrev pub takers : ℕ → List ℕ → List Event → List ℕ
takers block workers [] = workers
takers block workers (Take worker b ∷ es) = takers block (if b == block then workers ++ worker ∷ [] else workers) es
takers block workers (Publish ∷ es) = takers block [] es
takers block workers (_ ∷ es) = takers block workers es

-- who gave it
abbrev pub givers : ℕ → List ℕ → List Event → List ℕ
givers block workers [] = workers
givers block workers (Give worker b ∷ es) = givers block (if b == block then workers ++ worker ∷ [] else workers) es
givers block workers (Publish ∷ es) = givers block [] es
givers block workers (_ ∷ es) = givers block workers es

-- the reply to a session that asks after some events
abbrev pub reply_after : List ℕ → List Event → ℕ → Reply
reply_after counts es session = reply_to (run (opened counts) es) (Ask session)
