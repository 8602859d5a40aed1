-- The machine of a build: what workers, the builder and sessions may do, one event at a time.
use Rattle.std.specs.Prelude.{ℕ, Bool, ◌+◌, ◌==◌, ◌&&◌, true, false, List, length, Option, Some, slice_index, slice_get, slice_set, replicate, nat_lt}
use Rattle.std.specs.List.{list_all}
use Rattle.alb_core.specs.declared.event.Cell.{Cell}
use Rattle.alb_core.specs.declared.event.Cell.TheVariants.{Free, Taken, Done}
use Rattle.alb_core.specs.declared.event.Ended.{Ended}
use Rattle.alb_core.specs.declared.event.Ended.TheVariants.{Running, Complete, Stopped}
use Rattle.alb_core.specs.declared.event.Event.{Event}
use Rattle.alb_core.specs.declared.event.Event.TheVariants.{Take, Give, Publish, End, Ask}
use Rattle.alb_core.specs.declared.event.Reply.{Reply}
use Rattle.alb_core.specs.declared.event.Reply.TheVariants.{Nothing, Seen}

-- A state: how many blocks each degree has, from degree 1 on, up to the total degree; the published degree; whether the build has
-- ended; and the blocks of the next degree
pub record Machine : Type 0 where
  pub counts : List ℕ
  pub degree : ℕ
  pub ended : Ended
  pub cells : List Cell

abbrev pub machine : List ℕ → ℕ → Ended → List Cell → Machine
machine counts degree ended cells = record { counts = counts; degree = degree; ended = ended; cells = cells }

-- the first state: degree 1 is published, and the blocks of degree 2 are free
abbrev pub opened : List ℕ → Machine
opened counts = machine counts 1 Running (replicate (slice_index counts 1) Free)

-- no end is kept
abbrev pub is_running : Ended → Bool
is_running Running = true
is_running Complete = false
is_running Stopped = false

-- there is such a block, and it is free
abbrev pub is_free : Option Cell → Bool
is_free (Some Free) = true
is_free _ = false

-- there is such a block, and this worker has taken it
abbrev pub is_taken_by : ℕ → Option Cell → Bool
is_taken_by worker (Some (Taken w)) = w == worker
is_taken_by worker _ = false

abbrev pub is_done : Cell → Bool
is_done Done = true
is_done _ = false

abbrev pub all_done : List Cell → Bool
all_done cells = list_all is_done cells

-- a build ends so at this degree: complete at the total degree, and stopped below it
abbrev pub is_end_at : Ended → ℕ → ℕ → Bool
is_end_at Running degree total = false
is_end_at Complete degree total = degree == total
is_end_at Stopped degree total = nat_lt degree total

-- THE EVENTS THAT ARE ENABLED: but for a question none after an end. A worker takes a block that is free and gives one that it has
-- taken; a degree is published where all its blocks are done
abbrev pub is_enabled : Machine → Event → Bool
is_enabled m (Take worker block) = is_running m.ended && is_free (slice_get m.cells block)
is_enabled m (Give worker block) = is_running m.ended && is_taken_by worker (slice_get m.cells block)
is_enabled m Publish = is_running m.ended && nat_lt m.degree (length m.counts) && all_done m.cells
is_enabled m (End end) = is_running m.ended && is_end_at end m.degree (length m.counts)
is_enabled m (Ask session) = true

-- the state after an event
abbrev pub after : Machine → Event → Machine
after m (Take worker block) = machine m.counts m.degree m.ended (slice_set m.cells block (Taken worker))
after m (Give worker block) = machine m.counts m.degree m.ended (slice_set m.cells block Done)
after m Publish = machine m.counts (m.degree + 1) m.ended (replicate (slice_index m.counts (m.degree + 1)) Free)
after m (End end) = machine m.counts m.degree end m.cells
after m (Ask session) = m

-- what an event is answered by: a question by the published degree and the end
abbrev pub reply_to : Machine → Event → Reply
reply_to m (Ask session) = Seen m.degree m.ended
reply_to m _ = Nothing
