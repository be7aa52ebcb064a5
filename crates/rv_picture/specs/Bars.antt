-- What a timeline shows (own): bars, each from the entry that begins it to the one that ends it, and the entries that are its scale.
use Rattle.std.specs.Prelude.{ℕ, ◌-◌, ◌==◌, ◌&&◌, Bool, true, nat_le, List, [], filter, length, slice_get, Option, Some, None}
use Rattle.rv_picture.specs.declared.bar.Bar.{Bar}
use Rattle.rv_picture.specs.declared.bar.Frame.{Frame}
use Rattle.rv_picture.specs.declared.bar.Moment.{Moment}

-- an entry is not before the first one, where that is given
abbrev pub is_from : Option ℕ → ℕ → Bool
is_from None entry = true
is_from (Some first) entry = nat_le first entry

-- nor behind the last one
abbrev pub is_until : Option ℕ → ℕ → Bool
is_until None entry = true
is_until (Some last) entry = nat_le entry last

-- a bar is of an actor on an object
abbrev pub is_on : ℕ → ℕ → Bar → Bool
is_on actor object bar = (bar.begun.call.actor == actor) && (bar.begun.call.object == object)

-- it reaches over an entry: it began there or before, and hasn't ended before that
abbrev pub covers : ℕ → Bar → Bool
covers entry bar = nat_le bar.begun.number entry && is_until bar.last entry

-- it has a part between two entries
abbrev pub shows : ℕ → ℕ → Bar → Bool
shows first last bar = nat_le bar.begun.number last && is_until bar.last first

-- a frame shows an entry
abbrev pub has : Frame → ℕ → Bool
has frame entry = is_from frame.first entry && is_until frame.last entry

abbrev pub in_frame : Frame → List Moment → List Moment
in_frame frame moments = filter (λ moment. has frame moment.number) moments

-- the bars that have a part between two entries
abbrev pub showing : ℕ → ℕ → List Bar → List Bar
showing first last bars = filter (λ bar. shows first last bar) bars

-- between the first and the last of entries, if there are any
abbrev pub between : Option Moment → Option Moment → List Bar → List Bar
between None last bars = []
between (Some first) None bars = []
between (Some first) (Some last) bars = showing first.number last.number bars

abbrev pub within : List Moment → List Bar → List Bar
within moments bars = between (slice_get moments 0) (slice_get moments (length moments - 1)) bars

-- those of an actor
abbrev pub of_actor : ℕ → List Bar → List Bar
of_actor actor bars = filter (λ bar. bar.begun.call.actor == actor) bars

-- of a lane, which is an actor on an object
abbrev pub of_lane : ℕ → ℕ → List Bar → List Bar
of_lane actor object bars = filter (λ bar. is_on actor object bar) bars
