-- What the end of a body leaves (9.5.1, own).
use Rattle.std.specs.Prelude.{ℕ, ℤ, List, slice_get, ◌==◌, if◌then◌else◌}
use Rattle.std.specs.List.{filter}
use Rattle.rv_shape.specs.Shape.{Shape}
use Rattle.rv_event.specs.Past.{writes}
use Rattle.rv_event.specs.declared.entry.Body.{Body}
use Rattle.rv_event.specs.declared.entry.Entry.{Entry}
use Rattle.rv_event.specs.declared.entry.Entry.TheVariants.{Asked}
use Rattle.rv_event.specs.declared.entry.Request.TheVariants.{Complete}

-- the scalars of an object after an actor's end that gives these, with these bodies under way before it
abbrev pub left_by : List Shape → ℕ → List Body → ℕ → List ℤ → List ℤ → List ℤ
left_by shapes object bodies actor given before =
    if writes shapes object (slice_get (filter (λ body. body.actor == actor) bodies) 0) then given else before

-- the same after an entry
abbrev pub left_after : List Shape → ℕ → List Body → Entry → List ℤ → List ℤ
left_after shapes object bodies (Asked actor (Complete given exit) answer) before =
    left_by shapes object bodies actor given before
left_after shapes object bodies entry before = before
