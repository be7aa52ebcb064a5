-- What a line asks: a request as a journal has it, where `delay until T` stands for `delay T` too, in Ada's words (9.6). (own)
use Rattle.std.specs.Prelude.{ℕ, ℤ, ◌&&◌, if◌then◌else◌, List, [], ◌∷◌, codes, Option, Some, None}
use Rattle.std.specs.Str.{bytes_eq}
use Rattle.rv_event.specs.Reading.{one_number, request_of}
use Rattle.rv_event.specs.declared.entry.Request.{Request}
use Rattle.rv_event.specs.declared.entry.Request.TheVariants.{DelayUntil}
use Rattle.rv_shape.specs.Shape.{Shape}

-- the words behind `delay until`
abbrev pub behind_until : List (List ℕ) → Option (List (List ℕ))
behind_until [] = None
behind_until (key ∷ []) = None
behind_until (key ∷ next ∷ words) = if bytes_eq key (codes "delay") && bytes_eq next (codes "until") then Some words else None

-- a delay until this time, if there is one
abbrev pub delay_of : Option ℤ → Option Request
delay_of None = None
delay_of (Some time) = Some (DelayUntil time)

-- what words ask, by those behind `delay until`, if they begin so
abbrev pub asked_by : List Shape → List (List ℕ) → Option (List (List ℕ)) → Option Request
asked_by shapes words (Some time) = delay_of (one_number time)
asked_by shapes words None = request_of shapes words

abbrev pub asked_of : List Shape → List (List ℕ) → Option Request
asked_of shapes words = asked_by shapes words (behind_until words)
