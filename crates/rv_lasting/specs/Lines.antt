-- The line of a wait (own).
use Rattle.std.specs.Prelude.{ℕ, ◌-◌, List, [], ◌∷◌, ◌++◌, codes, Option, Some, None}
use Rattle.std.specs.Fmt.{decimal}
use Rattle.rv_shape.specs.Catalogue.{target, who}
use Rattle.rv_shape.specs.Printed.{actor_text, target_text}
use Rattle.rv_shape.specs.Shape.{Shape}
use Rattle.rv_event.specs.declared.entry.Next.{Next}
use Rattle.rv_event.specs.declared.entry.Next.TheVariants.{Nothing, HandedTo, Dropped}
use Rattle.rv_lasting.specs.declared.track.Begun.{Begun}

-- how an entry ends a wait
abbrev pub how : Next → List ℕ
how Nothing = codes "released"
how (HandedTo actor) = codes "handed over"
how (Dropped actor line) = codes "dropped"

abbrev pub end_text : Next → ℕ → List ℕ
end_text next number = how next ++ (codes " in entry " ++ decimal number)

-- a line: the entry and the tick where a wait began, who waited for what, how it ended, and how many ticks it took
abbrev pub wait_line : List Shape → Begun → List ℕ → ℕ → List ℕ
wait_line shapes it end tick =
    decimal it.number ++ (codes " tick " ++ (decimal it.tick ++ 32 ∷ (actor_text (who shapes it.call.actor)
    ++ (codes " call " ++ (target_text (target shapes it.call.object it.call.operation) ++ (codes " -> " ++ (end
    ++ (codes " after " ++ (decimal (tick - it.tick) ++ (codes " ticks" ++ 10 ∷ []))))))))))

-- that of a wait that ended, if one did
abbrev pub ended_line : List Shape → Next → ℕ → ℕ → Option Begun → List ℕ
ended_line shapes next number tick None = []
ended_line shapes next number tick (Some it) = wait_line shapes it (end_text next number) tick
