-- What a bar of a timeline stands for, in words (own).
use Rattle.std.specs.Prelude.{ℕ, List, [], ◌∷◌, ◌++◌, codes, Option, Some, None}
use Rattle.std.specs.Fmt.{decimal}
use Rattle.rv_shape.specs.Catalogue.{Nowhere, OnProtected, OnSuspension, Target, Who, target, who}
use Rattle.rv_shape.specs.Printed.{actor_text, target_text}
use Rattle.rv_shape.specs.Shape.{Shape}
use Rattle.rv_picture.specs.declared.bar.Bar.{Bar}
use Rattle.rv_picture.specs.declared.bar.Kind.{Kind}
use Rattle.rv_picture.specs.declared.bar.Kind.TheVariants.{Wait, Body, Delay, Refused}

abbrev pub was_at : Kind → List ℕ
was_at Wait = codes "waits for"
was_at Body = codes "is in"
was_at Delay = codes "is delayed"
was_at Refused = codes "is refused"

-- what is called, behind a space, if something is
abbrev pub callee_text : Target → List ℕ
callee_text Nowhere = []
callee_text (OnProtected site) = 32 ∷ target_text (OnProtected site)
callee_text (OnSuspension unit object operation) = 32 ∷ target_text (OnSuspension unit object operation)

-- the entry and the tick where a bar ends, if it does
abbrev pub end_text : Option ℕ → ℕ → List ℕ
end_text None tick = codes ", and lasts"
end_text (Some last) tick = codes ", to entry " ++ (decimal last ++ (codes ", tick " ++ decimal tick))

-- where it begins, and what follows; the tick of a delay is its time
abbrev pub span_text : Kind → ℕ → ℕ → List ℕ → List ℕ
span_text Refused number tick end = codes "at entry " ++ (decimal number ++ (codes ", tick " ++ decimal tick))
span_text Delay number tick end = codes "until tick " ++ (decimal tick ++ (codes ", from entry " ++ (decimal number ++ end)))
span_text Wait number tick end = codes "from entry " ++ (decimal number ++ (codes ", tick " ++ (decimal tick ++ end)))
span_text Body number tick end = codes "from entry " ++ (decimal number ++ (codes ", tick " ++ (decimal tick ++ end)))

abbrev pub extent_text : Bar → List ℕ
extent_text bar = span_text bar.kind bar.begun.number bar.begun.tick (end_text bar.last bar.to)

abbrev pub words_text : Who → Kind → List ℕ → List ℕ → List ℕ
words_text who kind called extent = actor_text who ++ 32 ∷ (was_at kind ++ (called ++ (codes ", " ++ extent)))

-- whose a bar is, what that actor was at, and over which entries and ticks
abbrev pub title : List Shape → Bar → List ℕ
title shapes bar =
    words_text (who shapes bar.begun.call.actor) bar.kind (callee_text (target shapes bar.begun.call.object bar.begun.call.operation))
    (extent_text bar)
