-- How long things lasted, by actor and object, as a review prints it (own).
use Rattle.std.specs.Prelude.{ℕ, zero, suc, ◌+◌, ◌==◌, List, [], ◌∷◌, ◌++◌, length, map, filter, codes, Option, Some, None}
use Rattle.rv_shape.specs.Catalogue.{UnitObject, all_objects, all_tasks, dotted, first_task, place, who}
use Rattle.rv_shape.specs.Fits.{object_name}
use Rattle.rv_shape.specs.Printed.{actor_text}
use Rattle.rv_shape.specs.Shape.{Shape}
use Rattle.rv_spans.specs.Spans.{ranks_text}
use Rattle.rv_lasting.specs.declared.track.Span.{Span}

-- those of an actor
abbrev pub of_actor : ℕ → List Span → List Span
of_actor actor spans = filter (λ span. span.actor == actor) spans

-- the ticks of those on an object
abbrev pub ticks_on : ℕ → List Span → List ℕ
ticks_on object spans = map (λ span. span.ticks) (filter (λ span. span.object == object) spans)

-- `Unit.Object`, and `-` where there is none
abbrev pub object_text : Option UnitObject → List ℕ
object_text None = codes "-"
object_text (Some at) = dotted at.unit (object_name at.object)

-- what lasted so long, of an actor on an object, if anything did
abbrev pub row : List ℕ → List Shape → ℕ → ℕ → List ℕ → List ℕ
row word shapes actor object [] = []
row word shapes actor object (ticks ∷ more) =
    word ++ 32 ∷ (actor_text (who shapes actor) ++ 32 ∷ (object_text (place shapes object)
    ++ 32 ∷ (ranks_text (ticks ∷ more) ++ 10 ∷ [])))

-- on the objects below a number
abbrev pub rows_on : List ℕ → List Shape → ℕ → List Span → ℕ → List ℕ
rows_on word shapes actor spans zero = []
rows_on word shapes actor spans (suc object) =
    rows_on word shapes actor spans object ++ row word shapes actor object (ticks_on object spans)

-- of the actors below a number
abbrev pub rows_of : List ℕ → List Shape → List Span → ℕ → List ℕ
rows_of word shapes spans zero = []
rows_of word shapes spans (suc actor) =
    rows_of word shapes spans actor ++ rows_on word shapes actor (of_actor actor spans) (suc (length (all_objects shapes)))

-- of all: the operator and the lines come before the tasks
abbrev pub rows : List ℕ → List Shape → List Span → List ℕ
rows word shapes spans = rows_of word shapes spans (first_task + length (all_tasks shapes))
