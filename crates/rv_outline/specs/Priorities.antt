-- The priorities that aspects and pragmas give (ISO/IEC 8652:2012, D.1, D.3).
use Rattle.std.specs.Prelude.{ℕ, codes, if◌then◌else◌, List, [], ◌∷◌, Option, Some, None}
use Rattle.rv_text.specs.Names.{is_same_name}
use Rattle.rv_text.specs.Numbers.{natural_part}
use Rattle.rv_tree.specs.Names.{Name}
use Rattle.rv_tree.specs.Expressions.{Expression}
use Rattle.rv_tree.specs.Declarations.{PragmaArgument}
use Rattle.rv_shape.specs.declared.kind.Range.{Range}
use Rattle.rv_shape.specs.Limits.{last_priority}
use Rattle.rv_static.specs.declared.meaning.Meaning.{Meaning}
use Rattle.rv_static.specs.Static.{◌>>=◌}
use Rattle.rv_static.specs.Ranges.{value_in}
use Rattle.rv_scope.specs.Statics.{any_priority_range, interrupt_priority_range}

-- the values that `Priority` or `Interrupt_Priority` takes (own)
abbrev pub range_of_priority : List ℕ → Range
range_of_priority name =
    if is_same_name name (codes "Interrupt_Priority") then interrupt_priority_range else any_priority_range

-- the priority that one of the two gives without a value: `Interrupt_Priority` the last one (D.1)
abbrev pub priority_alone : List ℕ → Option ℕ
priority_alone name = if is_same_name name (codes "Interrupt_Priority") then Some last_priority else None

-- the priority that it gives with a value
abbrev pub priority_with : (Name → Meaning) → List ℕ → Expression → Option ℕ
priority_with means name e = value_in means (range_of_priority name) e >>= λ value. Some (natural_part value)

-- the priority that an aspect gives
abbrev pub aspect_priority : (Name → Meaning) → List ℕ → Option Expression → Option ℕ
aspect_priority means name None = priority_alone name
aspect_priority means name (Some e) = priority_with means name e

-- the priority that a pragma gives: it has one argument, or none
abbrev pub pragma_priority : (Name → Meaning) → List ℕ → List PragmaArgument → Option ℕ
pragma_priority means name [] = priority_alone name
pragma_priority means name (argument ∷ []) = priority_with means name argument.value
pragma_priority means name arguments = None
