-- The parameters and results of operations (ISO/IEC 8652:2012, 6.1).
use Rattle.std.specs.Prelude.{Bool, ◌&&◌, not, if◌then◌else◌, List, [], ◌∷◌, ◌++◌, Option, Some, None, is_some}
use Rattle.rv_tree.specs.Names.{Identifier, Name}
use Rattle.rv_tree.specs.Declarations as t
use Rattle.rv_tree.specs.declared.declaration.Mode.{Mode}
use Rattle.rv_tree.specs.declared.declaration.Mode.TheVariants as mode
use Rattle.rv_shape.specs.declared.kind.ParameterMode.{ParameterMode}
use Rattle.rv_shape.specs.declared.kind.ParameterMode.TheVariants as passed
use Rattle.rv_shape.specs.declared.kind.Parameter.{Parameter}
use Rattle.rv_shape.specs.declared.kind.Kind.{Kind}
use Rattle.rv_shape.specs.declared.kind.Kind.TheVariants.{Function, Procedure, Entry}
use Rattle.rv_shape.specs.declared.kind.Barrier.TheVariants.{AlwaysClosed}
use Rattle.rv_shape.specs.Forms.{is_in}
use Rattle.rv_shape.specs.Objects.{OperationShape}
use Rattle.rv_scope.specs.declared.declare.Form.TheVariants as f
use Rattle.rv_scope.specs.Scope.{ScopeView, declaring_all, hiding_all}
use Rattle.rv_scope.specs.DeclarationUses.{with_parameters}
use Rattle.rv_scope.specs.declared.declared.OperationKind.{OperationKind}
use Rattle.rv_scope.specs.declared.declared.OperationKind.TheVariants as kind
use Rattle.rv_scope.specs.Heads.{Head}
use Rattle.rv_static.specs.declared.meaning.Meaning.{Meaning}
use Rattle.rv_static.specs.Meanings.{range_in}
use Rattle.rv_static.specs.Static.{◌>>=◌}
use Rattle.rv_scope.specs.Statics.{Table, means}

-- how a parameter is passed; a mode that isn't written is `in`
abbrev pub passing : Mode → ParameterMode
passing mode.NotWritten = passed.In
passing mode.In = passed.In
passing mode.Out = passed.Out
passing mode.InOut = passed.InOut

-- one of these for each name, behind those that are there
abbrev pub for_each_name : {A : Type 0} → A → List Identifier → List A → List A
for_each_name a [] done = done
for_each_name a (i ∷ more) done = for_each_name a more (done ++ a ∷ [])

-- a parameter whose mark stands at this point; a function's are `in` (own)
abbrev pub parameter_of : Bool → Table → ScopeView → t.Parameter → Option Parameter
parameter_of of_function table scope p =
    if of_function && not (is_in (passing p.mode)) then None
    else (range_in (means scope table p.mark) >>= λ range. Some (record { mode = passing p.mode; range = range }))

-- the parameters behind those that are there; each is declared behind its own
abbrev pub parameters_onto : Bool → Table → ScopeView → List t.Parameter → List Parameter → Option (List Parameter)
parameters_onto of_function table scope [] done = Some done
parameters_onto of_function table scope (p ∷ more) done =
    parameter_of of_function table (hiding_all p.names scope) p >>= λ parameter.
    parameters_onto of_function table (declaring_all f.Parameter p.names (hiding_all p.names scope)) more
    (for_each_name parameter p.names done)

-- an operation of a name and a kind, and whether it stands before `private`
abbrev pub operation_of : Identifier → Kind → Bool → List Parameter → OperationShape
operation_of i kind is_visible parameters =
    record { name = i.text; kind = kind; parameters = parameters; is_visible = is_visible }

-- the kind of an operation, if no other is given to it: a function has the range of its mark, a procedure handles no line,
-- and an entry is closed
abbrev pub kind_in : (Name → Meaning) → OperationKind → Option Name → Option Kind
kind_in means of (Some mark) = range_in (means mark) >>= λ range. Some (Function range)
kind_in means kind.Entry None = Some (Entry AlwaysClosed)
kind_in means of None = Some Procedure

abbrev pub kind_of_head : (Name → Meaning) → Head → Option Kind
kind_of_head means head = kind_in means head.kind head.mark

-- an operation whose parameters are declared in the innermost region
abbrev pub operation_in : Table → ScopeView → Bool → Head → Option OperationShape
operation_in table scope is_visible head =
    parameters_onto (is_some head.mark) table scope head.parameters [] >>= λ all.
    kind_of_head (means (with_parameters head.parameters scope) table) head >>= λ found.
    Some (operation_of head.name found is_visible all)
