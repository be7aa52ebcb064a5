-- The lines that handlers are attached to (ISO/IEC 8652:2012, C.3.1, C.3.2).
use Rattle.std.specs.Prelude.{ℕ, ◌&&◌, not, is_some, if◌then◌else◌, List, [], ◌∷◌, Option, Some, None, slice_get}
use Rattle.rv_tree.specs.Expressions.{Expression, name, parenthesized}
use Rattle.rv_tree.specs.Declarations.{PragmaArgument}
use Rattle.rv_shape.specs.Forms.{are_none}
use Rattle.rv_scope.specs.declared.declared.Declared.{Declared}
use Rattle.rv_scope.specs.declared.declared.Declared.TheVariants as d
use Rattle.rv_scope.specs.declared.declared.OperationKind.TheVariants as kind
use Rattle.rv_scope.specs.declared.predefined.Predefined.TheVariants as p
use Rattle.rv_scope.specs.Scope.{ScopeView}
use Rattle.rv_scope.specs.Visible.{visible}
use Rattle.rv_static.specs.Static.{◌>>=◌}
use Rattle.rv_scope.specs.declared.known.Known.{Known}
use Rattle.rv_scope.specs.declared.known.Known.TheVariants as k
use Rattle.rv_outline.specs.declared.draft.OperationDraft.{OperationDraft}
use Rattle.rv_outline.specs.declared.handler.Attachment.{Attachment}
use Rattle.rv_scope.specs.ByPlace.{at_place}
use Rattle.rv_outline.specs.Drafts.{Draft}

-- the line that a declaration is: one of Ada.Interrupts.Names
abbrev pub line_in : Option Declared → Option ℕ
line_in (Some (d.Predefined (p.Line line))) = Some line
line_in other = None

-- the line of an expression, which is its name
abbrev pub line_of : ScopeView → Expression → Option ℕ
line_of scope (name n) = line_in (visible scope n)
line_of scope (parenthesized at e) = line_of scope e
line_of scope other = None

-- the line that an aspect gives
abbrev pub aspect_line : ScopeView → Option Expression → Option ℕ
aspect_line scope None = None
aspect_line scope (Some e) = line_of scope e

-- the place of the procedure of the protected unit around the point that an expression names
abbrev pub procedure_in : Option Declared → Option ℕ
procedure_in (Some (d.Operation at kind.Procedure)) = Some at
procedure_in other = None

abbrev pub procedure_named : ScopeView → Expression → Option ℕ
procedure_named scope (name n) = procedure_in (visible scope n)
procedure_named scope other = None

-- the index of an operation
abbrev pub operation_index : Option Known → Option ℕ
operation_index (Some (k.Operation unit index)) = Some index
operation_index other = None

-- the operation of a place, of the protected unit that is being declared
abbrev pub operation_at : Draft → ℕ → Option OperationDraft
operation_at draft at = operation_index (at_place draft.known at) >>= λ index. slice_get draft.current.operations index

-- a procedure without parameters that handles no line yet: its place
abbrev pub unattached : Draft → ℕ → OperationDraft → Option ℕ
unattached draft at found =
    if are_none found.operation.parameters && not (is_some (at_place draft.kinds at)) then Some at else None

-- the procedure that an expression names, if a line can be given to it: its place
abbrev pub handler_named : ScopeView → Draft → Expression → Option ℕ
handler_named scope draft e =
    procedure_named scope e >>= λ at. operation_at draft at >>= λ found. unattached draft at found

-- what `Attach_Handler (Procedure, Line)` attaches
abbrev pub attachment : ScopeView → Draft → List PragmaArgument → Option Attachment
attachment scope draft (procedure ∷ line ∷ []) =
    handler_named scope draft procedure.value >>= λ at.
    line_of scope line.value >>= λ number. Some (record { at = at; line = number })
attachment scope draft other = None
