-- How the reserved words and the delimiters are spelled.
use Rattle.std.specs.Prelude.{ℕ, ◌==◌, List, [], ◌∷◌, map, Option, None, Some, if◌then◌else◌, codes}
use Rattle.std.specs.Str.{str_eq_ignore_ascii_case}
use Rattle.rv_lex.specs.declared.kind.Kind.{Kind}
use Rattle.rv_lex.specs.declared.kind.Kind.TheVariants as k

abbrev pub Text : Type 0
Text = List ℕ

-- a word's spelling in small letters; identifiers and literals have none of their own (2.2, 2.9)
unfoldable pub spelling : Kind → Text
spelling k.Identifier = []
spelling k.Literal = []
spelling k.LeftParenthesis = codes "("
spelling k.RightParenthesis = codes ")"
spelling k.Comma = codes ","
spelling k.Semicolon = codes ";"
spelling k.Colon = codes ":"
spelling k.Dot = codes "."
spelling k.Apostrophe = codes "'"
spelling k.Plus = codes "+"
spelling k.Minus = codes "-"
spelling k.Times = codes "*"
spelling k.Divide = codes "/"
spelling k.Equal = codes "="
spelling k.Less = codes "<"
spelling k.Greater = codes ">"
spelling k.Bar = codes "|"
spelling k.Becomes = codes ":="
spelling k.Arrow = codes "=>"
spelling k.DoubleDot = codes ".."
spelling k.NotEqual = codes "/="
spelling k.LessEqual = codes "<="
spelling k.GreaterEqual = codes ">="
spelling k.Abort = codes "abort"
spelling k.Abs = codes "abs"
spelling k.Abstract = codes "abstract"
spelling k.Accept = codes "accept"
spelling k.Access = codes "access"
spelling k.Aliased = codes "aliased"
spelling k.All = codes "all"
spelling k.And = codes "and"
spelling k.Array = codes "array"
spelling k.At = codes "at"
spelling k.Begin = codes "begin"
spelling k.Body = codes "body"
spelling k.Case = codes "case"
spelling k.Constant = codes "constant"
spelling k.Declare = codes "declare"
spelling k.Delay = codes "delay"
spelling k.Delta = codes "delta"
spelling k.Digits = codes "digits"
spelling k.Do = codes "do"
spelling k.Else = codes "else"
spelling k.Elsif = codes "elsif"
spelling k.End = codes "end"
spelling k.Entry = codes "entry"
spelling k.Exception = codes "exception"
spelling k.Exit = codes "exit"
spelling k.For = codes "for"
spelling k.Function = codes "function"
spelling k.Generic = codes "generic"
spelling k.Goto = codes "goto"
spelling k.If = codes "if"
spelling k.In = codes "in"
spelling k.Interface = codes "interface"
spelling k.Is = codes "is"
spelling k.Limited = codes "limited"
spelling k.Loop = codes "loop"
spelling k.Mod = codes "mod"
spelling k.New = codes "new"
spelling k.Not = codes "not"
spelling k.Null = codes "null"
spelling k.Of = codes "of"
spelling k.Or = codes "or"
spelling k.Others = codes "others"
spelling k.Out = codes "out"
spelling k.Overriding = codes "overriding"
spelling k.Package = codes "package"
spelling k.Pragma = codes "pragma"
spelling k.Private = codes "private"
spelling k.Procedure = codes "procedure"
spelling k.Protected = codes "protected"
spelling k.Raise = codes "raise"
spelling k.Range = codes "range"
spelling k.Record = codes "record"
spelling k.Rem = codes "rem"
spelling k.Renames = codes "renames"
spelling k.Requeue = codes "requeue"
spelling k.Return = codes "return"
spelling k.Reverse = codes "reverse"
spelling k.Select = codes "select"
spelling k.Separate = codes "separate"
spelling k.Some = codes "some"
spelling k.Subtype = codes "subtype"
spelling k.Synchronized = codes "synchronized"
spelling k.Tagged = codes "tagged"
spelling k.Task = codes "task"
spelling k.Terminate = codes "terminate"
spelling k.Then = codes "then"
spelling k.Type = codes "type"
spelling k.Until = codes "until"
spelling k.Use = codes "use"
spelling k.When = codes "when"
spelling k.While = codes "while"
spelling k.With = codes "with"
spelling k.Xor = codes "xor"

-- the 73 reserved words (2.9)
unfoldable pub reserved : List Kind
reserved =
    k.Abort ∷ k.Abs ∷ k.Abstract ∷ k.Accept ∷ k.Access ∷ k.Aliased ∷ k.All ∷ k.And ∷ k.Array ∷
    k.At ∷ k.Begin ∷ k.Body ∷ k.Case ∷ k.Constant ∷ k.Declare ∷ k.Delay ∷ k.Delta ∷ k.Digits ∷
    k.Do ∷ k.Else ∷ k.Elsif ∷ k.End ∷ k.Entry ∷ k.Exception ∷ k.Exit ∷ k.For ∷ k.Function ∷
    k.Generic ∷ k.Goto ∷ k.If ∷ k.In ∷ k.Interface ∷ k.Is ∷ k.Limited ∷ k.Loop ∷ k.Mod ∷ k.New ∷
    k.Not ∷ k.Null ∷ k.Of ∷ k.Or ∷ k.Others ∷ k.Out ∷ k.Overriding ∷ k.Package ∷ k.Pragma ∷
    k.Private ∷ k.Procedure ∷ k.Protected ∷ k.Raise ∷ k.Range ∷ k.Record ∷ k.Rem ∷ k.Renames ∷
    k.Requeue ∷ k.Return ∷ k.Reverse ∷ k.Select ∷ k.Separate ∷ k.Some ∷ k.Subtype ∷
    k.Synchronized ∷ k.Tagged ∷ k.Task ∷ k.Terminate ∷ k.Then ∷ k.Type ∷ k.Until ∷ k.Use ∷
    k.When ∷ k.While ∷ k.With ∷ k.Xor ∷ []

-- the delimiters of two characters (2.2)
unfoldable pub compound : List Kind
compound = k.Becomes ∷ k.Arrow ∷ k.DoubleDot ∷ k.NotEqual ∷ k.LessEqual ∷ k.GreaterEqual ∷ []

-- the delimiters of one character (2.2)
unfoldable pub simple : List Kind
simple =
    k.LeftParenthesis ∷ k.RightParenthesis ∷ k.Comma ∷ k.Semicolon ∷ k.Colon ∷ k.Dot ∷
    k.Apostrophe ∷ k.Plus ∷ k.Minus ∷ k.Times ∷ k.Divide ∷ k.Equal ∷ k.Less ∷ k.Greater ∷ k.Bar ∷ []

-- the kind of the first entry that is spelled so, upper case being the same as lower case (2.3)
abbrev pub kind_in : List (Text × Kind) → Text → Option Kind
kind_in [] text = None
kind_in (entry ∷ entries) text =
    if str_eq_ignore_ascii_case text entry.0 then Some entry.1 else kind_in entries text

-- the same, of the entries in the first section of a letter
abbrev pub kind_by_letter : List (ℕ × List (Text × Kind)) → ℕ → Text → Option Kind
kind_by_letter [] letter text = None
kind_by_letter (section ∷ sections) letter text =
    if section.0 == letter then kind_in section.1 text else kind_by_letter sections letter text

unfoldable pub kind_in_section : List (ℕ × List (Text × Kind)) → ℕ → Text → Option Kind
kind_in_section sections letter text = kind_by_letter sections letter text

-- the kind among these that is spelled so
unfoldable pub kind_spelled : List Kind → Text → Option Kind
kind_spelled kinds = kind_in (map (λ kind. (spelling kind, kind)) kinds)
