-- Where the text of a unit has the body of an operation (9.4, 9.5.1, 9.5.2).
use Rattle.std.specs.Prelude.{ℕ, suc, ◌==◌, Bool, true, false, ◌&&◌, if◌then◌else◌, List, [], ◌∷◌, ◌++◌, codes, Option, Some, None}
use Rattle.std.specs.Fmt.{decimal}
use Rattle.std.specs.List.{before_first, count_by}
use Rattle.std.specs.Str.Lines.{strip_carriage_return}
use Rattle.rv_text.specs.Names.{is_same_name}
use Rattle.rv_lex.specs.Lexes.{Lexeme}
use Rattle.rv_lex.specs.declared.kind.Kind.{Kind}
use Rattle.rv_lex.specs.declared.kind.Kind.TheVariants as Kinds

abbrev pub is_package : Kind → Bool
is_package Kinds.Package = true
is_package kind = false

abbrev pub is_body : Kind → Bool
is_body Kinds.Body = true
is_body kind = false

abbrev pub is_protected : Kind → Bool
is_protected Kinds.Protected = true
is_protected kind = false

-- the word with which the body of an operation begins
abbrev pub begins_operation : Kind → Bool
begins_operation Kinds.Procedure = true
begins_operation Kinds.Function = true
begins_operation Kinds.Entry = true
begins_operation kind = false

-- the first of words is this name
abbrev pub is_named : List ℕ → List Lexeme → Bool
is_named name [] = false
is_named name (word ∷ words) = is_same_name word.text name

-- the package that words declare is of this name (7.1)
abbrev pub declares : List ℕ → List Lexeme → Bool
declares unit [] = false
declares unit (word ∷ words) = if is_package word.kind then is_named unit words else declares unit words

-- words go on with `body` and this name
abbrev pub is_body_of : List ℕ → List Lexeme → Bool
is_body_of object [] = false
is_body_of object (word ∷ words) = is_body word.kind && is_named object words

-- where the first operation of this name begins, before the next protected unit
abbrev pub operation_place : List ℕ → List Lexeme → Option ℕ
operation_place operation [] = None
operation_place operation (word ∷ words) =
    if is_protected word.kind then None
    else if begins_operation word.kind && is_named operation words then Some word.place
    else operation_place operation words

-- where the body of an operation of an object begins, by the words of the text
abbrev pub body_place : List ℕ → List ℕ → List Lexeme → Option ℕ
body_place object operation [] = None
body_place object operation (word ∷ words) =
    if is_protected word.kind && is_body_of object words then operation_place operation words
    else body_place object operation words

-- of an operation of a unit
abbrev pub place_in : List ℕ → List ℕ → List ℕ → List Lexeme → Option ℕ
place_in unit object operation words = if declares unit words then body_place object operation words else None

abbrev pub is_feed : ℕ → Bool
is_feed byte = byte == 10

-- which line of a text stands behind this front of it, from 1
abbrev pub line_number : List ℕ → ℕ
line_number front = suc (count_by is_feed front)

abbrev pub first_line : List ℕ → List ℕ
first_line text = strip_carriage_return (before_first is_feed text)

-- what is told of a body in a line of this number of the text of a unit, of these words
abbrev pub number_line : ℕ → List ℕ → List ℕ → List ℕ
number_line number unit line =
    codes "its body stands in line " ++ (decimal number ++ (codes " of the text of " ++ (unit ++ (codes ": " ++ (line ++ 10 ∷ [])))))

-- of one before which the text has this front, and from which on it has this rest
abbrev pub place_line : List ℕ → List ℕ → List ℕ → List ℕ
place_line unit front rest = number_line (line_number front) unit (first_line rest)
