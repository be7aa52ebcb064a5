-- The word at the front of a text.
use Rattle.std.specs.Prelude.{ℕ, ◌+◌, Bool, not, ◌&&◌, ◌||◌, ◌==◌, if◌then◌else◌, nat_le, nat_lt, take, drop, slice_index, unwrap_or, Result, Ok, Err}
use Rattle.std.specs.Char.{is_ascii_digit, is_ascii_alphabetic}
use Rattle.std.specs.Option.{option_map_or}
use Rattle.rv_lex.specs.declared.kind.Kind.{Kind}
use Rattle.rv_lex.specs.declared.kind.Kind.TheVariants as k
use Rattle.rv_lex.specs.declared.fault.WordFault.{WordFault}
use Rattle.rv_lex.specs.declared.fault.WordFault.TheVariants.{BadCharacter, BadLiteral, BadIdentifier, NotAscii}
use Rattle.rv_lex.specs.Kinds.{Text, reserved, compound, simple, kind_spelled}
use Rattle.rv_lex.specs.Characters.{run, is_spaced}
use Rattle.rv_lex.specs.Literals.{is_literal}

-- an identifier or a reserved word: of its letters, digits and underscores, all of which belong to it;
-- at most 64, with single underscores between (2.3, 2.9)
unfoldable pub identifier : Text → Result (Kind × ℕ) WordFault
identifier z =
    let text = take (run z) z in
    if nat_le (run z) 64 && is_spaced text then Ok (unwrap_or (kind_spelled reserved text) k.Identifier, run z)
    else Err BadIdentifier

-- how far the characters of a literal go: through its letters, digits and underscores, and where a
-- number sign follows, through those that follow that and the second number sign (2.4)
unfoldable pub literal_len : Text → ℕ
literal_len z =
    if slice_index z (run z) == 35 then (
    let end = run z + 1 + run (drop (run z + 1) z) in if slice_index z end == 35 then end + 1 else end)
    else run z

-- a letter, or the point and digit of a fraction, which may not follow a literal directly (own; Ada
-- has real literals too)
abbrev pub goes_on : Text → Bool
goes_on z = is_ascii_alphabetic (slice_index z 0) || (slice_index z 0 == 46 && is_ascii_digit (slice_index z 1))

-- a literal
unfoldable pub literal : Text → Result (Kind × ℕ) WordFault
literal z =
    let len = literal_len z in
    if is_literal (take len z) && not (goes_on (drop len z)) then Ok (k.Literal, len) else Err BadLiteral

-- a delimiter, of two characters where they are one; `**` is none here (2.2)
unfoldable pub delimiter : Text → Result (Kind × ℕ) WordFault
delimiter z =
    if slice_index z 0 == 42 && slice_index z 1 == 42 then Err BadCharacter
    else option_map_or (λ kind. Ok (kind, 2)) (kind_spelled compound (take 2 z)) (
    option_map_or (λ kind. Ok (kind, 1)) (kind_spelled simple (take 1 z)) (
    Err (if nat_lt (slice_index z 0) 128 then BadCharacter else NotAscii)))

-- the kind and the length of the word at the front of a text that begins with no gap, or its fault
unfoldable pub word : Text → Result (Kind × ℕ) WordFault
word z =
    if is_ascii_alphabetic (slice_index z 0) then identifier z
    else (if is_ascii_digit (slice_index z 0) then literal z else delimiter z)
