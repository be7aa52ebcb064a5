-- Whole literals and their values (2.4).
use Rattle.std.specs.Prelude.{ℕ, ◌+◌, ◌-◌, ◌*◌, Bool, not, ◌&&◌, ◌||◌, ◌==◌, if◌then◌else◌, nat_le, nat_lt, min, length, take, drop, fold, slice_index}
use Rattle.std.specs.List.{prefix_len, list_all}
use Rattle.std.specs.Char.{is_ascii_alphanumeric, digit_value}
use Rattle.rv_lex.specs.Kinds.{Text}
use Rattle.rv_lex.specs.Characters.{is_spaced}

-- the number that the digits and letters write in a base; it stops growing at 2147483648
unfoldable pub number : ℕ → Text → ℕ
number base = fold (λ n b. if is_ascii_alphanumeric b then min (base * n + digit_value b) 2147483648 else n) 0

-- where the first number sign stands, or the text's length
unfoldable pub sign_place : Text → ℕ
sign_place w = prefix_len (λ b. not (b == 35)) w

-- the value of a literal, plain or based; 2147483648 where it is greater (2.4.1, 2.4.2)
unfoldable pub value_of : Text → ℕ
value_of w =
    let sign = sign_place w in
    if sign == length w then number 10 w else number (number 10 (take sign w)) (drop sign w)

-- digits below the base, with single underscores between
unfoldable pub are_digits : ℕ → Text → Bool
are_digits base w = is_spaced w && list_all (λ b. b == 95 || nat_lt (digit_value b) base) w

-- a base from 2 to 16
unfoldable pub is_base : Text → Bool
is_base w = are_digits 10 w && nat_le 2 (number 10 w) && nat_le (number 10 w) 16

-- `digits#`, what follows the first number sign of a based literal (2.4.2)
unfoldable pub is_signed_end : ℕ → Text → Bool
is_signed_end base w = slice_index w (length w - 1) == 35 && are_digits base (take (length w - 1) w)

-- a literal: digits with single underscores between, or `base#digits#`; at most 2147483647 (2.4)
unfoldable pub is_literal : Text → Bool
is_literal w =
    let sign = sign_place w in
    nat_lt (value_of w) 2147483648 && (
    if sign == length w then are_digits 10 w
    else is_base (take sign w) && is_signed_end (number 10 (take sign w)) (drop (sign + 1) w))
