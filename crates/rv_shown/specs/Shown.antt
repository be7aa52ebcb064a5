-- Which characters are shown as they stand (own).
use Rattle.std.specs.Prelude.{ℕ, Bool, ◌==◌, ◌&&◌, ◌||◌, not, nat_le, nat_lt}

abbrev pub is_between : ℕ → ℕ → ℕ → Bool
is_between low code high = nat_le low code && nat_le code high

-- a control but for the tab (ECMA-48)
abbrev pub is_control : ℕ → Bool
is_control code = (not (code == 9) && nat_lt code 32) || is_between 127 code 159

-- what sets a direction, or takes no room of its own (Unicode, general category Cf, and the separators of lines)
abbrev pub is_hidden : ℕ → Bool
is_hidden code = code == 173 || code == 1564 || code == 6158 || is_between 8203 code 8207 || is_between 8232 code 8238
    || is_between 8288 code 8303 || code == 65279 || is_between 65529 code 65531 || is_between 917504 code 917631

-- neither
abbrev pub is_plain : ℕ → Bool
is_plain code = not (is_control code) && not (is_hidden code)
