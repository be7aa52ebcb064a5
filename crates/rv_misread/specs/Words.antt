-- Why the front of a text is no name, or no number (own).
use Rattle.std.specs.Prelude.{◌≡◌, ℕ, ◌+◌, ◌==◌, ◌||◌, Bool, true, false, nat_lt, take, slice_index}
use Rattle.std.specs.List.{list_all}
use Rattle.std.specs.Char.{digit_value, is_ascii_digit}
use Rattle.rv_lex.specs.Kinds.{Text}
use Rattle.rv_lex.specs.Characters.{run, is_spaced}
use Rattle.rv_lex.specs.declared.fault.WordFault.{WordFault}
use Rattle.rv_lex.specs.declared.fault.WordFault.TheVariants.{BadLiteral, BadIdentifier}
use Rattle.rv_misread.specs.declared.words.NameReason.{NameReason}
use Rattle.rv_misread.specs.declared.words.NameReason.TheVariants as name
use Rattle.rv_misread.specs.declared.words.NumberReason.{NumberReason}
use Rattle.rv_misread.specs.declared.words.NumberReason.TheVariants as number

-- the faults that the reader of words tells
abbrev pub name_fault : NameReason → WordFault
name_fault reason = BadIdentifier

abbrev pub number_fault : NumberReason → WordFault
number_fault reason = BadLiteral

-- the letters, digits and underscores at the front
abbrev pub front_run : Text → Text
front_run text = take (run text) text

-- digits below a base, and underscores, alone
abbrev pub are_below : ℕ → Text → Bool
are_below base word = list_all (λ byte. byte == 95 || nat_lt (digit_value byte) base) word

-- what a reason says of a text whose front is no name
abbrev pub NameSays : NameReason → Text → Type 0
NameSays name.StrayUnderscore text = is_spaced (front_run text) ≡ false
NameSays name.TooLong text = nat_lt 64 (run text) ≡ true

-- what a reason says of a text whose front is no number
abbrev pub NumberSays : NumberReason → Text → Type 0
NumberSays number.NotBased text = slice_index text (run text) ≡ 35
NumberSays number.Fraction text = (slice_index text (run text) ≡ 46) × (is_ascii_digit (slice_index text (run text + 1)) ≡ true)
NumberSays number.StrayUnderscore text = is_spaced (front_run text) ≡ false
NumberSays number.TooGreat text = are_below 10 (front_run text) ≡ true
NumberSays number.Exponent text = are_below 10 (front_run text) ≡ false
NumberSays number.Letter text = are_below 10 (front_run text) ≡ false
