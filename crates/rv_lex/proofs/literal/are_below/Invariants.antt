use Rattle.std.proofs.Common.{◌≡◌, ◌==◌, ◌||◌, nat_lt, drop}
use Rattle.std.specs.List.{list_all}
use Rattle.std.specs.Char.{digit_value}
use Rattle.rv_lex.proofs.literal.are_below.Given as goal

abbrev pub invariant-loop-b : goal.invariant-loop-b
invariant-loop-b l =
    list_all (λ b. b == 95 || nat_lt (digit_value b) l.base) (drop l.b-index l.text)
    ≡ list_all (λ b. b == 95 || nat_lt (digit_value b) l.base) l.text
