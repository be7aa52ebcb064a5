use Rattle.std.proofs.Common.{◌≡◌, ◌+◌, length}
use denote.Shadow.{shadow}
use denote.Text.{Utf8}
use Rattle.rv_lex.specs.Lexes.{Leads}
use Rattle.rv_lex.proofs.lexer.tokens.Given as goal

abbrev pub invariant-words : goal.invariant-words
invariant-words l = Leads 0 l.text l.found l.place l.rest × (l.place + length l.rest ≡ length l.text) × shadow (Utf8 l.rest)

abbrev pub decreases-words : goal.decreases-words
decreases-words l = length l.rest
