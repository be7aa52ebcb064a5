-- Texts one behind another.
use Rattle.std.proofs.Common.{◌≡◌, ℕ, List, ◌++◌, ap, ◌∙◌, append_assoc}

abbrev Text : Type 0
Text = List ℕ

pub two_put : (old one two a b : Text) → one ≡ old ++ a → two ≡ one ++ b → two ≡ old ++ (a ++ b)
two_put old one two a b one_is two_is =
    two_is ∙ ap (λ (t : Text). t ++ b) one_is ∙ append_assoc old a b

pub three_put : (old one two three a b c : Text) → one ≡ old ++ a → two ≡ one ++ b → three ≡ two ++ c → three ≡ old ++ (a ++ (b ++ c))
three_put old one two three a b c one_is two_is three_is =
    two_put old one three a (b ++ c) one_is (two_put one two three b c two_is three_is)

pub four_put : (old one two three four a b c d : Text) → one ≡ old ++ a → two ≡ one ++ b → three ≡ two ++ c → four ≡ three ++ d → four ≡ old ++ (a ++ (b ++ (c ++ d)))
four_put old one two three four a b c d one_is two_is three_is four_is =
    two_put old one four a (b ++ (c ++ d)) one_is (three_put one two three four b c d two_is three_is four_is)
