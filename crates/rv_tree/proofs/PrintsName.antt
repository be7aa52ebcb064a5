-- Printed identifiers, names and literals are what they were.
use Rattle.std.proofs.Common.{◌≡◌, ℕ, ◌<◌, List, Option, refl, subst}
use Rattle.std.specs.Fmt.{decimal}
use Rattle.rv_lex.specs.declared.kind.Kind.TheVariants as k
use Rattle.rv_lex.specs.Lexes.{Lexeme}
use Rattle.rv_lex.specs.Spaced.{IsSpelled}
use Rattle.rv_lex.specs.Words.{IsWord}
use Rattle.rv_lex.proofs.Written.{identifier, identifier_spelled, literal_small, decimal_value, decimal_spelled}
use Rattle.rv_tree.specs.Phrases.{After}
use Rattle.rv_tree.specs.Onto.{number_onto, after_onto}
use Rattle.rv_tree.specs.Names.{Identifier, Name}
use Rattle.rv_tree.specs.NameGrammar.{IsIdentifier, IsName, AreIdentifiers, AreNames, IsEnd}
use Rattle.rv_tree.specs.NamePrint.{identifier_onto, name_onto, end_onto}
use Rattle.rv_tree.specs.ExpressionGrammar.{IsLiteral}
use Rattle.rv_tree.specs.Onto.{listed_onto}
use Rattle.rv_tree.proofs.Phrased.{one, word_prints, Prints, is_prints, seq_prints, maybe_prints, each_prints, after_prints, listed_prints}

spelled_as : (i : Identifier) (t : Lexeme) → IsWord t.kind t.text → t.kind ≡ k.Identifier → t.text ≡ i.text → IsSpelled (identifier i.text)
spelled_as i t good kind text = subst (λ (w : List ℕ). IsSpelled (identifier w)) text (identifier_spelled t.kind t.text good kind)

pub identifier_prints : (i : Identifier) → Prints (IsIdentifier i) (identifier_onto i)
identifier_prints i =
    let w = one k.Identifier i.text i.at in
    word_prints (IsIdentifier i) (identifier_onto i) w (λ out. refl) (λ old new h. (h.0, h.1, λ good. (spelled_as i h.0 good h.2 h.4, λ rest. (w, refl, refl, refl, refl))))

pub literal_prints : (at value : ℕ) → Prints (IsLiteral at value) (number_onto value)
literal_prints at value =
    let w = one k.Literal (decimal value) at in
    word_prints (IsLiteral at value) (number_onto value) w (λ out. refl) (λ old new h. (
      h.0,
      h.1,
      λ good.
          let small : value < 2147483648 = subst (λ (x : ℕ). x < 2147483648) h.4 (literal_small h.0.kind h.0.text good h.2) in
          (decimal_spelled value small, λ rest. (w, refl, refl, refl, decimal_value value small)),
    ))

pub name_prints : (n : Name) → Prints (IsName n) (name_onto n)
name_prints n = seq_prints (identifier_prints n.first) (each_prints (After k.Dot IsIdentifier) (after_onto k.Dot identifier_onto) (after_prints k.Dot IsIdentifier identifier_onto refl identifier_prints) n.more)

pub identifiers_print : (is : List Identifier) → Prints (AreIdentifiers is) (listed_onto k.Comma identifier_onto is)
identifiers_print is = listed_prints k.Comma IsIdentifier identifier_onto refl identifier_prints is

pub names_print : (ns : List Name) → Prints (AreNames ns) (listed_onto k.Comma name_onto ns)
names_print ns = listed_prints k.Comma IsName name_onto refl name_prints ns

pub end_prints : (name : Option Identifier) → Prints (IsEnd name) (end_onto name)
end_prints name = seq_prints (is_prints k.End refl) (seq_prints (maybe_prints IsIdentifier identifier_onto identifier_prints name) (is_prints k.Semicolon refl))
