-- Each reserved word and each delimiter is the word that it spells: it computes.
use Rattle.std.proofs.Common.{◌≡◌, Bool, true, false, refl}
use Rattle.rv_lex.specs.declared.kind.Kind.{Kind}
use Rattle.rv_lex.specs.declared.kind.Kind.TheVariants as k
use Rattle.rv_lex.specs.Kinds.{reserved, compound, simple, kind_spelled, spelling}
use Rattle.rv_lex.specs.Characters.{gap_len, is_spaced}
use Rattle.rv_lex.specs.Front.{word, identifier, delimiter}
use Rattle.rv_lex.specs.Spaced.{Spelled, IsSpelled}

abbrev pub written : Kind → Spelled
written kind = record { kind = kind; text = spelling kind }

-- identifiers and literals have no spelling of their own
abbrev pub has_spelling : Kind → Bool
has_spelling k.Identifier = false
has_spelling k.Literal = false
has_spelling _ = true

pub spelling_is : (kind : Kind) → has_spelling kind ≡ true → IsSpelled (written kind)
unfolding gap_len is_spaced word identifier delimiter reserved compound simple kind_spelled spelling
spelling_is k.Identifier h = absurd cc
spelling_is k.Literal h = absurd cc
spelling_is k.LeftParenthesis h = record { begins = λ rest. refl; cut = λ rest. refl }
spelling_is k.RightParenthesis h = record { begins = λ rest. refl; cut = λ rest. refl }
spelling_is k.Comma h = record { begins = λ rest. refl; cut = λ rest. refl }
spelling_is k.Semicolon h = record { begins = λ rest. refl; cut = λ rest. refl }
spelling_is k.Colon h = record { begins = λ rest. refl; cut = λ rest. refl }
spelling_is k.Dot h = record { begins = λ rest. refl; cut = λ rest. refl }
spelling_is k.Apostrophe h = record { begins = λ rest. refl; cut = λ rest. refl }
spelling_is k.Plus h = record { begins = λ rest. refl; cut = λ rest. refl }
spelling_is k.Minus h = record { begins = λ rest. refl; cut = λ rest. refl }
spelling_is k.Times h = record { begins = λ rest. refl; cut = λ rest. refl }
spelling_is k.Divide h = record { begins = λ rest. refl; cut = λ rest. refl }
spelling_is k.Equal h = record { begins = λ rest. refl; cut = λ rest. refl }
spelling_is k.Less h = record { begins = λ rest. refl; cut = λ rest. refl }
spelling_is k.Greater h = record { begins = λ rest. refl; cut = λ rest. refl }
spelling_is k.Bar h = record { begins = λ rest. refl; cut = λ rest. refl }
spelling_is k.Becomes h = record { begins = λ rest. refl; cut = λ rest. refl }
spelling_is k.Arrow h = record { begins = λ rest. refl; cut = λ rest. refl }
spelling_is k.DoubleDot h = record { begins = λ rest. refl; cut = λ rest. refl }
spelling_is k.NotEqual h = record { begins = λ rest. refl; cut = λ rest. refl }
spelling_is k.LessEqual h = record { begins = λ rest. refl; cut = λ rest. refl }
spelling_is k.GreaterEqual h = record { begins = λ rest. refl; cut = λ rest. refl }
spelling_is k.Abort h = record { begins = λ rest. refl; cut = λ rest. refl }
spelling_is k.Abs h = record { begins = λ rest. refl; cut = λ rest. refl }
spelling_is k.Abstract h = record { begins = λ rest. refl; cut = λ rest. refl }
spelling_is k.Accept h = record { begins = λ rest. refl; cut = λ rest. refl }
spelling_is k.Access h = record { begins = λ rest. refl; cut = λ rest. refl }
spelling_is k.Aliased h = record { begins = λ rest. refl; cut = λ rest. refl }
spelling_is k.All h = record { begins = λ rest. refl; cut = λ rest. refl }
spelling_is k.And h = record { begins = λ rest. refl; cut = λ rest. refl }
spelling_is k.Array h = record { begins = λ rest. refl; cut = λ rest. refl }
spelling_is k.At h = record { begins = λ rest. refl; cut = λ rest. refl }
spelling_is k.Begin h = record { begins = λ rest. refl; cut = λ rest. refl }
spelling_is k.Body h = record { begins = λ rest. refl; cut = λ rest. refl }
spelling_is k.Case h = record { begins = λ rest. refl; cut = λ rest. refl }
spelling_is k.Constant h = record { begins = λ rest. refl; cut = λ rest. refl }
spelling_is k.Declare h = record { begins = λ rest. refl; cut = λ rest. refl }
spelling_is k.Delay h = record { begins = λ rest. refl; cut = λ rest. refl }
spelling_is k.Delta h = record { begins = λ rest. refl; cut = λ rest. refl }
spelling_is k.Digits h = record { begins = λ rest. refl; cut = λ rest. refl }
spelling_is k.Do h = record { begins = λ rest. refl; cut = λ rest. refl }
spelling_is k.Else h = record { begins = λ rest. refl; cut = λ rest. refl }
spelling_is k.Elsif h = record { begins = λ rest. refl; cut = λ rest. refl }
spelling_is k.End h = record { begins = λ rest. refl; cut = λ rest. refl }
spelling_is k.Entry h = record { begins = λ rest. refl; cut = λ rest. refl }
spelling_is k.Exception h = record { begins = λ rest. refl; cut = λ rest. refl }
spelling_is k.Exit h = record { begins = λ rest. refl; cut = λ rest. refl }
spelling_is k.For h = record { begins = λ rest. refl; cut = λ rest. refl }
spelling_is k.Function h = record { begins = λ rest. refl; cut = λ rest. refl }
spelling_is k.Generic h = record { begins = λ rest. refl; cut = λ rest. refl }
spelling_is k.Goto h = record { begins = λ rest. refl; cut = λ rest. refl }
spelling_is k.If h = record { begins = λ rest. refl; cut = λ rest. refl }
spelling_is k.In h = record { begins = λ rest. refl; cut = λ rest. refl }
spelling_is k.Interface h = record { begins = λ rest. refl; cut = λ rest. refl }
spelling_is k.Is h = record { begins = λ rest. refl; cut = λ rest. refl }
spelling_is k.Limited h = record { begins = λ rest. refl; cut = λ rest. refl }
spelling_is k.Loop h = record { begins = λ rest. refl; cut = λ rest. refl }
spelling_is k.Mod h = record { begins = λ rest. refl; cut = λ rest. refl }
spelling_is k.New h = record { begins = λ rest. refl; cut = λ rest. refl }
spelling_is k.Not h = record { begins = λ rest. refl; cut = λ rest. refl }
spelling_is k.Null h = record { begins = λ rest. refl; cut = λ rest. refl }
spelling_is k.Of h = record { begins = λ rest. refl; cut = λ rest. refl }
spelling_is k.Or h = record { begins = λ rest. refl; cut = λ rest. refl }
spelling_is k.Others h = record { begins = λ rest. refl; cut = λ rest. refl }
spelling_is k.Out h = record { begins = λ rest. refl; cut = λ rest. refl }
spelling_is k.Overriding h = record { begins = λ rest. refl; cut = λ rest. refl }
spelling_is k.Package h = record { begins = λ rest. refl; cut = λ rest. refl }
spelling_is k.Pragma h = record { begins = λ rest. refl; cut = λ rest. refl }
spelling_is k.Private h = record { begins = λ rest. refl; cut = λ rest. refl }
spelling_is k.Procedure h = record { begins = λ rest. refl; cut = λ rest. refl }
spelling_is k.Protected h = record { begins = λ rest. refl; cut = λ rest. refl }
spelling_is k.Raise h = record { begins = λ rest. refl; cut = λ rest. refl }
spelling_is k.Range h = record { begins = λ rest. refl; cut = λ rest. refl }
spelling_is k.Record h = record { begins = λ rest. refl; cut = λ rest. refl }
spelling_is k.Rem h = record { begins = λ rest. refl; cut = λ rest. refl }
spelling_is k.Renames h = record { begins = λ rest. refl; cut = λ rest. refl }
spelling_is k.Requeue h = record { begins = λ rest. refl; cut = λ rest. refl }
spelling_is k.Return h = record { begins = λ rest. refl; cut = λ rest. refl }
spelling_is k.Reverse h = record { begins = λ rest. refl; cut = λ rest. refl }
spelling_is k.Select h = record { begins = λ rest. refl; cut = λ rest. refl }
spelling_is k.Separate h = record { begins = λ rest. refl; cut = λ rest. refl }
spelling_is k.Some h = record { begins = λ rest. refl; cut = λ rest. refl }
spelling_is k.Subtype h = record { begins = λ rest. refl; cut = λ rest. refl }
spelling_is k.Synchronized h = record { begins = λ rest. refl; cut = λ rest. refl }
spelling_is k.Tagged h = record { begins = λ rest. refl; cut = λ rest. refl }
spelling_is k.Task h = record { begins = λ rest. refl; cut = λ rest. refl }
spelling_is k.Terminate h = record { begins = λ rest. refl; cut = λ rest. refl }
spelling_is k.Then h = record { begins = λ rest. refl; cut = λ rest. refl }
spelling_is k.Type h = record { begins = λ rest. refl; cut = λ rest. refl }
spelling_is k.Until h = record { begins = λ rest. refl; cut = λ rest. refl }
spelling_is k.Use h = record { begins = λ rest. refl; cut = λ rest. refl }
spelling_is k.When h = record { begins = λ rest. refl; cut = λ rest. refl }
spelling_is k.While h = record { begins = λ rest. refl; cut = λ rest. refl }
spelling_is k.With h = record { begins = λ rest. refl; cut = λ rest. refl }
spelling_is k.Xor h = record { begins = λ rest. refl; cut = λ rest. refl }
