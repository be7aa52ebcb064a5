-- Look-ups in tables of spellings.
use Rattle.std.proofs.Common.{◌≡◌, Bool, true, false, cond, ◌&&◌, ◌==◌, List, [], ◌∷◌, length, Option, Some, None, IfSome, map, refl, sym, ap, ◌∙◌}
use Rattle.std.proofs.lemmas.Bool.{eqb-true}
use Rattle.std.proofs.lemmas.Slice.Eq.{bytes_eq-Decides}
use Rattle.std.proofs.lemmas.List.{length-map}
use Rattle.std.specs.List.{list_all}
use Rattle.std.specs.Char.{to_ascii_lowercase}
use Rattle.std.specs.Str.{str_eq_ignore_ascii_case}
use Rattle.rv_lex.specs.declared.kind.Kind.{Kind}
use Rattle.rv_lex.specs.Kinds.{Text, spelling, compound, kind_in, kind_spelled}

pub both : (b c : Bool) → (b && c) ≡ true → (b ≡ true) × (c ≡ true)
both true c h = (refl, h)
both false c h = absurd cc

-- in small letters
abbrev pub lower : Text → Text
lower w = map to_ascii_lowercase w

passes_if : (test : Text → Bool) (e : Text × Kind) (es : List (Text × Kind)) (w : Text) (found : Kind) (b : Bool) → str_eq_ignore_ascii_case w e.0 ≡ b → test (lower e.0) ≡ true → (kind_in es w ≡ Some found → test (lower w) ≡ true) → cond b (Some e.1) (kind_in es w) ≡ Some found → test (lower w) ≡ true
passes_if test e es w found true is passes more h = ap test ((bytes_eq-Decides (lower w) (lower e.0)).0 is) ∙ passes
passes_if test e es w found false is passes more h = more h

-- a test that each spelling passes is passed by each text that is found
pub kind_in-passes : (test : Text → Bool) (entries : List (Text × Kind)) (w : Text) (found : Kind) → list_all (λ e. test (lower e.0)) entries ≡ true → kind_in entries w ≡ Some found → test (lower w) ≡ true
kind_in-passes test [] w found all h = absurd cc
kind_in-passes test (e ∷ es) w found all h =
    let a = both (test (lower e.0)) (list_all (λ e. test (lower e.0)) es) all in
    passes_if test e es w found (str_eq_ignore_ascii_case w e.0) refl a.0 (kind_in-passes test es w found a.1) h

pub compound-length : (w : Text) (found : Kind) → kind_spelled compound w ≡ Some found → length w ≡ 2
unfolding kind_spelled compound spelling
compound-length w found h =
    sym (length-map w to_ascii_lowercase) ∙ eqb-true (length (lower w)) 2 (kind_in-passes (λ t. length t == 2) (map (λ kind. (spelling kind, kind)) compound) w found refl h)

pub compound-long : (w : Text) (r : Option Kind) → r ≡ kind_spelled compound w → IfSome r (λ _. length w ≡ 2)
compound-long w None h = tt
compound-long w (Some found) h = compound-length w found (sym h)
