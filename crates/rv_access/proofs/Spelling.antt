-- Lists of lines that a text can hold stay such lists.
use Rattle.std.proofs.Common.{◌≡◌, ℕ, suc, List, [], ◌∷◌, ◌++◌, set, take, drop, subst, sym}
use Rattle.std.specs.List.{All, remove}
use Rattle.std.proofs.lemmas.List.Elements.{All-append, All-push, All-set, All-take, All-drop}
use Rattle.rv_access.specs.Words.{Words}
use Rattle.rv_access.specs.Spelled.{IsSpelled}

pub with_line : (lines more : List Words) (line : Words) → All IsSpelled lines → IsSpelled line → more ≡ lines ++ line ∷ [] → All IsSpelled more
with_line lines more line all one is = subst (All IsSpelled) (sym is) (All-push IsSpelled lines line all one)

pub put_line : (lines : List Words) (i : ℕ) (line : Words) → All IsSpelled lines → IsSpelled line → All IsSpelled (set lines i line)
put_line lines i line all one = All-set IsSpelled lines i line one all

pub without_line : (lines : List Words) (i : ℕ) → All IsSpelled lines → All IsSpelled (remove lines i)
without_line lines i all =
    All-append IsSpelled (take i lines) (drop (suc i) lines) (All-take IsSpelled i lines all) (All-drop IsSpelled (suc i) lines all)
