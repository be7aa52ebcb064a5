-- A list without windows decides the same at all ticks.
use Rattle.std.proofs.Common.{◌≡◌, ℕ, ◌+◌, List, [], ◌∷◌, Bool, refl, ap, sym, ◌∙◌, Option, None}
use Rattle.std.specs.Prelude.{◌==◌, ◌&&◌, if◌then◌else◌}
use Rattle.std.proofs.lemmas.List.Elements.{All-head, All-tail}
use Rattle.rv_access.specs.Words.{WindowWords, Words}
use Rattle.rv_access.specs.Windows.{is_open}
use Rattle.rv_access.specs.Lines.{allows, decides, fits, grants, line_at, matches}
use Rattle.rv_access.specs.Timeless.{IsTimeless}

matches_always : (line : Words) (unit object operation : List ℕ) (one other : ℕ) → line.window ≡ None → matches line unit object operation one ≡ matches line unit object operation other
matches_always line unit object operation one other none =
    let words : Bool = fits line.unit unit && fits line.object object && fits line.operation operation in
    ap (λ (w : Option WindowWords). words && is_open w one) none ∙ sym (ap (λ (w : Option WindowWords). words && is_open w other) none)

pub same_line : (lines : List Words) (unit object operation : List ℕ) (one other : ℕ) → IsTimeless lines → decides lines unit object operation one ≡ decides lines unit object operation other
same_line [] unit object operation one other h = refl
same_line (line ∷ lines) unit object operation one other h =
    let later = same_line lines unit object operation one other (All-tail (λ (l : Words). l.window ≡ None) line lines h) in
    let here = matches_always line unit object operation one other (All-head (λ (l : Words). l.window ≡ None) line lines h) in
    λ i. if later i == 0 then (if here i then 1 else 0) else later i + 1

pub same_grant : (lines : List Words) (unit object operation : List ℕ) (one other : ℕ) → IsTimeless lines → grants lines unit object operation one ≡ grants lines unit object operation other
same_grant lines unit object operation one other h =
    ap (λ (n : ℕ). allows (line_at lines n)) (same_line lines unit object operation one other h)
