-- Handlers of lines after an attachment, and at first.
use Rattle.std.proofs.Common.{◌≡◌, ◌⊎◌, inl, inr, ℕ, ◌<◌, ◌≤◌, ◌∙◌, List, length, replicate, set, Option, Some, None, arith, ap, sym, get_or}
use Rattle.std.specs.Prelude.{slice_get}
use Rattle.std.proofs.lemmas.List.{length-set, length-replicate, get_or-set_same, get_or-replicate}
use Rattle.std.proofs.lemmas.Option.{slice_get-get_or, slice_get_cases}
use Rattle.rv_irq.specs.declared.Handler.{Handler}
use Rattle.rv_irq.specs.Handlers.{handler_of, standing_at}

pub own : (xs : List (Option Handler)) (line : ℕ) (x : Handler) → line < length xs → handler_of (set xs line (Some x)) line ≡ Some x
own xs line x h =
    let within : line < length (set xs line (Some x)) = omega (arith, length-set xs line (Some x), h) in
    ap standing_at (slice_get-get_or (set xs line (Some x)) line None within)
    ∙ get_or-set_same xs line (Some x) None h

abbrev pub nothing : List (Option Handler)
nothing = replicate 10 None

pub none : (line : ℕ) → handler_of (replicate 10 None) line ≡ None
none line = by_cases (slice_get_cases nothing line).1
  where
    by_cases : ((x : Option Handler) × (line < length nothing) × (slice_get nothing line ≡ Some x) × (get_or nothing line x ≡ x)) ⊎ ((length nothing ≤ line) × (slice_get nothing line ≡ None)) →
        handler_of nothing line ≡ None
    by_cases (inl w) =
        let within : line < 10 = omega (arith, w.1, length-replicate 10 (let x : Option Handler = None in x)) in
        ap standing_at w.2 ∙ sym w.3 ∙ get_or-replicate 10 line None w.0 within
    by_cases (inr w) = ap standing_at w.1
