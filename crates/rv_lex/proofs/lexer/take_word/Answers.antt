use Rattle.std.proofs.Common.{◌≡◌, ℕ, ◌≤◌, List, Ok, length, drop, sym, ap, ◌∙◌, subst}
use Rattle.std.proofs.lemmas.Str.{IsUtf8-drop}
use Rattle.rv_lex.specs.declared.kind.Kind.{Kind}
use Rattle.rv_lex.specs.Front as spec
use Rattle.rv_lex.proofs.WordBytes.{boundary_before, boundary_behind}
use Rattle.rv_lex.proofs.lexer.take_word.Goals as goal

abbrev Found : Kind → ℕ → List ℕ → Type 0
Found kind n here = (n ≤ length here) × (spec.word here ≡ Ok (kind, n))

pub split_at-requires-2 : goal.split_at-requires-2
split_at-requires-2 c =
    let back : c.split_at.result.1.now ≡ drop c.args.skipped c.args.rest.now =
    c.split_at.ensures.back ∙ ap (drop c.args.skipped) c.as_bytes.ensures.value in
    let found : Found c.in_ok-kind.kind c.in_ok-kind.len (drop c.args.skipped c.args.rest.now) =
    subst (Found c.in_ok-kind.kind c.in_ok-kind.len) back (c.in_ok-kind.ensures.within, sym c.in_ok-kind.ensures.value) in
    boundary_before c.args.rest.now c.args.skipped c.in_ok-kind.kind c.in_ok-kind.len c.requires found.0 c.in_ok-kind.ensures.moves found.1

pub split_at-requires-3 : goal.split_at-requires-3
split_at-requires-3 c =
    let back : c.split_at.result.1.now ≡ drop c.args.skipped c.args.rest.now =
    c.split_at.ensures.back ∙ ap (drop c.args.skipped) c.as_bytes.ensures.value in
    let found : Found c.in_ok-kind.kind c.in_ok-kind.len (drop c.args.skipped c.args.rest.now) =
    subst (Found c.in_ok-kind.kind c.in_ok-kind.len) back (c.in_ok-kind.ensures.within, sym c.in_ok-kind.ensures.value) in
    let apart = boundary_before c.args.rest.now c.args.skipped c.in_ok-kind.kind c.in_ok-kind.len c.requires found.0 c.in_ok-kind.ensures.moves found.1 in
    let here : Found c.in_ok-kind.kind c.in_ok-kind.len c.split_at-2.result.1.now =
    subst (Found c.in_ok-kind.kind c.in_ok-kind.len) (sym c.split_at-2.ensures.back) found in
    boundary_behind c.split_at-2.result.1.now c.in_ok-kind.kind c.in_ok-kind.len
    (rw c.split_at-2.ensures.back (IsUtf8-drop c.args.rest.now c.args.skipped c.utf8.rest apart))
    here.0 c.in_ok-kind.ensures.moves here.1
