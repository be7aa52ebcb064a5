use Rattle.std.proofs.Common.{◌≡◌, ℕ, false, List, [], ◌∷◌, ◌++◌, Some, None, sym, ap, ◌∙◌, arith, eqb, rules}
use Rattle.std.specs.List.{list_any}
use Rattle.std.specs.Prelude.{string_bytes}
use Rattle.std.proofs.lemmas.Str.Pattern.{split_once_first}
use Rattle.rv_script.specs.UnitTexts.{without_returns}
use Rattle.rv_script.proofs.Returns.{none_stripped, returns_last, kept_more}
use Rattle.rv_script.proofs.unit_text.unit_text.Goals as goal

pub loop-line-preserved : goal.loop-line-preserved
loop-line-preserved c =
    let parts = split_once_first 10 c.loop-line.rest.now (Some (c.in-Some.line, c.in-Some.after)) c.in-Some.ensures.cases (omega arith) in
    let kept = string_bytes c.loop-line.kept in
    let first : string_bytes c.push_str.new.self ≡ kept ++ c.without_return.result.now = c.in_ok-push_str.ensures.bytes in
    let second : string_bytes c.push_str-in-Some.new.self ≡ string_bytes c.push_str.new.self ++ 10 ∷ [] = c.in_ok-push_str-2.ensures.bytes in
    let whole : string_bytes c.push_str-in-Some.new.self ++ without_returns c.in-Some.after.now ≡ without_returns c.args.text.now =
    ap (λ (t : List ℕ). t ++ without_returns c.in-Some.after.now) (second ∙ ap (λ (t : List ℕ). t ++ 10 ∷ []) first)
    ∙ kept_more kept c.in-Some.line.now c.without_return.result.now c.in-Some.after.now c.loop-line.rest.now _ c.loop-line.invariant.1 parts.0 parts.1 parts.2 c.without_return.ensures in
    (search rules, whole)

pub returns : goal.returns
returns c =
    let none = split_once_first 10 c.loop-line.rest.now None c.in_default.ensures.cases (omega arith) in
    let kept = string_bytes c.loop-line.kept in
    c.in_ok-push_str-3.ensures.bytes ∙ ap (λ (t : List ℕ). kept ++ t) (sym (returns_last c.loop-line.rest.now none)) ∙ c.loop-line.invariant.1

pub returns-then-not-contains : goal.returns-then-not-contains
returns-then-not-contains c =
    let none : list_any (λ b. eqb b 13) c.args.text.now ≡ false = search rules in
    search (rules, none_stripped c.args.text.now none)
