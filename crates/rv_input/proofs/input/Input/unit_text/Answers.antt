use Rattle.std.proofs.Common.{◌≡◌, ◌++◌, ◌∷◌, [], false, None, ap, rules}
use Rattle.std.specs.Prelude.{option_map, string_bytes}
use Rattle.rv_input.specs.Coming.{GivesLine, is_end}
use Rattle.rv_input.proofs.Told.{shortens_on, told_is}
use Rattle.rv_input.proofs.Passing.{one_kept, no_end_comes}
use Rattle.rv_input.proofs.input.Input.unit_text.Goals as goal

pub loop-text-preserved : goal.loop-text-preserved
loop-text-preserved g c =
    let line = string_bytes c.in-Some.line in
    let passes : is_end line ≡ false = search rules in
    let whole : string_bytes c.keep_text.new.text ≡ string_bytes c.loop-text.text ++ (line ++ 10 ∷ []) = search rules in
    let comes = told_is (GivesLine c.line.new.self.given) _ _ _ _ (ap (λ o. option_map string_bytes o) c.in-Some.is) c.in_ok-line.ensures.comes in
    record {
      came = one_kept c.line.new.self.given _ _ _ _ line _ passes whole c.loop-text.invariant.came comes;
      reads = shortens_on _ _ _ c.loop-text.invariant.reads c.in_ok-line.ensures.reads;
    }

pub returns-clause-comes : goal.returns-clause-comes
returns-clause-comes g c =
    let comes = told_is (GivesLine c.line.new.self.given) _ _ _ None (ap (λ o. option_map string_bytes o) c.in_default.is) c.in_ok-line.ensures.comes in
    no_end_comes c.line.new.self.given _ _ _ _ c.loop-text.invariant.came comes

pub returns-then-eq-clause-reads : goal.returns-then-eq-clause-reads
returns-then-eq-clause-reads g c = shortens_on _ _ _ c.loop-text.invariant.reads c.in_ok-line.ensures.reads

pub returns-clause-reads : goal.returns-clause-reads
returns-clause-reads g c = shortens_on _ _ _ c.loop-text.invariant.reads c.in_ok-line.ensures.reads
