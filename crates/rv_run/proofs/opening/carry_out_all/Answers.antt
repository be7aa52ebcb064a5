use Rattle.std.proofs.Common.{◌≡◌, [], Option, Ok, Err, rules, subst}
use Rattle.rv_script.specs.declared.opening.Opening.{Opening}
use Rattle.rv_fault.specs.Parts.{section_of}
use Rattle.rv_run.specs.Preparing.{CarriesOutAs}
use Rattle.rv_run.proofs.Prepared.{at_first, comes_to_its_end, goes_further, stops_here}
use Rattle.rv_run.proofs.opening.carry_out_all.Goals as goal

pub each-init : goal.each-init
each-init g c = at_first _ _

pub each-preserved : goal.each-preserved
each-preserved g c =
    goes_further c.args.control.now c.each.control c.carry_out.new.control (section_of c.in-Some.part) c.each.parts c.next_part.new.self c.args.parts
    c.in-Some.ensures.first c.each.invariant
    (subst (λ (o : Option Opening). CarriesOutAs o c.each.control c.carry_out.new.control (section_of c.in-Some.part) (Ok tt)) c.in-Some.part.opens c.in-Ok.ensures)

pub returns-in-Err : goal.returns-in-Err
returns-in-Err g c =
    stops_here c.args.control.now c.each.control c.carry_out.new.control (section_of c.in-Some.part) c.each.parts c.next_part.new.self c.args.parts c.in-Err.failure
    c.in-Some.ensures.first c.each.invariant
    (subst (λ (o : Option Opening). CarriesOutAs o c.each.control c.carry_out.new.control (section_of c.in-Some.part) (Err c.in-Err.failure)) c.in-Some.part.opens c.in-Err.ensures)

pub returns : goal.returns
returns g c =
    let none : c.each.parts ≡ [] = search rules in
    comes_to_its_end c.args.control.now c.each.control c.each.parts c.args.parts none c.each.invariant
