use Rattle.std.proofs.Common.{◌≡◌, true, false, Option, Ok, Err, sym, ap, ◌∙◌}
use Rattle.rv_text.specs.Sections.{SectionText}
use Rattle.rv_script.specs.declared.opening.Opening.{Opening}
use Rattle.rv_script.specs.Openings.{opening_of}
use Rattle.rv_fault.specs.Parts.{section_of}
use Rattle.rv_check.specs.declared.purpose.Purpose.{Purpose}
use Rattle.rv_check.specs.declared.purpose.Role.{Role}
use Rattle.rv_check.specs.Purposes.{is_last, role_in, role_of}
use Rattle.rv_check.specs.Scripts.{judging}
use Rattle.rv_check.proofs.Checked.{at_first, one_said, stopped, rest_told, all_said}
use Rattle.rv_check.proofs.Judged.{as_role}
use Rattle.rv_check.proofs.script.check_all.Goals as goal

-- the role of a part is that of its section
its_role : (role : Role) (purpose : Purpose) (section : SectionText) (opening : Option Opening) → role ≡ role_of purpose opening → opening ≡ opening_of section.opening → role ≡ role_in purpose section
its_role role purpose section opening e opens = e ∙ ap (λ (o : Option Opening). role_of purpose o) opens

pub each-init : goal.each-init
each-init g c =
    at_first (judging c.args.purpose c.args.line c.args.devices.now) (g.W.Write.contents c.args.writer.now) c.new-catalogue.result c.args.parts c.new-catalogue.ensures

pub each-preserved : goal.each-preserved
each-preserved g c =
    let section : SectionText = section_of c.in-Some.part in
    let role = its_role c.role_of-role.result c.args.purpose section c.in-Some.part.opening c.role_of-role.ensures c.in-Some.part.opens in
    let inner : is_last (role_in c.args.purpose section) ≡ false = ap is_last (sym role) ∙ (sym c.is_last.ensures ∙ c.if-is_last.false) in
    one_said (judging c.args.purpose c.args.line c.args.devices.now) (g.W.Write.contents c.args.writer.now) (g.W.Write.contents c.each.writer) (g.W.Write.contents c.check_as.new.writer) c.each.catalogue c.check_as.new.catalogue section
    c.each.parts c.next_part.new.self c.args.parts inner c.in-Some.ensures.first c.each.invariant
    (as_role (g.W.Write.contents c.each.writer) (g.W.Write.contents c.check_as.new.writer) c.role_of-role.result c.args.purpose c.each.catalogue c.check_as.new.catalogue section (Ok tt) role c.in-Ok.ensures)

pub returns-in-Err : goal.returns-in-Err
returns-in-Err g c =
    let section : SectionText = section_of c.in-Some.part in
    let role = its_role c.role_of-role.result c.args.purpose section c.in-Some.part.opening c.role_of-role.ensures c.in-Some.part.opens in
    let inner : is_last (role_in c.args.purpose section) ≡ false = ap is_last (sym role) ∙ (sym c.is_last.ensures ∙ c.if-is_last.false) in
    stopped (judging c.args.purpose c.args.line c.args.devices.now) (g.W.Write.contents c.args.writer.now) (g.W.Write.contents c.each.writer) (g.W.Write.contents c.check_as.new.writer) c.each.catalogue c.check_as.new.catalogue section
    c.each.parts c.next_part.new.self c.args.parts c.in-Err.failure inner c.in-Some.ensures.first c.each.invariant
    (as_role (g.W.Write.contents c.each.writer) (g.W.Write.contents c.check_as.new.writer) c.role_of-role.result c.args.purpose c.each.catalogue c.check_as.new.catalogue section (Err c.in-Err.failure) role c.in-Err.ensures)

pub returns-then-is_last : goal.returns-then-is_last
returns-then-is_last g c =
    let section : SectionText = section_of c.in-Some.part in
    let role = its_role c.role_of-role.result c.args.purpose section c.in-Some.part.opening c.role_of-role.ensures c.in-Some.part.opens in
    let last : is_last (role_in c.args.purpose section) ≡ true = ap is_last (sym role) ∙ (sym c.is_last.ensures ∙ c.if-is_last.true) in
    rest_told (judging c.args.purpose c.args.line c.args.devices.now) (g.W.Write.contents c.args.writer.now) (g.W.Write.contents c.each.writer) (g.W.Write.contents c.check_commands.new.writer) c.each.catalogue section
    c.each.parts c.next_part.new.self c.args.parts c.check_commands.result last c.in-Some.ensures.first c.each.invariant c.check_commands.ensures

pub returns : goal.returns
returns g c =
    all_said (judging c.args.purpose c.args.line c.args.devices.now) (g.W.Write.contents c.args.writer.now) (g.W.Write.contents c.each.writer) c.each.catalogue c.each.parts c.args.parts
    c.in_default.ensures.none.0 c.each.invariant
