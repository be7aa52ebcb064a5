use Rattle.std.proofs.Common.{◌≡◌, ℕ, List, Err, rules, subst}
use Rattle.std.specs.Prelude.{Result}
use Rattle.rv_shell.specs.Serving.{Prints}
use Rattle.rv_shell.specs.declared.shell.LineFault.{LineFault}
use Rattle.rv_shell.specs.declared.shell.LineFault.TheVariants.{NoMemory, Worn, Write}
use Rattle.rv_shell.specs.declared.shell.Next.{Next}
use Rattle.rv_attend.specs.Again.{Asks}
use Rattle.rv_attend.proofs.AskedAgain.{goes_put, said_again, unkept_again, unsaid_again, worn_again}
use Rattle.rv_attend.proofs.asking.told.Goals as goal

pub returns-in-Ok-clause-serves : goal.returns-in-Ok-clause-serves
returns-in-Ok-clause-serves g c = λ v w line is asked.
    said_again _ _ v w line c.args.asked.text.items c.in-Ok.field-0 c.put.result is
    (subst (λ (n : Result Next LineFault). Asks v w line c.args.asked.text.items n) c.in-Ok.is asked)
    (subst (λ (t : List ℕ). Prints (g.W.Write.contents c.args.writer.now) (g.W.Write.contents c.put.new.writer) t c.put.result) c.as_slice.ensures.value c.put.ensures)

pub returns-in-Ok-clause-go : goal.returns-in-Ok-clause-go
returns-in-Ok-clause-go g c = goes_put _ _ _ c.put.result c.put.ensures

pub returns-in-Err-Worn-clause-serves : goal.returns-in-Err-Worn-clause-serves
returns-in-Err-Worn-clause-serves g c = λ v w line is asked.
    let whole : c.args.asked.next ≡ Err Worn = search rules in
    worn_again _ v w line c.args.asked.text.items is (subst (λ (n : Result Next LineFault). Asks v w line c.args.asked.text.items n) whole asked)

pub returns-in-Err-NoMemory-clause-serves : goal.returns-in-Err-NoMemory-clause-serves
returns-in-Err-NoMemory-clause-serves g c = λ v w line is asked.
    let whole : c.args.asked.next ≡ Err NoMemory = search rules in
    unsaid_again _ v w line c.args.asked.text.items is (subst (λ (n : Result Next LineFault). Asks v w line c.args.asked.text.items n) whole asked)

pub returns-clause-serves : goal.returns-clause-serves
returns-clause-serves g c = λ v w line is asked.
    let whole : c.args.asked.next ≡ Err (Write c.in-Err-Write.field-0-0) = search rules in
    unkept_again _ v w line c.args.asked.text.items _ is (subst (λ (n : Result Next LineFault). Asks v w line c.args.asked.text.items n) whole asked)
