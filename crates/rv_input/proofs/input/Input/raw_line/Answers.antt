use Rattle.std.proofs.Common.{arith}
use Rattle.std.proofs.lemmas.Grind.{common_steps}
use Rattle.rv_input.specs.Coming.{GivesByte, Shortens}
use Rattle.rv_input.proofs.Told.{shortens_on, told_is}
use Rattle.rv_input.proofs.FirstLines.{line_ends}
use Rattle.rv_input.proofs.input.Input.raw_line.Goals as goal

pub returns-then-byte-eq10-clause-comes : goal.returns-then-byte-eq10-clause-comes
returns-then-byte-eq10-clause-comes g c =
    let comes = told_is GivesByte _ _ _ _ c.in-Some.is c.in_ok-byte.ensures.comes in
    line_ends _ _ _ c.loop-line.line.items _ c.in-Some.byte c.loop-line.invariant.none c.if-byte-eq10.true c.in_ok-keep.ensures c.loop-line.invariant.came comes

pub returns-then-byte-eq10-clause-reads : goal.returns-then-byte-eq10-clause-reads
returns-then-byte-eq10-clause-reads g c = shortens_on _ _ _ c.loop-line.invariant.reads c.in_ok-byte.ensures.reads

pub loop-line-preserved : goal.loop-line-preserved
loop-line-preserved g c =
    let reads : Shortens (g.R.Read.remaining c.args.reader.now) (g.R.Read.remaining c.byte.new.reader) = shortens_on _ _ _ c.loop-line.invariant.reads c.in_ok-byte.ensures.reads in
    record {
      none = grind (arith, common_steps);
      came = grind (arith, common_steps);
      taken = grind (arith, common_steps);
      given = grind (arith, common_steps);
      reads = reads;
      within = grind (arith, common_steps);
    }

pub returns-clause-reads : goal.returns-clause-reads
returns-clause-reads g c = shortens_on _ _ _ c.loop-line.invariant.reads c.in_ok-byte.ensures.reads
