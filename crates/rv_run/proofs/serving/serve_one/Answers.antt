use Rattle.std.proofs.Common.{Ok, Err, refl}
use Rattle.rv_run.specs.declared.command.Goes.TheVariants.{On, Out}
use Rattle.rv_run.proofs.serving.serve_one.Goals as goal

pub returns-in-Ok-On : goal.returns-in-Ok-On
returns-in-Ok-On g c = record {
  between = _;
  tended = Ok On;
  tends = rw c.in-Ok-On.field-0-is at (c.in-Ok-On.ensures (g.R.Read.remaining c.args.reader.now));
  serves = (c.serve_next.result, c.serve_next.ensures, c.of_run.ensures);
}

pub returns-in-Ok-Out : goal.returns-in-Ok-Out
returns-in-Ok-Out g c = record {
  between = _;
  tended = Ok Out;
  tends = rw c.in-Ok-Out.field-0-is at (c.in-Ok-Out.ensures (g.R.Read.remaining c.args.reader.now));
  serves = (refl, refl);
}

pub returns-in-Err : goal.returns-in-Err
returns-in-Err g c = record { between = _; tended = Err c.in-Err.failure; tends = c.in-Err.ensures _; serves = (refl, refl) }
