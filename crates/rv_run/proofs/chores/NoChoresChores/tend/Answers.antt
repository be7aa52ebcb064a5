use Rattle.std.proofs.Common.{Ok, Err, refl}
use Rattle.rv_run.specs.declared.command.Goes.TheVariants.{On}
use Rattle.rv_run.proofs.chores.NoChoresChores.tend.Goals as goal

pub returns-in-Ok : goal.returns-in-Ok
returns-in-Ok g c = λ left. record {
  flushed = record { staff = refl; unread = record { input = refl; left = refl }; kept = c.flush.ensures.bytes };
  silent = refl;
  outcome = Ok On;
  goes = refl;
  of_run = refl;
}

pub returns-in-Err : goal.returns-in-Err
returns-in-Err g c = λ left. record {
  flushed = record { staff = refl; unread = record { input = refl; left = refl }; kept = c.flush.ensures.bytes };
  silent = refl;
  outcome = Err c.of_io.result;
  goes = c.of_io.ensures;
  of_run = refl;
}
