use Rattle.rv_misfit.proofs.Reading.{step_numbered}
use Rattle.rv_misfit.proofs.laws.read_steps_name_lines_that_there_are.Goals as goal

pub returns : goal.returns
returns c = step_numbered
