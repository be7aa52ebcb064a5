use Rattle.rv_meant.proofs.Goes.{resumes_go_on}
use Rattle.rv_meant.proofs.resumes_go_on.Goals as goal

pub returns : goal.returns
returns c = resumes_go_on
