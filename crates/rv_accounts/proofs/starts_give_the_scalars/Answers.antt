use Rattle.rv_accounts.proofs.Giving.{calls_give, fires_give, resumes_give}
use Rattle.rv_accounts.proofs.HandedCalls.{handed_give}
use Rattle.rv_accounts.proofs.starts_give_the_scalars.Goals as goal

pub returns-clause-calls : goal.returns-clause-calls
returns-clause-calls c = calls_give

pub returns-clause-fires : goal.returns-clause-fires
returns-clause-fires c = fires_give

pub returns-clause-resumes : goal.returns-clause-resumes
returns-clause-resumes c = resumes_give

pub returns-clause-handed : goal.returns-clause-handed
returns-clause-handed c = handed_give
