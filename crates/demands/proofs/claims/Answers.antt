use Rattle.table.proofs.Checks.{passed_all}
use Rattle.plan.proofs.Planning.{promised}
use Rattle.reasons.proofs.Explaining.{every_explained}
use Rattle.demands.proofs.Lowests.{each_refuses, below_zero_refused}
use Rattle.demands.proofs.Conditions.{opens_just}
use Rattle.demands.proofs.Campaigns.{claim}
use Rattle.demands.proofs.Resuming.{resumes}
use Rattle.demands.proofs.Serving.{served}
use Rattle.demands.proofs.Pooled.{served_pool}
use Rattle.demands.proofs.Walking.{walked}
use Rattle.demands.proofs.Sentences.{few_entries, whole_limit}
use Rattle.demands.proofs.Belongings.{belonging}
use Rattle.demands.proofs.Examples.{examples_hold, runs_hold, slips_shut}
use Rattle.demands.proofs.claims.Goals as goal

pub returns-clause-refusals : goal.returns-clause-refusals
returns-clause-refusals c = each_refuses

pub returns-clause-below_zero : goal.returns-clause-below_zero
returns-clause-below_zero c = below_zero_refused

pub returns-clause-plans : goal.returns-clause-plans
returns-clause-plans c = λ r c d g h. promised (passed_all r c d g h)

pub returns-clause-reasons : goal.returns-clause-reasons
returns-clause-reasons c = every_explained

pub returns-clause-opens : goal.returns-clause-opens
returns-clause-opens c = opens_just

pub returns-clause-every_run : goal.returns-clause-every_run
returns-clause-every_run c = claim

pub returns-clause-resumes : goal.returns-clause-resumes
returns-clause-resumes c = resumes

pub returns-clause-serves : goal.returns-clause-serves
returns-clause-serves c = served

pub returns-clause-pools : goal.returns-clause-pools
returns-clause-pools c = served_pool

pub returns-clause-walks : goal.returns-clause-walks
returns-clause-walks c = walked

pub returns-clause-entries : goal.returns-clause-entries
returns-clause-entries c = few_entries

pub returns-clause-whole_limit : goal.returns-clause-whole_limit
returns-clause-whole_limit c = whole_limit

pub returns-clause-belongs : goal.returns-clause-belongs
returns-clause-belongs c = belonging

pub returns-clause-examples : goal.returns-clause-examples
returns-clause-examples c = examples_hold

pub returns-clause-campaigns : goal.returns-clause-campaigns
returns-clause-campaigns c = runs_hold

pub returns-clause-slips : goal.returns-clause-slips
returns-clause-slips c = slips_shut
