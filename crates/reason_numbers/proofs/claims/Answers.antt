-- `reason_numbers::claims` states what the laws of this folder prove.
use Rattle.reason_numbers.proofs.Replying.{reply_number_lem}
use Rattle.reason_numbers.proofs.Examples.{calls_hold}
use Rattle.reason_numbers.proofs.claims.Goals as goal

pub returns-clause-numbers : goal.returns-clause-numbers
returns-clause-numbers c = reply_number_lem

pub returns-clause-calls : goal.returns-clause-calls
returns-clause-calls c = calls_hold
