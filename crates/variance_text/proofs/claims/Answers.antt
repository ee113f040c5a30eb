use Rattle.variance_text.proofs.Rows.{text_most}
use Rattle.variance_text.proofs.Runs.{printed_more, printed_ended, input_whole, plan_parts}
use Rattle.variance_text.proofs.Examples.{signs_are, heads_are, programs_are}
use Rattle.variance_text.proofs.claims.Goals as goal

pub returns-clause-more : goal.returns-clause-more
returns-clause-more c = printed_more

pub returns-clause-ended : goal.returns-clause-ended
returns-clause-ended c = printed_ended

pub returns-clause-whole : goal.returns-clause-whole
returns-clause-whole c = input_whole

pub returns-clause-parts : goal.returns-clause-parts
returns-clause-parts c = plan_parts

pub returns-clause-longest : goal.returns-clause-longest
returns-clause-longest c = text_most

pub returns-clause-signs : goal.returns-clause-signs
returns-clause-signs c = signs_are

pub returns-clause-heads : goal.returns-clause-heads
returns-clause-heads c = heads_are

pub returns-clause-programs : goal.returns-clause-programs
returns-clause-programs c = programs_are
