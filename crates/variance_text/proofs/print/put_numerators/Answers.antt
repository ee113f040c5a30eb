use Rattle.variance_text.proofs.Rows.{first_room, second_room, third_room, last_room, rest_wrote}
use borrow.Author.Rules.{rules}
use Rattle.variance_text.proofs.print.put_numerators.Goals as goal

pub put_number-first-requires : goal.put_number-first-requires
put_number-first-requires c = search (rules, first_room)

pub put_covariance-second-requires : goal.put_covariance-second-requires
put_covariance-second-requires c = search (rules, second_room)

pub put_covariance-third-requires : goal.put_covariance-third-requires
put_covariance-third-requires c = search (rules, third_room)

pub put_byte-requires : goal.put_byte-requires
put_byte-requires c = search (rules, last_room)

pub returns : goal.returns
returns c = search (rules, rest_wrote)
