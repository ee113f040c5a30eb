use Rattle.next_rounding.proofs.Found.{number_ready, number_fits, found, not_found}
use Rattle.next_rounding.proofs.write_next.Goals as goal

pub number-given-requires : goal.number-given-requires
number-given-requires c =
    let made = c.of-numbering.ensures in
    rw (made.rows, made.columns) (number_ready c.args.t.now.accepted c.requires made.bounds)

pub overflow_add-given : goal.overflow_add-given
overflow_add-given c =
    let made = c.of-numbering.ensures in
    number_fits c.args.t.now.accepted c.requires made.bounds (rw (made.rows, made.columns) at c.number-given.ensures)

pub returns-in-Some : goal.returns-in-Some
returns-in-Some c =
    let made = c.of-numbering.ensures in
    found c.args.t.now.accepted c.requires made.bounds (rw (made.rows, made.columns) at c.number-given.ensures) (rw (made.rows, made.columns) at c.in-Some.ensures)
    (rw (made.rows, made.columns) at c.write_array.ensures)

pub returns-in-None : goal.returns-in-None
returns-in-None c =
    let made = c.of-numbering.ensures in
    not_found c.args.t.now.accepted c.requires made.bounds (rw (made.rows, made.columns) at c.number-given.ensures) (rw (made.rows, made.columns) at c.in-None.ensures)
