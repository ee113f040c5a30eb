use borrow.Author.Rules.{rules}
use Rattle.printing.proofs.Lines.{refusal_word, refusal_number, refusal_end, refusal_wrote}
use Rattle.printing.proofs.line.print_refusal.Goals as goal

pub put_bytes-first-requires : goal.put_bytes-first-requires
put_bytes-first-requires c = search (rules, refusal_word)

pub put_decimal-second-requires : goal.put_decimal-second-requires
put_decimal-second-requires c = search (rules, refusal_number)

pub put_bytes-requires : goal.put_bytes-requires
put_bytes-requires c = search (rules, refusal_end)

pub returns : goal.returns
returns c = search (rules, refusal_wrote)
