use mathlib.Core.Path.{◌≡◌, sym, ◌∙◌}
use native.Mathlib.Omega.{arith}
use borrow.Author.Rules.{rules}
use Rattle.std.proofs.lemmas.Result.{err_from_is_err_and}
use Rattle.table.specs.Check.{up_to}
use Rattle.opening.proofs.Opening.{sizes_product}
use Rattle.plan_parts.proofs.ArrayTelling.{array_refused, no_array, weight_short, counts_short, array_told}
use Rattle.plan_parts.proofs.array.array.Goals as goal

pub returns-in_err-opened : goal.returns-in_err-opened
returns-in_err-opened c =
    let p = err_from_is_err_and c.from_residual.result c.from_residual.ensures.1 in
    rw (p.1, p.2) (array_refused _ _ _ _ c.in_err-opened.ensures)

pub returns-then-not-contains : goal.returns-then-not-contains
returns-then-not-contains c = no_array _ _ _ _ (rw c.in_ok-opened.ensures at c.in_ok-opened.opened.opens) (let e : c.contains.result ≡ up_to c.in_ok-opened.opened.plan.sizes.arrays c.args.number = search rules in sym e ∙ c.if-not-contains.true)

pub overflow_mul-s : goal.overflow_mul-s
overflow_mul-s c = sizes_product _ _ c.in_ok-opened.opened.opens

pub returns-then-weights-lt1 : goal.returns-then-weights-lt1
returns-then-weights-lt1 c = weight_short _ _ _ _ (rw c.in_ok-opened.ensures at c.in_ok-opened.opened.opens) (let e : c.contains.result ≡ up_to c.in_ok-opened.opened.plan.sizes.arrays c.args.number = search rules in sym e ∙ c.if-not-contains.false) (omega arith)

pub returns-then-counts-s : goal.returns-then-counts-s
returns-then-counts-s c = counts_short _ _ _ _ (rw c.in_ok-opened.ensures at c.in_ok-opened.opened.opens) (let e : c.contains.result ≡ up_to c.in_ok-opened.opened.plan.sizes.arrays c.args.number = search rules in sym e ∙ c.if-not-contains.false) (omega arith) c.if-counts-s.true

pub returns : goal.returns
returns c =
    rw (← c.in_ok-opened.ensures) (array_told _ _ _ _ c.in_ok-opened.opened.opens (let e : c.contains.result ≡ up_to c.in_ok-opened.opened.plan.sizes.arrays c.args.number = search rules in sym e ∙ c.if-not-contains.false) (omega arith) c.if-counts-s.false c.weight.ensures c.read_array.ensures)
