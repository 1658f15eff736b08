use Rattle.std.proofs.Common.{◌≡◌, length, vec_items, ap, arith}
use Rattle.runs.proofs.Openings.{lawful, not_opened, was_opened}
use Rattle.runs.proofs.run.run.Goals as goal
use Rattle.runs.specs.Performing.{text_on}
use Rattle.std.proofs.lemmas.Result.{err_from_is_err_and}

pub returns-in_err-opened-clause-tables : goal.returns-in_err-opened-clause-tables
returns-in_err-opened-clause-tables g c =
    let p = err_from_is_err_and c.from_residual.result c.from_residual.ensures.1 in
    let on = c.args.on in
    rw (p.1, p.2) (not_opened (text_on on) (vec_items on.tables.ellipsis) g.row.M.Denot g.row.M-Width.Denot c.in_err-opened.field-0.0 c.in_err-opened.ensures.answer)

pub returns-in_err-order-clause-tables : goal.returns-in_err-order-clause-tables
returns-in_err-order-clause-tables g c =
    let r = c.from_residual-in_err-order.result in
    let p = err_from_is_err_and r c.from_residual-in_err-order.ensures.1 in
    let on = c.args.on in
    was_opened (text_on on) (vec_items on.tables.ellipsis) g.row.M.Denot g.row.M-Width.Denot c.in_ok-opened.opened c.in_ok-opened.ensures.answer r (λ _. ⊥) (rw p.1 p.2)

pub returns-clause-tables : goal.returns-clause-tables
returns-clause-tables g c =
    let on = c.args.on in
    was_opened (text_on on) (vec_items on.tables.ellipsis) g.row.M.Denot g.row.M-Width.Denot c.in_ok-opened.opened c.in_ok-opened.ensures.answer c.perform_all.result _ c.perform_all.ensures

pub returns-clause-lawful : goal.returns-clause-lawful
returns-clause-lawful g c =
    let a = c.args in
    let leaves = c.in_ok-opened.ensures.leaves in
    let rs = c.deref_mut.result.now in
    let os = c.deref_mut-2.result.now in
    let ranges : length rs ≡ a.range_places = omega (arith, ap length c.deref_mut.ensures.value, c.in_ok-ranges.ensures.len, c.in_ok-ranges.ranges.ok.0) in
    let order : length os ≡ a.order_places = omega (arith, ap length c.deref_mut-2.ensures.value, c.in_ok-order.ensures.len, c.in_ok-order.order.ok.0) in
    lawful g.M.Measure a.on c.open.new.paragraph c.in_ok-opened.opened leaves.0 leaves.1 rs os a.range_places a.order_places ranges order a.script.now
    c.perform_all.result c.perform_all.ensures c.runs_are_lawful.ensures.run
