use Rattle.std.proofs.Common.{ap, ◌∙◌}
use Rattle.measure.proofs.RowNumbers.{row_meant, row_meant_few, room}
use Rattle.measure.proofs.rows.exact_row_width.Goals as goal

pub returns : goal.returns
returns g c =
    let told = ap g.M.ExactMeasure.number c.row_width.ensures in
    record {
      value = c.row_width.ensures;
      means = λ h. told ∙ row_meant c.exact.ensures c.args.row.now h;
      few = λ h. told ∙ row_meant_few c.exact.ensures c.args.row.now h;
      room = room c.exact.ensures;
    }
