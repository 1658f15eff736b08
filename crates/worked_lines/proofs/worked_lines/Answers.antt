use Rattle.std.proofs.Common.{refl}
use lib.Ieee.{le}
use Rattle.worked_lines.proofs.worked_lines.Goals as goal

pub returns : goal.returns
unfolding le
returns c =
    record {
      all_fits = record { granted = refl; answered = refl };
      cut = record { granted = refl; answered = refl };
      passes = record { granted = refl; answered = refl };
      none_shown = record { granted = refl; answered = refl };
      parted = record { granted = refl; answered = refl };
      seen_turned = record { granted = refl; answered = refl };
      taken = record { granted = refl; answered = refl };
      taken_turned = record { granted = refl; answered = refl };
      turned_singly = refl;
    }
