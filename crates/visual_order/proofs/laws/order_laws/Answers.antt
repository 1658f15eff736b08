use Rattle.std.proofs.Common.{refl}
use Rattle.visual_order.proofs.RunPlaces.{run_law}
use Rattle.visual_order.proofs.Theorems.{pair_law, once_law}
use Rattle.visual_order.proofs.laws.order_laws.Goals as goal

pub returns : goal.returns
returns c =
    record {
      runs = run_law;
      pairs = pair_law;
      once = once_law;
      examples = (refl, refl, refl, refl, refl);
      standard = (refl, refl, refl, refl);
    }
