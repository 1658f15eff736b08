use Rattle.std.proofs.Common.{◌≡◌, ℕ, ◌++◌, map, length, drop, sym, ap, ap₂, rules}
use Rattle.std.proofs.lemmas.List.{length-map}
use Rattle.visual_order.specs.VisualOrder.{visual}
use Rattle.visual_order.proofs.Theorems.{front_indices, front_pairs, front_once}
use Rattle.visual_order.proofs.reordering.reorder.Goals as goal

pub returns : goal.returns
returns g c =
    let elements = c.args.elements.now in
    let before = c.args.order.now in
    let levels = map g.E.Leveled.depth elements in
    let len : length levels ≡ length elements = length-map elements g.E.Leveled.depth in
    let now = c.arrange.new.line ++ drop (length elements) before in
    let rest = drop (length levels) before in
    let is : now ≡ visual levels ++ rest = ap₂ ◌++◌ c.arrange.ensures (ap (λ (k : ℕ). drop k before) (sym len)) in
    record {
      answer = search rules;
      list = is;
      indices = front_indices levels rest now (length elements) len is;
      once = front_once levels rest now (length elements) len is;
      pairs = front_pairs levels rest now (length elements) len is;
    }
