use Rattle.std.proofs.Common.{ℕ, ◌<◌, Bool, length, sym, ap, ◌∙◌, arith, rules}
use Rattle.walk.specs.Fit.{fits}
use Rattle.walk.specs.Parts.{next}
use Rattle.walk.proofs.Fits.{edge_end, goes_on, stops, width_is}
use Rattle.walk.proofs.Orders.{left, visited}
use Rattle.walk.proofs.fit_glyphs.fit_glyphs.Goals as goal

pub offset_bounds-row-i : goal.offset_bounds-row-i
offset_bounds-row-i g c = let h : c.in-Some.i < length c.args.row.now = omega (arith, c.loop-i.invariant.within, (visited c.in-Some.ensures.steps).1) in search (rules, h)

pub loop-i-preserved : goal.loop-i-preserved
loop-i-preserved g c =
    let k = g.M.Measure in
    let m = c.args.m.now in
    let row = c.args.row.now in
    let f = c.in-Some.ensures.steps in
    let here = c.loop-i.invariant in
    let there : c.in-Some.i < length row = omega (arith, here.within, (visited f).1) in
    let x = width_is k m row c.in-Some.i _ there (c.width-x.ensures ∙ ap (k.width_of m) c.index-row-i.is) in
    record {
      within = omega (arith, here.within, (left f).1);
      as_up = f.as_up ∙ here.as_up;
      at_edge = c.edge-edge-in-Some.ensures;
      goes = goes_on k m row c.args.places.up f here.as_up c.args.before c.args.limit c.loop-i.width x c.sum.ensures c.sum-in-Some.ensures c.if-over.ensures c.sum-width.ensures ∙ here.goes;
    }

pub returns-then-over : goal.returns-then-over
returns-then-over g c =
    let k = g.M.Measure in
    let m = c.args.m.now in
    let row = c.args.row.now in
    let f = c.in-Some.ensures.steps in
    let here = c.loop-i.invariant in
    let there : c.in-Some.i < length row = omega (arith, here.within, (visited f).1) in
    let x = width_is k m row c.in-Some.i _ there (c.width-x.ensures ∙ ap (k.width_of m) c.index-row-i.is) in
    let edge = here.at_edge ∙ ap (λ (b : Bool). next b c.loop-i.left.first c.loop-i.left.count) here.as_up in
    ap (λ (e : ℕ). (e, c.loop-i.width)) edge
    ∙ sym (stops k m row c.args.places.up f here.as_up c.args.before c.args.limit c.loop-i.width x c.sum.ensures c.sum-in-Some.ensures c.if-over.ensures)
    ∙ here.goes

pub returns : goal.returns
returns g c =
    let here = c.loop-i.invariant in
    let none = c.in_default.ensures.steps.0 in
    let edge = here.at_edge ∙ edge_end c.loop-i.left.up c.loop-i.left.first c.loop-i.left.count none in
    ap (λ (e : ℕ). (e, c.loop-i.width)) edge
    ∙ sym (ap (λ (n : ℕ). fits g.M.Measure c.args.m.now c.args.row.now c.args.places.up c.args.before c.args.limit c.loop-i.width c.loop-i.left.first n) none)
    ∙ here.goes
