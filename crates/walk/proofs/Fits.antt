-- One glyph more that fits, or the first that does not.
use Rattle.std.proofs.Common.{◌≡◌, ℕ, zero, suc, ◌+◌, ◌<◌, ◌≤◌, Bool, true, false, cond, eqb, List, length, get_or, sym, ap, ◌∙◌, arith}
use Rattle.std.proofs.lemmas.List.{get_or-map}
use Rattle.glyph.specs.declared.glyph.Glyph.{Glyph}
use Rattle.measure.specs.declared.measure.Measure.{Ghosts}
use Rattle.walk.specs.Parts.{next, later}
use Rattle.walk.specs.Fit.{cut, fits, width_at}
use Rattle.walk.specs.Places.{Follows}
use Rattle.walk.specs.Walk.{taken}
use Rattle.walk.specs.declared.places.Places.{Places}
use Rattle.walk.specs.declared.line.Rule.{Rule}
use Rattle.walk.specs.declared.line.Rule.TheVariants.{Never, Closing, Taking}
use Rattle.walk.proofs.Orders.{next_in, later_in}

pub width_is : {S W : Type 0} (k : Ghosts S W) (m : S) (row : List Glyph) (i : ℕ) (d : Glyph) {x : W} → i < length row → x ≡ k.width_of m (get_or row i d) → x ≡ width_at k m row i
width_is k m row i d h q = q ∙ sym (get_or-map (k.width_of m) row i d (k.nil_of m) h)

-- at the glyph i, and then the places t
module _ {S W : Type 0} (k : Ghosts S W) (m : S) (row : List Glyph) (up : Bool) {s t : Places} {i : ℕ} (f : Follows s t i) (as_up : s.up ≡ up) where
  i_is : i ≡ next up s.first t.count
  i_is = f.place ∙ ap (λ (b : Bool). next b s.first t.count) as_up

  l_is : t.first ≡ later up s.first
  l_is = f.later_first ∙ ap (λ (b : Bool). later b s.first) as_up

  module _ (before limit g : W) {x y z : W} (x_is : x ≡ width_at k m row i) (y_is : y ≡ k.sum_of m before g) (z_is : z ≡ k.sum_of m y x) where
    over_is : k.over_of m (k.sum_of m (k.sum_of m before g) (width_at k m row (next up s.first t.count))) limit ≡ k.over_of m z limit
    over_is =
        let p : x ≡ width_at k m row (next up s.first t.count) = x_is ∙ ap (width_at k m row) i_is in
        rw (z_is, y_is, p)

    pub stops : true ≡ k.over_of m z limit → fits k m row up before limit g s.first s.count ≡ (next up s.first s.count, g)
    stops e =
        let n = f.counts in
        let b = over_is ∙ sym e in
        rw (n, b)

    pub goes_on : {v : W} → false ≡ k.over_of m z limit → v ≡ k.sum_of m g x → fits k m row up before limit v t.first t.count ≡ fits k m row up before limit g s.first s.count
    goes_on {v} e v_is =
        let n = f.counts in
        let b = over_is ∙ sym e in
        let w : v ≡ k.sum_of m g (width_at k m row (next up s.first t.count)) = v_is ∙ ap (k.sum_of m g) (x_is ∙ ap (width_at k m row) i_is) in
        rw (n, b, w, l_is)

-- where no place is left
pub edge_end : (up : Bool) (at n : ℕ) → n ≡ 0 → next up at n ≡ at
edge_end true at n h = omega arith
edge_end false at n h = omega arith

-- the cut lies in the word's part
module _ {S W : Type 0} (k : Ghosts S W) (m : S) (row : List Glyph) (up : Bool) (before : W) where
  fits_in : (limit g : W) (at n : ℕ) → (at ≤ (fits k m row up before limit g at n).0) × ((fits k m row up before limit g at n).0 ≤ at + n)
  fits_in limit g at zero = (omega arith, omega arith)
  fits_in limit g at (suc n) =
      let x = width_at k m row (next up at n) in
      let on = fits_in limit (k.sum_of m g x) (later up at) n in
      let l = later_in up at in
      elim (k.over_of m (k.sum_of m (k.sum_of m before g) x) limit) as (λ v. (at ≤ (cond v (next up at (suc n), g) (fits k m row up before limit (k.sum_of m g x) (later up at) n)).0) × ((cond v (next up at (suc n), g) (fits k m row up before limit (k.sum_of m g x) (later up at) n)).0 ≤ at + suc n)) [
        | true ↦ next_in up at (suc n)
        | false ↦ (omega (arith, on.0, l.0), omega (arith, on.1, l.1))
      ]

  pub cut_in : (rule : Rule W) (laid at n : ℕ) → (at ≤ (cut k m rule row up before laid at n).0) × ((cut k m rule row up before laid at n).0 ≤ at + n)
  cut_in Never laid at n = next_in up at n
  cut_in (Closing width ellipsis) laid at n = fits_in (k.difference_of m width ellipsis) (k.nil_of m) at n
  cut_in (Taking width) laid at zero = next_in up at zero
  cut_in (Taking width) laid at (suc n) =
      let v = k.sum_of m (k.nil_of m) (width_at k m row (next up at n)) in
      let on = fits_in width v (later up at) n in
      let l = later_in up at in
      elim (eqb laid 0) as (λ b. (at ≤ (cond b (fits k m row up before width v (later up at) n) (next up at (suc n), k.nil_of m)).0) × ((cond b (fits k m row up before width v (later up at) n) (next up at (suc n), k.nil_of m)).0 ≤ at + suc n)) [
        | true ↦ (omega (arith, on.0, l.0), omega (arith, on.1, l.1))
        | false ↦ next_in up at (suc n)
      ]

-- what is taken up to the cut is no more than the part
pub taken_in : {S W : Type 0} (k : Ghosts S W) (m : S) (row : List Glyph) (up : Bool) (before : W) (rule : Rule W) (laid at n : ℕ) (r : ℕ × W) → r ≡ cut k m rule row up before laid at n → taken up at n r.0 ≤ n
taken_in {S} {W} k m row up before rule laid at n r e =
    let both = cut_in k m row up before rule laid at n in
    by up r.0 (omega (arith, ap (λ (y : ℕ × W). y.0) e, both.0)) (omega (arith, ap (λ (y : ℕ × W). y.0) e, both.1))
  where
    by : (u : Bool) (c : ℕ) → at ≤ c → c ≤ at + n → taken u at n c ≤ n
    by true c l h = omega arith
    by false c l h = omega arith
