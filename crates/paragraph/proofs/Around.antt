-- The search for the row around a place
use Rattle.std.proofs.Common.{◌≡◌, ℕ, zero, suc, ◌+◌, ◌-◌, ◌<◌, ◌≤◌, Bool, true, false, ltb, sym, ap, ◌∙◌, subst, inl, inr, add-zero, arith}
use Rattle.std.proofs.lemmas.Bool.{cases_lt, lt-ltb, le-ltb}
use Rattle.paragraph.specs.Before.{around}

module _ (begins : ℕ → ℕ) (at : ℕ) where
  step : Bool → ℕ → ℕ → ℕ
  step b i n = elim b [ true ↦ i | false ↦ around begins at (i + 1) n ]

  stepped : (b : Bool) (i n : ℕ) → ltb at (begins (i + 1)) ≡ b → around begins at i (suc n) ≡ step b i n
  unfolding step
  stepped b i n e = ap (λ b. step b i n) e

  here : (i n : ℕ) → at < begins (i + 1) → around begins at i (suc n) ≡ i
  unfolding step
  here i n h = stepped true i n (lt-ltb at (begins (i + 1)) h)

  further : (i n : ℕ) → begins (i + 1) ≤ at → around begins at i (suc n) ≡ around begins at (i + 1) n
  unfolding step
  further i n h = stepped false i n (le-ltb at (begins (i + 1)) h)

  -- one row on, of n rows in all
  pub around_here : (i n : ℕ) → i < n → at < begins (i + 1) → around begins at i (n - i) ≡ i
  around_here i n l h =
      let e : n - i ≡ suc (n - i - 1) = omega arith in
      ap (around begins at i) e ∙ here i (n - i - 1) h

  pub around_on : (i n : ℕ) → i < n → begins (i + 1) ≤ at → around begins at i (n - i) ≡ around begins at (i + 1) (n - (i + 1))
  around_on i n l h =
      let e : n - i ≡ suc (n - i - 1) = omega arith in
      let f : n - i - 1 ≡ n - (i + 1) = omega arith in
      ap (around begins at i) e ∙ further i (n - i - 1) h ∙ ap (around begins at (i + 1)) f

  -- it is found, if the place stands in the rows
  pub record Around (i n k : ℕ) : Type 0 where
    pub from : i ≤ k
    pub in_rows : k < i + n
    pub low : begins k ≤ at
    pub high : at < begins (k + 1)

  pub found_around : (i n : ℕ) → begins i ≤ at → at < begins (i + n) → Around i n (around begins at i n)
  found_around i zero l h = absurd (omega (arith, ap begins (add-zero i)))
  found_around i (suc n) l h =
      elim (cases_lt at (begins (i + 1))) [
        | inl a ↦ subst (Around i (suc n)) (sym (here i n a)) (record { from = omega arith; in_rows = omega arith; low = l; high = a })
        | inr a ↦
            let e : i + suc n ≡ i + 1 + n = omega arith in
            let r = found_around (i + 1) n a (omega (arith, ap begins e)) in
            subst (Around i (suc n)) (sym (further i n a))
            (record { from = omega (arith, r.from); in_rows = omega (arith, r.in_rows); low = r.low; high = r.high })
      ]
