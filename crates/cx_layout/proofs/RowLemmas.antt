-- Tables of rows: what is put behind them or into them.
use Rattle.std.proofs.Common.{◌≡◌, ℕ, zero, suc, ◌<◌, [], ◌∷◌, ◌++◌, length, take, Option, None, Some, slice_set, refl, ap, ◌∙◌, arith}
use Rattle.cx_core.specs.Layouts.{CLayouts, CRow, row_at}

-- a record that isn't laid out changes nothing behind the others
pub row_at-push : (rows : CLayouts) (number : ℕ) → row_at rows number ≡ row_at (rows ++ None ∷ []) number
row_at-push [] zero = refl
row_at-push [] (suc n) = refl
row_at-push (row ∷ rows) zero = refl
row_at-push (row ∷ rows) (suc n) = row_at-push rows n

pub row_at-set : (rows : CLayouts) (number : ℕ) (row : CRow) → number < length rows → row_at (slice_set rows number (Some row)) number ≡ Some row
row_at-set [] number row within = absurd (omega arith)
row_at-set (first ∷ rows) zero row within = refl
row_at-set (first ∷ rows) (suc n) row within = row_at-set rows n row (omega arith)

pub row_at-set_other : (rows : CLayouts) (number other : ℕ) (row : CRow) → (other ≡ number → ⊥) → row_at (slice_set rows number (Some row)) other ≡ row_at rows other
row_at-set_other [] number other row apart = refl
row_at-set_other (first ∷ rows) zero zero row apart = absurd (apart refl)
row_at-set_other (first ∷ rows) zero (suc k) row apart = refl
row_at-set_other (first ∷ rows) (suc n) zero row apart = refl
row_at-set_other (first ∷ rows) (suc n) (suc k) row apart = row_at-set_other rows n k row (λ e. apart (ap suc e))

-- the first rows
pub row_at-take : (rows : CLayouts) (count number : ℕ) → number < count → row_at (take count rows) number ≡ row_at rows number
row_at-take rows zero number within = absurd (omega (arith, within))
row_at-take [] (suc n) number within = refl
row_at-take (row ∷ rows) (suc n) zero within = refl
row_at-take (row ∷ rows) (suc n) (suc k) within = row_at-take rows n k (omega (arith, within))

-- tables of as many records that lay out the same ones, in the same way
pub same_rows : (one other : CLayouts) → length one ≡ length other → ((number : ℕ) → number < length one → row_at one number ≡ row_at other number) → one ≡ other
same_rows [] [] long same = refl
same_rows [] (row ∷ rows) long same = absurd (omega (arith, long))
same_rows (row ∷ rows) [] long same = absurd (omega (arith, long))
same_rows (row ∷ rows) (first ∷ others) long same =
    ap (λ (head : Option CRow). head ∷ rows) (same 0 (omega arith))
    ∙ ap (λ (rest : CLayouts). first ∷ rest) (same_rows rows others (omega (arith, long)) (λ number within. same (suc number) (omega (arith, within))))
