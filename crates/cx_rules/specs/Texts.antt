-- What is stored in the object of a string literal (ISO C99, 6.4.5p5).
use Rattle.std.specs.Prelude.{ℕ, ◌+◌, pos, true, List, [], ◌∷◌}
use Rattle.cr_base.specs.declared.refusal.Place.{Place as TextPlace}
use Rattle.cr_base.specs.declared.scalar.Scalar.TheVariants.{Whole}
use Rattle.cr_base.specs.Scalar.{wrapped}
use Rattle.cx_core.specs.Trees.{CExpr, expr, whole, CPut, put}
use Rattle.cx_rules.specs.Initial.{char_type}

-- a byte as a value of `char`
abbrev pub byte_expr : TextPlace → ℕ → CExpr
byte_expr at byte = expr char_type at (whole (wrapped (Whole 8 true) (pos byte)))

abbrev pub byte_put : TextPlace → ℕ → ℕ → CPut
byte_put at index byte = put (record { byte = index; bit = 0; width = 0 }) char_type (byte_expr at byte)

-- the bytes from an element on
abbrev pub byte_puts : TextPlace → ℕ → List ℕ → List CPut
byte_puts at index [] = []
byte_puts at index (byte ∷ bytes) = byte_put at index byte ∷ byte_puts at (index + 1) bytes
