-- Worked examples of the texts that string literals store.
use Rattle.std.proofs.Common.{◌≡◌, ℕ, ℤ, pos, negsuc, false, List, [], ◌∷◌, Some, None, refl, codes}
use Rattle.cx_core.specs.declared.ty.Basic.{Basic}
use Rattle.cx_core.specs.declared.ty.Basic.TheVariants.{Char, Short}
use Rattle.cx_core.specs.Texts.{text_of_puts}
use Rattle.cx_core.specs.Trees.{ty, basic, expr, whole, CPut, put, CPuts, no_puts, more_puts}

abbrev stored_at : Basic → ℕ → ℤ → CPut
stored_at kind index value =
    put (record { byte = index; bit = 0; width = 0 }) (ty (basic kind) false) (expr (ty (basic kind) false) (record { unit = 0; line = 1 }) (whole value))

abbrev char_at : ℕ → ℤ → CPut
char_at index value = stored_at Char index value

-- "ab"
ab : text_of_puts (more_puts (char_at 0 (pos 97)) (more_puts (char_at 1 (pos 98)) (more_puts (char_at 2 (pos 0)) no_puts))) ≡ Some (codes "ab")
ab = refl

-- ""
nothing : text_of_puts (more_puts (char_at 0 (pos 0)) no_puts) ≡ Some []
nothing = refl

-- "\377\0": a byte above 127 is a negative `char`, and a zero may stand within
bytes : text_of_puts (more_puts (char_at 0 (negsuc 0)) (more_puts (char_at 1 (pos 0)) (more_puts (char_at 2 (pos 0)) no_puts))) ≡ Some (255 ∷ 0 ∷ [])
bytes = refl

-- no text: without a zero at the end, with a gap, in another order, of another type, or of nothing
unended : text_of_puts (more_puts (char_at 0 (pos 97)) no_puts) ≡ None
unended = refl

with_gap : text_of_puts (more_puts (char_at 0 (pos 97)) (more_puts (char_at 2 (pos 0)) no_puts)) ≡ None
with_gap = refl

in_other_order : text_of_puts (more_puts (char_at 1 (pos 0)) (more_puts (char_at 0 (pos 97)) no_puts)) ≡ None
in_other_order = refl

of_other_type : text_of_puts (more_puts (stored_at Short 0 (pos 0)) no_puts) ≡ None
of_other_type = refl

of_nothing : text_of_puts no_puts ≡ None
of_nothing = refl
