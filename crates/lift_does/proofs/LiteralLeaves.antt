-- Values that leave no bit of their object: C unsets all of its cells before they are stored (ISO C99, 6.7.8).
use Rattle.std.proofs.Common.{◌≡◌, ℕ, zero, suc, ◌+◌, ◌*◌, ◌<◌, ◌≤◌, ◌||◌, nat_lt, max, Bool, true, false, List, length, replicate, slice_index_or, Some, Ok, rules, refl, sym, ap, subst, ◌∙◌, arith}
use Rattle.std.proofs.lemmas.Bool.Decides.{nat_tests}
use Rattle.std.proofs.lemmas.List.{same_lists, places}
use Rattle.cr_base.specs.declared.layout.Laid.{Laid}
use Rattle.cr_base.specs.declared.layout.Spot.{Spot}
use Rattle.cx_core.specs.BitFields.{has_bit_fields}
use Rattle.cx_core.specs.Trees.{CTy, put, CPuts, no_puts, more_puts}
use Rattle.cx_core.specs.Typing.{CHome, ArePuts}
use Rattle.cx_mean.specs.Initialisers.{with_cells, unset_by, unset_put, unset_puts, first_cells}
use Rattle.cx_mean.specs.Operands.{needed}
use Rattle.cx_mean.specs.Settings.{extent_in}
use Rattle.lift_calls.specs.Programs.{Setting, setting_in}
use Rattle.lift_does.proofs.Nodes.{and_then_is}
use Rattle.lift_does.proofs.PutsStores.{needed_is, part_bits}
use Rattle.lift_exprs.specs.Names.{Names}
use Rattle.lift_exprs.specs.Objects.{bit_behind, leave_bits}
use Rattle.mem_bytes.specs.declared.cell.Cell.{Cell}
use Rattle.mem_bytes.specs.Memory.{byte_cell, unset_cell}

-- no value is that of a bit-field
abbrev pub ArePlain : CPuts → Type 0
ArePlain no_puts = Unit {0}
ArePlain (more_puts (put spot type value) others) = (spot.width ≡ 0) × ArePlain others

-- so it is where the program has no bit-field
pub are_plain : (home : CHome) (holder : CTy) (puts : CPuts) → has_bit_fields home.program.types ≡ false → ArePuts home holder puts → ArePlain puts
are_plain home holder no_puts none are = tt
are_plain home holder (more_puts (put spot type value) others) none are = (by spot.width refl, are_plain home holder others none are.1)
  where
    by : (width : ℕ) → spot.width ≡ width → spot.width ≡ 0
    by zero e = e
    by (suc n) e =
        let has = part_bits home.program.types are.0.1.part.path holder (record { spot = spot; type = type }) are.0.1.part.leads are.0.1.part.named (λ zero_is. omega (arith, e, zero_is)) in
        let clash : true ≡ false = sym has ∙ none in cc (clash)

-- the first cells of a list are unset
abbrev AreUnset : ℕ → List Cell → Type 0
AreUnset many held = (k : ℕ) (d : Cell) → k < many → k < length held → slice_index_or held k d ≡ unset_cell

all_unset : (many : ℕ) (held : List Cell) → AreUnset many held → length held ≤ many → held ≡ replicate (length held) unset_cell
all_unset many held are less = same_lists _ _ (search (rules, places)) (λ k d l. let here = are k d (omega (arith, less, l)) l in grind (arith, places, here))

more_unset : (many byte size : ℕ) (held : List Cell) → AreUnset many held → byte ≤ many → AreUnset (max many (byte + size)) (with_cells byte (replicate size unset_cell) held)
more_unset many byte size held are less k d small inside = grind (arith, places, less, small, inside, are k d)

eights : (one other : ℕ) → max (8 * one) (8 * other) ≡ 8 * max one other
eights one other = omega arith

behind_plain : (names_of : Names) (spot : Spot) (type : CTy) (many size : ℕ) → spot.width ≡ 0 → names_of.size_of type ≡ size → max (8 * many) (bit_behind names_of spot type) ≡ 8 * max many (spot.byte + size)
behind_plain names_of spot type many size plain size_is = let rest = eights many (spot.byte + size) in rw (plain, size_is) rest

neither_is : (one other : Bool) → (one || other) ≡ false → (one ≡ false) × (other ≡ false)
neither_is false other is = (refl, is)
neither_is true other is = cc (is)

plain_unset : (spot : Spot) (size width : ℕ) (held : List Cell) → width ≡ 0 → unset_by spot size width held ≡ with_cells spot.byte (replicate size unset_cell) held
plain_unset spot size zero held is = refl
plain_unset spot size (suc n) held is = cc (is)

module _ (s : Setting) (names_of : Names) (sizes : (type : CTy) (laid : Laid) → extent_in (setting_in s) type ≡ Some laid → names_of.size_of type ≡ laid.size) (size : ℕ) where
  -- they unset all cells, as far as the object reaches
  unset_all : (puts : CPuts) (many : ℕ) (held given : List Cell) → ArePlain puts → leave_bits names_of puts (8 * many) (8 * size) ≡ false → AreUnset many held → unset_puts (setting_in s) puts held ≡ Ok given →
      (all : ℕ) × (size ≤ all) × AreUnset all given
  unset_all no_puts many held given plain leaves are e =
      let same : held ≡ given = cc (e) in
      (many, grind (arith, nat_tests, leaves), subst (AreUnset many) same are)
  unset_all (more_puts (put spot type value) others) many held given plain leaves are e =
      let both = neither_is (nat_lt (8 * many) (8 * spot.byte + spot.bit)) _ leaves in
      let less : spot.byte ≤ many = let begins = both.0 in grind (arith, nat_tests, begins) in
      let first = and_then_is (unset_put (setting_in s) (put spot type value) held) (λ after. unset_puts (setting_in s) others after) given e in
      let laid = and_then_is (needed (extent_in (setting_in s) type)) (λ laid. Ok (unset_by spot laid.size spot.width held)) first.0 first.1 in
      let after : unset_by spot laid.0.size spot.width held ≡ first.0 = let it = laid.2 in cc (it) in
      let size_is = sizes type laid.0 (needed_is (extent_in (setting_in s) type) laid.0 laid.1) in
      let behind : max (8 * many) (bit_behind names_of spot type) ≡ 8 * max many (spot.byte + laid.0.size) = behind_plain names_of spot type many laid.0.size plain.0 size_is in
      unset_all others (max many (spot.byte + laid.0.size)) first.0 given plain.1 (subst (λ (covered : ℕ). leave_bits names_of others covered (8 * size) ≡ false) behind both.1)
      (subst (AreUnset (max many (spot.byte + laid.0.size))) (sym (plain_unset spot laid.0.size spot.width held plain.0) ∙ after) (more_unset many spot.byte laid.0.size held are less)) first.2

  -- what C has before values that leave no bit
  pub first_unset : (puts : CPuts) (given : List Cell) → ArePlain puts → leave_bits names_of puts 0 (8 * size) ≡ false → first_cells (setting_in s) size (Some puts) ≡ Ok given → length given ≡ size →
      first_cells (setting_in s) size (Some puts) ≡ Ok (replicate size unset_cell)
  first_unset puts given plain leaves e many =
      let all = unset_all puts 0 (replicate size (byte_cell 0)) given plain leaves (λ k d less inside. absurd (omega (arith, less))) e in
      let less = all.1 in
      let same = all_unset all.0 given all.2 (omega (arith, less, many)) in
      e ∙ ap Ok (same ∙ ap (λ (one : ℕ). replicate one unset_cell) many)
