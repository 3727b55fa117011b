-- A number searched for in a table.
use Rattle.std.proofs.Common.{◌≡◌, ◌≢◌, ℕ, suc, ◌+◌, ◌<◌, ◌≤◌, Bool, true, false, List, [], ◌∷◌, ◌++◌, length, take, drop, get_or, refl, sym, ◌∙◌, ap, subst, arith, Some, None, Ok, Err, ok_or, ◌==◌, eq-eqb}
use Rattle.std.specs.Prelude.{nat_lt}
use Rattle.std.specs.List.Sorted.{IsPartitionedBy, IsPartitionPoint}
use Rattle.std.proofs.lemmas.Bool.{cond-false, cond-true, ne_eqb}
use Rattle.std.proofs.lemmas.Bool.Decides.{nat_tests}
use Rattle.std.proofs.lemmas.List.{take-append-drop, drop_more, get_or_default}
use Rattle.mem_region.specs.declared.table.Live.{Live}
use Rattle.mem_bytes.specs.declared.fault.Fault.TheVariants.{Dead}
use Rattle.mem_region.specs.Layout.{lookup, found, AreLaid, IsTable, NoneHas, HasAt, Has}
use Rattle.mem_region.proofs.Laid.{rising, laid_split, bounds}

-- a block's number is below another
abbrev pub is_below : ℕ → Live → Bool
is_below number live = nat_lt live.number number

pub partitioned : (table : List Live) (number : ℕ) → IsTable table → IsPartitionedBy (is_below number) table
partitioned table number it i j d p q below =
    let rise = rising table 0 it.next 0 it.end i j d it.laid p q in
    grind (arith, nat_tests)

-- no block has the number where all are below it
pub none_below : (table : List Live) (number index : ℕ) → IsPartitionPoint (λ y. is_below number y ≡ true) (λ y. is_below number y ≡ false) table index → length table ≤ index → NoneHas table number
none_below table number index point past k d p same =
    let below = point.0 k d (omega arith) (omega arith) in grind (arith, nat_tests)

-- no block has the number where that at the index hasn't it
pub none_at : (table : List Live) (number index : ℕ) (e : Live) → IsTable table → IsPartitionPoint (λ y. is_below number y ≡ true) (λ y. is_below number y ≡ false) table index → index < length table → (get_or table index e).number ≢ number → NoneHas table number
none_at table number index e it point within other k d p same =
    let below : k < index → is_below number (get_or table k d) ≡ true = λ h. point.0 k d (omega arith) h in
    let first : is_below number (get_or table index e) ≡ false = point.1 index e (omega arith) within in
    let rise : index ≤ k → (get_or table index d).number ≤ (get_or table k d).number = λ h. rising table 0 it.next 0 it.end index k d it.laid h p in
    let one : (get_or table index d).number ≡ (get_or table index e).number = ap (λ live. live.number) (get_or_default table index d e within) in
    grind (arith, nat_tests)

-- a table is what is before an index, the block at it, and what is behind
pub parts_at : (table : List Live) (index : ℕ) (d : Live) → index < length table → table ≡ take index table ++ get_or table index d ∷ drop (index + 1) table
parts_at table index d within =
    sym (take-append-drop index table) ∙ ap (λ xs. take index table ++ xs) (drop_more table index d within)

pub has : (table : List Live) (number index : ℕ) (d : Live) → IsTable table → HasAt table number index → Has table number (get_or table index d)
has table number index d it at =
    let live : Live = get_or table index d in
    let parts = parts_at table index d at.within in
    let split = laid_split (take index table) live (drop (index + 1) table) 0 it.next 0 it.end (subst (AreLaid 0 it.next 0 it.end) parts it.laid) in
    let within = bounds (drop (index + 1) table) (suc live.number) it.next (live.start + live.size) it.end split.1.2 in
    let few = it.fits in
    record { before = take index table; after = drop (index + 1) table; parts = parts; same = at.same d; fits = omega arith }

-- ---- what is found

lookup_none : (table : List Live) (number : ℕ) → NoneHas table number → lookup table number ≡ None
lookup_none [] number none = refl
lookup_none (live ∷ others) number none =
    cond-false (live.number == number) (Some live) (lookup others number) (ne_eqb live.number number (none 0 live (omega arith)))
    ∙ lookup_none others number (λ k d p. none (suc k) d (omega arith))

pub found_none : (table : List Live) (number : ℕ) → NoneHas table number → Err Dead ≡ found table number
found_none table number none = ap (λ o. ok_or o Dead) (sym (lookup_none table number none))

-- those before have lower numbers
lookup_behind : (before rest : List Live) (low number next start end : ℕ) → AreLaid low number start end before → lookup (before ++ rest) number ≡ lookup rest number
lookup_behind [] rest low number next start end laid = refl
lookup_behind (live ∷ before) rest low number next start end laid =
    let within = bounds before (suc live.number) number (start + live.size) end laid.2 in
    cond-false (live.number == number) (Some live) (lookup (before ++ rest) number) (ne_eqb live.number number (λ same. omega arith))
    ∙ lookup_behind before rest (suc live.number) number next (start + live.size) end laid.2

pub lookup_has : (table : List Live) (number : ℕ) (live : Live) → IsTable table → Has table number live → lookup table number ≡ Some live
lookup_has table number live it has =
    let split = laid_split has.before live has.after 0 it.next 0 it.end (subst (AreLaid 0 it.next 0 it.end) has.parts it.laid) in
    ap (λ t. lookup t number) has.parts
    ∙ ap (lookup (has.before ++ live ∷ has.after)) (sym has.same)
    ∙ lookup_behind has.before (live ∷ has.after) 0 live.number it.next 0 live.start split.0
    ∙ cond-true (live.number == live.number) (Some live) (lookup has.after live.number) (eq-eqb live.number live.number refl)

pub found_has : (table : List Live) (number index : ℕ) (d : Live) → IsTable table → HasAt table number index → Ok (get_or table index d) ≡ found table number
found_has table number index d it at =
    ap (λ o. ok_or o Dead) (sym (lookup_has table number (get_or table index d) it (has table number index d it at)))
