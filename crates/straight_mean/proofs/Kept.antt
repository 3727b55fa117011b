-- What isn't among ranges stays: for no ranges, for those of two pieces one after another, and for a store.
use Rattle.std.proofs.Common.{◌≡◌, inl, inr, ℕ, ◌+◌, ◌*◌, Bool, true, false, ◌&&◌, ◌||◌, ◌==◌, nat_lt, List, [], ◌∷◌, ◌++◌, Ok, refl, sym, ◌∙◌, arith}
use Rattle.std.proofs.lemmas.Bool.Decides.{nat_tests}
use Rattle.std.proofs.lemmas.List.Folds.{list_any-append}
use Rattle.std.specs.List.{list_any}
use Rattle.cr_base.specs.declared.scalar.Scalar.{Scalar}
use Rattle.straight_mean.specs.Marks.{Range, bits_at, overlap, any_overlap}
use Rattle.straight_mean.specs.Unwritten.{bits_of_bytes, Avoids, KeepsBeside}
use Rattle.mem_bytes.proofs.Written.{put_writes, cells_stay, values_stay}
use Rattle.mem_bytes.specs.Access.{after_put}
use Rattle.mem_bytes.specs.Coding.{IsScalar, IsValueOf, scalar_size}
use Rattle.mem_bytes.specs.Laws.{AreApart}
use Rattle.mem_bytes.specs.Memory.{Blocks}
use Rattle.mem_bytes.specs.declared.value.Ptr.{Ptr}
use Rattle.mem_bytes.specs.declared.value.Value.{Value}

-- ---- ranges

neither_first : (one other : Bool) → (one || other) ≡ false → one ≡ false
neither_first true other is = absurd (cc)
neither_first false other is = refl

neither_second : (one other : Bool) → (one || other) ≡ false → other ≡ false
neither_second true other is = absurd (cc)
neither_second false other is = is

abbrev meets : Range → Range → Bool
meets range one = list_any (overlap one) (range ∷ [])

pub avoids_first : (first second : List Range) (range : Range) → Avoids (first ++ second) range → Avoids first range
avoids_first first second range is =
    neither_first (any_overlap first (range ∷ [])) (any_overlap second (range ∷ []))
    (sym (list_any-append (meets range) first second) ∙ is)

pub avoids_second : (first second : List Range) (range : Range) → Avoids (first ++ second) range → Avoids second range
avoids_second first second range is =
    neither_second (any_overlap first (range ∷ [])) (any_overlap second (range ∷ []))
    (sym (list_any-append (meets range) first second) ∙ is)

-- ---- memories

pub keeps_same : (memory : Blocks) → KeepsBeside [] memory memory
keeps_same memory = record { cells = λ at count is. refl; values = λ at kind is. refl }

pub keeps_after : (first second : List Range) (before middle after : Blocks) → KeepsBeside first before middle → KeepsBeside second middle after →
    KeepsBeside (first ++ second) before after
keeps_after first second before middle after one other = record {
  cells = λ at count is.
      other.cells at count (avoids_second first second (bits_of_bytes at count) is)
      ∙ one.cells at count (avoids_first first second (bits_of_bytes at count) is);
  values = λ at kind is.
      other.values at kind (avoids_second first second (bits_at at kind) is)
      ∙ one.values at kind (avoids_first first second (bits_at at kind) is);
}

-- places whose bits don't meet have no cell in common
apart_by : (at other : Ptr) (count many : ℕ) (block from below : Bool) →
    (at.block == other.block) ≡ block → nat_lt (8 * at.offset) (8 * other.offset + 8 * many) ≡ from → nat_lt (8 * other.offset) (8 * at.offset + 8 * count) ≡ below →
    (block && from && below) ≡ false → AreApart at count other many
apart_by at other count many false from below same one two is = inl (grind (arith, nat_tests))
apart_by at other count many true false below same one two is = inr (inr (grind (arith, nat_tests)))
apart_by at other count many true true false same one two is = inr (inl (grind (arith, nat_tests)))
apart_by at other count many true true true same one two is = absurd (cc)

only_one : (test : Bool) → (test || false) ≡ false → test ≡ false
only_one true is = absurd (cc)
only_one false is = refl

apart_bytes : (at other : Ptr) (count many : ℕ) → Avoids (bits_of_bytes at count ∷ []) (bits_of_bytes other many) → AreApart at count other many
apart_bytes at other count many is =
    apart_by at other count many (at.block == other.block) (nat_lt (8 * at.offset) (8 * other.offset + 8 * many)) (nat_lt (8 * other.offset) (8 * at.offset + 8 * count))
    refl refl refl
    (only_one (overlap (bits_of_bytes at count) (bits_of_bytes other many)) (only_one (meets (bits_of_bytes other many) (bits_of_bytes at count)) is))

-- a store changes its own bits alone
pub keeps_store : (memory after : Blocks) (at : Ptr) (kind : Scalar) (value : Value) → IsScalar kind → IsValueOf kind value → after_put memory at kind value ≡ Ok after →
    KeepsBeside (bits_at at kind ∷ []) memory after
keeps_store memory after at kind value is_scalar is_value stored =
    let writes = put_writes memory after at kind value is_scalar is_value stored in
    record {
      cells = λ other many is. cells_stay memory after at other (scalar_size kind) many writes (apart_bytes at other (scalar_size kind) many is);
      values = λ other scalar is. values_stay memory after at other (scalar_size kind) scalar writes (apart_bytes at other (scalar_size kind) (scalar_size scalar) is);
    }
