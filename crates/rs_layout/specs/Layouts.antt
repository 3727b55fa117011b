-- Layouts as the code finds them: the record of which the innermost elements of an array are, the record of a name with the items
-- in front of it, and fields that are laid out as long as they aren't too large.
use Rattle.std.specs.Prelude.{ℕ, ◌-◌, ◌*◌, ◌≤◌, ◌<◌, nat_eq, nat_le, List, [], ◌∷◌, map, reverse, Option, Some, None, IfSome, bytes_eq, if◌then◌else◌, option_and_then}
use Rattle.cr_base.specs.Layout.{most_bytes, after, laid, spot}
use Rattle.cr_base.specs.declared.layout.Front.{Front}
use Rattle.cr_base.specs.declared.layout.Laid.{Laid}
use Rattle.rs_text.specs.Tree.{Ty, Integer, Boolean, Void, Pointer, Array, Code, Record, FieldTree, RecordTree, ItemTree, RecordItem, StaticItem, ExternItem, FunctionItem, ModuleTree}
use Rattle.rs_tree.specs.declared.ty.RPath.{RPath}
use Rattle.rs_tree.specs.Views.{item_view, record_view}
use Rattle.rs_layout.specs.declared.layout.Found.{Found}
use Rattle.rs_mean.specs.Lookups.{items_in}
use Rattle.rs_mean.specs.Layout.{laid_with, laid_among, repeated, within_most, piece_of, raised_by}

-- ---- types

-- the record that a type is, or of which the innermost elements of an array are
abbrev pub record_of : Ty → Option RPath
record_of (Integer ty) = None
record_of Boolean = None
record_of Void = None
record_of (Pointer target) = None
record_of (Array element size) = record_of element
record_of (Code params result) = None
record_of (Record m x) = Some (record { home = m; name = x })

-- a type that is laid out like this, or an array of which the innermost elements are
abbrev pub array_laid : Ty → Option Laid → Option Laid
array_laid (Integer ty) base = base
array_laid Boolean base = base
array_laid Void base = base
array_laid (Pointer target) base = base
array_laid (Array element size) base = option_and_then (repeated size) (array_laid element base)
array_laid (Code params result) base = base
array_laid (Record m x) base = base

-- without a record
abbrev pub plain_laid : Ty → Option Laid
plain_laid ty = laid_with (λ m x. None) ty

-- ---- records

-- the record of this item, if it has this name
abbrev pub record_named : List ℕ → ItemTree → Option RecordTree
record_named x (RecordItem one) = if bytes_eq one.name x then Some one else None
record_named x (StaticItem object) = None
record_named x (ExternItem outers) = None
record_named x (FunctionItem fun) = None

-- a record and the items in front of it, the last one first
pub record FoundRecord : Type 0 where
  pub one : RecordTree
  pub earlier : List ItemTree

abbrev pub found_view : Found → FoundRecord
found_view found = record { one = record_view found.one.now; earlier = reverse (map item_view found.earlier.now) }

abbrev pub first_found : Option RecordTree → List ItemTree → Option FoundRecord → Option FoundRecord
first_found (Some one) earlier others = Some (record { one = one; earlier = earlier })
first_found None earlier others = others

-- the record of a name among items, the last one first
abbrev pub found_among : List ℕ → List ItemTree → Option FoundRecord
found_among x [] = None
found_among x (item ∷ earlier) = first_found (record_named x item) earlier (found_among x earlier)

-- how a type is laid out by the records of a module that stand earlier, the last one first
abbrev pub by_front : List ℕ → List ItemTree → Ty → Option Laid
by_front home earlier ty = laid_with (λ m x. if bytes_eq m home then laid_among home earlier x else None) ty

-- ---- fields

-- what isn't too large
abbrev pub within_front : Front → Option Front
within_front front = if nat_le front.bits (8 * most_bytes) then Some front else None

-- what the fields in front and then one of this layout have taken, where that isn't too much
abbrev pub front_behind : Front → Laid → Option Front
front_behind front one = within_front (after front (piece_of one))

-- what the fields in front and then these have taken, where that isn't too much
abbrev pub fronts : (Ty → Option Laid) → Front → List FieldTree → Option Front
fronts layout front [] = Some front
fronts layout front (field ∷ fields) =
    option_and_then (λ one. option_and_then (λ next. fronts layout next fields) (front_behind front one)) (layout field.ty)

-- the record of which the fields have taken so much
abbrev pub finished : Option ℕ → Front → Option Laid
finished align front = within_most (laid (raised_by align front))

-- where the field with a number begins among fields that aren't too large, in bytes
abbrev pub byte_numbered : (Ty → Option Laid) → Front → List FieldTree → ℕ → Option ℕ
byte_numbered layout front [] f = None
byte_numbered layout front (field ∷ fields) f =
    option_and_then
    (λ one. if nat_eq f 0 then Some (spot front (piece_of one)).byte
    else option_and_then (λ next. byte_numbered layout next fields (f - 1)) (front_behind front one))
    (layout field.ty)

-- ---- what holds of them

-- a type that is laid out isn't too large, and has an alignment
abbrev pub IsFine : Laid → Type 0
IsFine one = (one.size ≤ most_bytes) × (0 < one.align) × (one.align ≤ 16)

abbrev pub IsFineFront : Front → Type 0
IsFineFront front = (front.bits ≤ 8 * most_bytes) × (0 < front.align) × (front.align ≤ 16)

-- no record is aligned to more than 16 bytes
abbrev pub IsAligned : Option ℕ → Type 0
IsAligned align = IfSome align (λ n. n ≤ 16)

abbrev pub AreAligned : List ItemTree → Type 0
AreAligned [] = Unit {0}
AreAligned (RecordItem one ∷ items) = IsAligned one.align × AreAligned items
AreAligned (StaticItem object ∷ items) = AreAligned items
AreAligned (ExternItem outers ∷ items) = AreAligned items
AreAligned (FunctionItem fun ∷ items) = AreAligned items

-- in no module
abbrev pub ModulesAreAligned : List ModuleTree → Type 0
ModulesAreAligned modules = (m : List ℕ) → AreAligned (reverse (items_in modules m))
