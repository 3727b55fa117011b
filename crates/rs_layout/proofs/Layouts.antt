-- What the code finds is what the definitions of layouts say.
use Rattle.std.proofs.Common.{◌≡◌, refl, sym, ap, ◌∙◌, subst, arith, ℕ, ◌*◌, ◌<◌, nat_le, Bool, true, false, not, List, [], ◌∷◌, Option, Some, None, IfSome, IsSome, if◌then◌else◌}
use Rattle.std.specs.Option.{option_and_then}
use Rattle.std.specs.Prelude.{bytes_eq}
use Rattle.std.proofs.lemmas.Bool.Decides.{nat_tests}
use Rattle.cr_base.specs.Layout.{most_bytes, after, no_front, laid}
use Rattle.cr_base.specs.declared.layout.Front.{Front}
use Rattle.cr_base.specs.declared.layout.Laid.{Laid}
use Rattle.cr_base.proofs.Layouts.{stays_too_large}
use Rattle.rs_text.specs.Tree.{Ty, Integer, Boolean, Void, Pointer, Array, Code, Record, FieldTree, RecordTree, ItemTree, RecordItem, StaticItem, ExternItem, FunctionItem}
use Rattle.rs_tree.specs.declared.ty.RPath.{RPath}
use Rattle.rs_mean.specs.Layout.{laid_with, laid_among, record_laid, repeated, within_most, piece_of, behind, front_after, raised_by}
use Rattle.rs_layout.specs.Layouts.{record_of, array_laid, plain_laid, FoundRecord, first_found, found_among, by_front, front_behind, fronts, finished, IsAligned, AreAligned}

-- ---- types

-- a type with this record, or without one
abbrev with_record : (List ℕ → List ℕ → Option Laid) → Ty → Option RPath → Option Laid
with_record records ty None = plain_laid ty
with_record records ty (Some path) = array_laid ty (records path.home path.name)

array_with : (records : List ℕ → List ℕ → Option Laid) (element : Ty) (size : ℕ) (path : Option RPath) →
    option_and_then (repeated size) (with_record records element path) ≡ with_record records (Array element size) path
array_with records element size None = refl
array_with records element size (Some path) = refl

laid_by_record : (records : List ℕ → List ℕ → Option Laid) (ty : Ty) → laid_with records ty ≡ with_record records ty (record_of ty)
laid_by_record records (Integer ty) = refl
laid_by_record records Boolean = refl
laid_by_record records Void = refl
laid_by_record records (Pointer target) = refl
laid_by_record records (Array element size) =
    ap (option_and_then (repeated size)) (laid_by_record records element) ∙ array_with records element size (record_of element)
laid_by_record records (Code params result) = refl
laid_by_record records (Record m x) = refl

pub laid_without : (records : List ℕ → List ℕ → Option Laid) (ty : Ty) → None ≡ record_of ty → plain_laid ty ≡ laid_with records ty
laid_without records ty none = sym (laid_by_record records ty ∙ ap (with_record records ty) (sym none))

pub laid_of_record : (records : List ℕ → List ℕ → Option Laid) (ty : Ty) (path : RPath) → Some path ≡ record_of ty →
    array_laid ty (records path.home path.name) ≡ laid_with records ty
laid_of_record records ty path found = sym (laid_by_record records ty ∙ ap (with_record records ty) (sym found))

array_none : (ty : Ty) → None ≡ array_laid ty None
array_none (Integer ty) = refl
array_none Boolean = refl
array_none Void = refl
array_none (Pointer target) = refl
array_none (Array element size) = ap (option_and_then (repeated size)) (array_none element)
array_none (Code params result) = refl
array_none (Record m x) = refl

-- an array of a record that isn't laid out isn't, either
pub laid_of_none : (records : List ℕ → List ℕ → Option Laid) (ty : Ty) (path : RPath) → Some path ≡ record_of ty →
    None ≡ records path.home path.name → None ≡ laid_with records ty
laid_of_none records ty path found none = array_none ty ∙ ap (array_laid ty) none ∙ laid_of_record records ty path found

-- ---- the records of a module

abbrev records_in : List ℕ → List ItemTree → List ℕ → List ℕ → Option Laid
records_in home items m x = if bytes_eq m home then laid_among home items x else None

in_module_by : (home : List ℕ) (items : List ItemTree) (m x : List ℕ) (b : Bool) → b ≡ bytes_eq m home →
    (if b then laid_among home items x else None) ≡ records_in home items m x
in_module_by home items m x b is = ap (λ b. if b then laid_among home items x else None) is

not_true : (b : Bool) → true ≡ not b → false ≡ b
not_true true is = absurd cc
not_true false is = refl

not_false : (b : Bool) → false ≡ not b → true ≡ b
not_false true is = refl
not_false false is = absurd cc

pub front_elsewhere : (home : List ℕ) (items : List ItemTree) (ty : Ty) (path : RPath) → Some path ≡ record_of ty →
    true ≡ not (bytes_eq path.home home) → None ≡ by_front home items ty
front_elsewhere home items ty path found other =
    laid_of_none (records_in home items) ty path found (in_module_by home items path.home path.name false (not_true (bytes_eq path.home home) other))

pub front_none : (home : List ℕ) (items : List ItemTree) (ty : Ty) (path : RPath) → Some path ≡ record_of ty →
    false ≡ not (bytes_eq path.home home) → None ≡ laid_among home items path.name → None ≡ by_front home items ty
front_none home items ty path found here none =
    laid_of_none (records_in home items) ty path found (none ∙ in_module_by home items path.home path.name true (not_false (bytes_eq path.home home) here))

pub front_some : (home : List ℕ) (items : List ItemTree) (ty : Ty) (path : RPath) (base : Laid) → Some path ≡ record_of ty →
    false ≡ not (bytes_eq path.home home) → Some base ≡ laid_among home items path.name → array_laid ty (Some base) ≡ by_front home items ty
front_some home items ty path base found here is =
    ap (array_laid ty) (is ∙ in_module_by home items path.home path.name true (not_false (bytes_eq path.home home) here)) ∙ laid_of_record (records_in home items) ty path found

-- how a record is laid out behind what stands in front of it
abbrev pub found_laid : List ℕ → Option FoundRecord → Option Laid
found_laid home None = None
found_laid home (Some found) = record_laid (by_front home found.earlier) found.one

found_by : (home x : List ℕ) (one : RecordTree) (earlier : List ItemTree) (b : Bool) →
    laid_among home earlier x ≡ found_laid home (found_among x earlier) →
    (if b then record_laid (by_front home earlier) one else laid_among home earlier x)
    ≡ found_laid home (first_found (if b then Some one else None) earlier (found_among x earlier))
found_by home x one earlier true others = refl
found_by home x one earlier false others = others

pub laid_found : (home : List ℕ) (items : List ItemTree) (x : List ℕ) → laid_among home items x ≡ found_laid home (found_among x items)
laid_found home [] x = refl
laid_found home (RecordItem one ∷ earlier) x = found_by home x one earlier (bytes_eq one.name x) (laid_found home earlier x)
laid_found home (StaticItem object ∷ earlier) x = laid_found home earlier x
laid_found home (ExternItem outers ∷ earlier) x = laid_found home earlier x
laid_found home (FunctionItem fun ∷ earlier) x = laid_found home earlier x

pub laid_none : (home : List ℕ) (items : List ItemTree) (x : List ℕ) → None ≡ found_among x items → None ≡ laid_among home items x
laid_none home items x none = ap (found_laid home) none ∙ sym (laid_found home items x)

pub laid_some : (home : List ℕ) (items : List ItemTree) (x : List ℕ) (found : FoundRecord) → Some found ≡ found_among x items →
    record_laid (by_front home found.earlier) found.one ≡ laid_among home items x
laid_some home items x found is = ap (found_laid home) is ∙ sym (laid_found home items x)

abbrev pub IsAlignedFound : FoundRecord → Type 0
IsAlignedFound found = AreAligned found.earlier × IsAligned found.one.align

aligned_by : (x : List ℕ) (one : RecordTree) (earlier : List ItemTree) (b : Bool) → IsAligned one.align → AreAligned earlier →
    IfSome (found_among x earlier) IsAlignedFound →
    IfSome (first_found (if b then Some one else None) earlier (found_among x earlier)) IsAlignedFound
aligned_by x one earlier true is are others = (are, is)
aligned_by x one earlier false is are others = others

found_aligned : (x : List ℕ) (items : List ItemTree) → AreAligned items → IfSome (found_among x items) IsAlignedFound
found_aligned x [] are = tt
found_aligned x (RecordItem one ∷ earlier) are =
    aligned_by x one earlier (bytes_eq one.name x) are.0 are.1 (found_aligned x earlier are.1)
found_aligned x (StaticItem object ∷ earlier) are = found_aligned x earlier are
found_aligned x (ExternItem outers ∷ earlier) are = found_aligned x earlier are
found_aligned x (FunctionItem fun ∷ earlier) are = found_aligned x earlier are

pub aligned_found : (x : List ℕ) (items : List ItemTree) (found : FoundRecord) → AreAligned items → Some found ≡ found_among x items →
    IsAlignedFound found
aligned_found x items found are is = subst (λ o. IfSome o IsAlignedFound) (sym is) (found_aligned x items are)

-- ---- fields

none_behind : (layout : Ty → Option Laid) (one : Option Laid) (fields : List FieldTree) → front_after layout None fields ≡ None →
    front_after layout (behind one None) fields ≡ None
none_behind layout None fields none = none
none_behind layout (Some one) fields none = none

pub none_after : (layout : Ty → Option Laid) (fields : List FieldTree) → front_after layout None fields ≡ None
none_after layout [] = refl
none_after layout (field ∷ fields) = none_behind layout (layout field.ty) fields (none_after layout fields)

-- the record of which the fields have taken so much, where they have a layout
abbrev closed : Option ℕ → Option Front → Option Laid
closed align front = option_and_then (finished align) front

closed_none : (layout : Ty → Option Laid) (align : Option ℕ) (fields : List FieldTree) → closed align (front_after layout None fields) ≡ None
closed_none layout align fields = ap (closed align) (none_after layout fields)

none_above : (one : Laid) → most_bytes < one.size → within_most one ≡ None
none_above one p = grind (arith, nat_tests)

large_finished : (align : Option ℕ) (front : Front) → 0 < front.align → 8 * most_bytes < front.bits → finished align front ≡ None
large_finished None front some large = none_above (laid front) (stays_too_large [] front some large)
large_finished (Some align) front some large =
    none_above (laid (raised_by (Some align) front)) (stays_too_large [] (raised_by (Some align) front) (omega arith) large)

-- these fields behind a front of which this holds take too much
abbrev AreLarge : (Ty → Option Laid) → Option ℕ → List FieldTree → Type 0
AreLarge layout align fields =
    (front : Front) → 0 < front.align → 8 * most_bytes < front.bits → closed align (front_after layout (Some front) fields) ≡ None

large_behind : (layout : Ty → Option Laid) (align : Option ℕ) (fields : List FieldTree) (front : Front) (one : Option Laid) → AreLarge layout align fields →
    0 < front.align → 8 * most_bytes < front.bits → closed align (front_after layout (behind one (Some front)) fields) ≡ None
large_behind layout align fields front None others some large = closed_none layout align fields
large_behind layout align fields front (Some one) others some large = others (after front (piece_of one)) (omega arith) (omega arith)

-- more fields never take less, so that a record of which the fields have taken too much is too large
large_after : (layout : Ty → Option Laid) (align : Option ℕ) (fields : List FieldTree) → AreLarge layout align fields
large_after layout align [] front some large = large_finished align front some large
large_after layout align (field ∷ fields) front some large =
    large_behind layout align fields front (layout field.ty) (large_after layout align fields) some large

-- the code stops only where the record isn't laid out
abbrev Stop : (Ty → Option Laid) → Option ℕ → List FieldTree → Type 0
Stop layout align fields =
    (front : Front) → 0 < front.align → closed align (front_after layout (Some front) fields) ≡ closed align (fronts layout front fields)

stops_within : (layout : Ty → Option Laid) (align : Option ℕ) (fields : List FieldTree) (next : Front) (b : Bool) → Stop layout align fields →
    nat_le next.bits (8 * most_bytes) ≡ b → 0 < next.align →
    closed align (front_after layout (Some next) fields)
    ≡ closed align (option_and_then (λ next. fronts layout next fields) (if b then Some next else None))
stops_within layout align fields next true others is some = others next some
stops_within layout align fields next false others is some =
    let large : 8 * most_bytes < next.bits = grind (arith, nat_tests) in
    large_after layout align fields next some large

stops_behind : (layout : Ty → Option Laid) (align : Option ℕ) (fields : List FieldTree) (front : Front) (one : Option Laid) → Stop layout align fields →
    0 < front.align →
    closed align (front_after layout (behind one (Some front)) fields)
    ≡ closed align (option_and_then (λ one. option_and_then (λ next. fronts layout next fields) (front_behind front one)) one)
stops_behind layout align fields front None others some = closed_none layout align fields
stops_behind layout align fields front (Some one) others some =
    stops_within layout align fields (after front (piece_of one)) (nat_le (after front (piece_of one)).bits (8 * most_bytes)) others refl (omega arith)

stops_after : (layout : Ty → Option Laid) (align : Option ℕ) (fields : List FieldTree) → Stop layout align fields
stops_after layout align [] front some = refl
stops_after layout align (field ∷ fields) front some =
    stops_behind layout align fields front (layout field.ty) (stops_after layout align fields) some

-- a record is laid out by fields that stop where they have taken too much
laid_by_fronts : (layout : Ty → Option Laid) (one : RecordTree) →
    record_laid layout one ≡ closed one.align (fronts layout (no_front one.is_union) one.fields)
laid_by_fronts layout one = stops_after layout one.align one.fields (no_front one.is_union) (omega arith)

pub record_none : (layout : Ty → Option Laid) (one : RecordTree) → None ≡ fronts layout (no_front one.is_union) one.fields → None ≡ record_laid layout one
record_none layout one none = ap (closed one.align) none ∙ sym (laid_by_fronts layout one)

pub record_some : (layout : Ty → Option Laid) (one : RecordTree) (front : Front) → Some front ≡ fronts layout (no_front one.is_union) one.fields →
    finished one.align front ≡ record_laid layout one
record_some layout one front is = ap (closed one.align) is ∙ sym (laid_by_fronts layout one)

-- ---- the fields of a record

closed_some : (align : Option ℕ) (front : Option Front) → IsSome (closed align front) → IsSome front
closed_some align None some = absurd cc
closed_some align (Some front) some = refl

-- the fields of a record that isn't too large don't take too much
pub record_fits : (layout : Ty → Option Laid) (one : RecordTree) → IsSome (record_laid layout one) → IsSome (fronts layout (no_front one.is_union) one.fields)
record_fits layout one some =
    closed_some one.align (fronts layout (no_front one.is_union) one.fields) (subst IsSome (laid_by_fronts layout one) some)
