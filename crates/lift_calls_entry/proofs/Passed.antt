-- What is passed: each argument stands for C's, in the block of its parameter.
use Rattle.std.proofs.Common.{◌≡◌, ◌∙◌, ℕ, ◌<◌, List, [], ◌∷◌, length, Option, Some, None, Ok, refl, sym, ap, subst, arith}
use Rattle.cr_base.specs.declared.layout.Laid.{Laid}
use Rattle.cr_base.specs.declared.scalar.Scalar.{Scalar}
use Rattle.cr_base.specs.declared.scalar.Scalar.TheVariants.{Object as Address}
use Rattle.cx_core.specs.Trees.{CTy, ty, void, basic, enum_type, pointer, array, record_type, function, unqualified, CProgram}
use Rattle.cx_mean.specs.Accesses.{kind_of, of_scalar, of_record, scalar_kind, record_kind}
use Rattle.cx_mean.specs.Operands.{CValue, scalar, cells, names, designates, designates_bits, missing}
use Rattle.cx_mean.specs.Settings.{CSetting, setting_of, extent_in}
use Rattle.cx_typed_work.specs.Operands.{IsScalarIn, IsRecordOf, IsValueOfType}
use Rattle.lift_calls.specs.Calls.{IsHanded}
use Rattle.lift_calls.specs.Frames.{FunctionNames}
use Rattle.lift_calls.specs.Programs.{Setting, setting_in}
use Rattle.lift_calls_entry.specs.Entry.{IsPlainParam, IsRecordParam}
use Rattle.lift_calls_entry.proofs.Fresh.{block_with, IsPassed, put_whole}
use Rattle.lift_calls_entry.proofs.Stored.{of_number, of_cells, IsStoredParam}
use Rattle.lift_does.proofs.Temporaries.{scalar_laid}
use Rattle.lift_stands.specs.Stands.{Images, ValueBelow, PlaceHolds}
use Rattle.lift_stands_values.proofs.Ranges.{given_in_range}
use Rattle.mem_bytes.proofs.Coded.{length-cells_of}
use Rattle.mem_bytes.proofs.Written.{loads_stored}
use Rattle.mem_bytes.specs.Access.{block_value, live_read, value_at}
use Rattle.mem_bytes.specs.Coding.{IsScalar, IsValueOf, scalar_size, cells_of}
use Rattle.mem_bytes.specs.Memory.{Block, Blocks, live_block}
use Rattle.mem_bytes.specs.declared.cell.Cell.{Cell}
use Rattle.mem_bytes.specs.declared.value.Value.{Value}
use Rattle.rs_mean.specs.Layout.{laid_of}
use Rattle.rs_mean.specs.Scalars.{scalar_of}
use Rattle.rs_mean.specs.Values.{Typed}
use Rattle.rs_text.specs.Tree.{Stmt, LocalTree}

-- ---- kinds

-- what is accessed as a structure or union has no scalar, and what is accessed as a scalar is none
no_scalar : (program : CProgram) (type : CTy) (value : Value) (laid : Laid) → IsScalarIn program type value → kind_of (setting_of program) type ≡ Ok (of_record laid) → ⊥
no_scalar program (ty void is_const) value laid is e = cc
no_scalar program (ty (basic which) is_const) value laid is e = cc
no_scalar program (ty (enum_type number) is_const) value laid is e = let some = is.kind_is in let f : scalar_kind (Some is.kind) ≡ Ok (of_record laid) = sym (ap scalar_kind some) ∙ e in cc
no_scalar program (ty (pointer to) is_const) value laid is e = cc
no_scalar program (ty (array element count) is_const) value laid is e = cc
no_scalar program (ty (record_type number) is_const) value laid is e = let none = is.kind_is in cc
no_scalar program (ty (function result params variadic) is_const) value laid is e = cc

no_record : (setting : CSetting) (program : CProgram) (type : CTy) (list : List Cell) (kind : Scalar) → IsRecordOf program type list → kind_of setting type ≡ Ok (of_scalar kind) → ⊥
no_record setting program (ty void is_const) list kind is e = cc
no_record setting program (ty (basic which) is_const) list kind is e = is.is_record
no_record setting program (ty (enum_type number) is_const) list kind is e = is.is_record
no_record setting program (ty (pointer to) is_const) list kind is e = is.is_record
no_record setting program (ty (array element count) is_const) list kind is e = cc
no_record setting program (ty (record_type number) is_const) list kind is e = by (extent_in setting (ty (record_type number) is_const)) e
  where
    by : (laid : Option Laid) → record_kind laid ≡ Ok (of_scalar kind) → ⊥
    by None f = cc
    by (Some laid) f = cc
no_record setting program (ty (function result params variadic) is_const) list kind is e = cc

record_extent : (setting : CSetting) (program : CProgram) (type : CTy) (list : List Cell) (laid : Laid) → IsRecordOf program type list → kind_of setting type ≡ Ok (of_record laid) → extent_in setting type ≡ Some laid
record_extent setting program (ty (record_type number) is_const) list laid is e = by (extent_in setting (ty (record_type number) is_const)) e
  where
    by : (found : Option Laid) → record_kind found ≡ Ok (of_record laid) → found ≡ Some laid
    by None f = cc
    by (Some other) f = let same : other ≡ laid = cc (f) in ap Some same
record_extent setting program (ty void is_const) list laid is e = absurd is.is_record
record_extent setting program (ty (basic which) is_const) list laid is e = absurd is.is_record
record_extent setting program (ty (enum_type number) is_const) list laid is e = absurd is.is_record
record_extent setting program (ty (pointer to) is_const) list laid is e = absurd is.is_record
record_extent setting program (ty (array element count) is_const) list laid is e = absurd is.is_record
record_extent setting program (ty (function result params variadic) is_const) list laid is e = absurd is.is_record

-- ---- a block that holds a scalar

pub holds_value : (memory : Blocks) (number align : ℕ) (kind : Scalar) (value : Value) → live_block memory number ≡ Some (block_with align (cells_of kind value)) → align ≡ scalar_size kind → 0 < scalar_size kind →
    IsScalar kind → IsValueOf kind value → value_at memory (record { block = number; offset = 0 }) kind ≡ Ok value
holds_value memory number align kind value live align_is some is_scalar of_kind =
    let cells = cells_of kind value in
    let many = length-cells_of kind value is_scalar of_kind in
    let one : Blocks = Some (block_with align cells) ∷ [] in
    let put = put_whole one 0 align cells kind value refl align_is many some many in
    let found : value_at one (record { block = 0; offset = 0 }) kind ≡ Ok value = loads_stored one one (record { block = 0; offset = 0 }) kind value is_scalar of_kind put in
    ap (λ (slot : Option Block). live_read slot (λ block. block_value block 0 kind)) live ∙ found

-- ---- parameters

module _ (s : Setting) (names_of : FunctionNames) (images : Images) (others : Blocks) where
  -- a scalar
  pub record PlainPassed (number : ℕ) (param : LocalTree) (value : CValue) (given : Typed) : Type 0 where
    pub is : IsPlainParam s names_of number param
    pub one : Value
    pub value_is : value ≡ scalar one
    pub below : ValueBelow images one given.value
    pub of_kind : IsValueOf is.kind one
    pub passed : IsPassed s.modules param given (block_with is.object.laid.align (cells_of is.kind given.value))
    pub stored : IsStoredParam (setting_in s) number value
    pub laid_is : stored.laid ≡ is.object.laid
    pub list_is : stored.list ≡ cells_of is.kind one

  plain_scalar : (number : ℕ) (param : LocalTree) (value : Value) (given : Typed) (is : IsPlainParam s names_of number param) → ValueBelow images value given.value → IsScalarIn s.program (unqualified is.object.one.type) value → PlainPassed number param (scalar value) given
  plain_scalar number param value given is below typed =
      let has = scalar_laid s.modules param.ty is.object.laid is.kind is.param_kind_is is.object.crate_laid_is in
      let same : typed.kind ≡ is.kind = (let mine = typed.kind_is in let its = is.c_kind_is in cc) in
      let of_kind : IsValueOf is.kind value = subst (λ (k : Scalar). IsValueOf k value) same typed.of_kind in
      let given_kind : IsValueOf is.kind given.value = given_in_range images is.kind value given.value below of_kind in
      record {
        is = is;
        one = value;
        value_is = refl;
        below = below;
        of_kind = of_kind;
        passed = record {
          laid = is.object.laid;
          laid_is = is.object.crate_laid_is;
          kind = is.kind;
          kind_is = is.param_kind_is;
          size = has.size;
          align = has.align;
          some = has.some;
          many = length-cells_of is.kind given.value is.scalar given_kind;
          block_is = refl;
        };
        stored = record {
          one = is.object.one;
          object_is = is.object.object_is;
          laid = is.object.laid;
          laid_is = is.object.laid_is;
          kind = of_scalar is.kind;
          kind_is = is.kind_is;
          list = cells_of is.kind value;
          has = of_number value is.kind is.object.laid has.size has.align has.some (length-cells_of is.kind value is.scalar of_kind);
        };
        laid_is = refl;
        list_is = refl;
      }

  pub plain_passed : (number : ℕ) (param : LocalTree) (value : CValue) (given : Typed) (is : IsPlainParam s names_of number param) → IsHanded images others value given.value → IsValueOfType s.program (unqualified is.object.one.type) value → PlainPassed number param value given
  plain_passed number param (scalar value) given is handed typed = plain_scalar number param value given is handed typed
  plain_passed number param (cells list from) given is handed typed = absurd (no_record (setting_in s) s.program (unqualified is.object.one.type) list is.kind typed is.kind_is)
  plain_passed number param (names k) given is handed typed = absurd handed
  plain_passed number param (designates to) given is handed typed = absurd handed
  plain_passed number param (designates_bits at bit width) given is handed typed = absurd handed
  plain_passed number param missing given is handed typed = absurd handed

  -- a structure or union
  pub record RecordPassed (locals : List LocalTree) (number : ℕ) (param : LocalTree) (copy : Stmt) (value : CValue) (given : Typed) : Type 0 where
    pub is : IsRecordParam s names_of locals number param copy
    pub list : List Cell
    pub align : ℕ
    pub holds : PlaceHolds images others align given.value list
    pub many : length list ≡ is.object.laid.size
    pub passed : IsPassed s.modules param given (block_with 8 (cells_of Address given.value))
    pub stored : IsStoredParam (setting_in s) number value
    pub laid_is : stored.laid ≡ is.object.laid
    pub list_is : stored.list ≡ list

  record_cells : (locals : List LocalTree) (number : ℕ) (param : LocalTree) (copy : Stmt) (list : List Cell) (from : _) (given : Typed) (is : IsRecordParam s names_of locals number param copy) → (align : ℕ) × PlaceHolds images others align given.value list →
      IsRecordOf s.program (unqualified is.object.one.type) list → RecordPassed locals number param copy (cells list from) given
  record_cells locals number param copy list from given is handed typed =
      let extent = record_extent (setting_in s) s.program (unqualified is.object.one.type) list is.object.laid typed is.kind_is in
      let same : typed.laid ≡ is.object.laid = (let mine = typed.laid_is in cc) in
      let many : length list ≡ is.object.laid.size = typed.all ∙ ap (λ (laid : Laid). laid.size) same in
      record {
        is = is;
        list = list;
        align = handed.0;
        holds = handed.1;
        many = many;
        passed = record {
          laid = record { size = 8; align = 8 };
          laid_is = ap (laid_of s.modules) is.param_ty_is;
          kind = Address;
          kind_is = ap scalar_of is.param_ty_is;
          size = refl;
          align = refl;
          some = omega arith;
          many = address_many given.value (subst (λ (v : Value). IsValueOf Address v) (sym handed.1.value_is) tt);
          block_is = refl;
        };
        stored = record {
          one = is.object.one;
          object_is = is.object.object_is;
          laid = is.object.laid;
          laid_is = is.object.laid_is;
          kind = of_record is.object.laid;
          kind_is = is.kind_is;
          list = list;
          has = of_cells list from is.object.laid many;
        };
        laid_is = refl;
        list_is = refl;
      }
    where
      address_many : (value : Value) → IsValueOf Address value → length (cells_of Address value) ≡ scalar_size Address
      address_many value of_kind = length-cells_of Address value tt of_kind

  pub record_passed : (locals : List LocalTree) (number : ℕ) (param : LocalTree) (copy : Stmt) (value : CValue) (given : Typed) (is : IsRecordParam s names_of locals number param copy) → IsHanded images others value given.value →
      IsValueOfType s.program (unqualified is.object.one.type) value → RecordPassed locals number param copy value given
  record_passed locals number param copy (scalar value) given is handed typed = absurd (no_scalar s.program (unqualified is.object.one.type) value is.object.laid typed is.kind_is)
  record_passed locals number param copy (cells list from) given is handed typed = record_cells locals number param copy list from given is handed typed
  record_passed locals number param copy (names k) given is handed typed = absurd handed
  record_passed locals number param copy (designates to) given is handed typed = absurd handed
  record_passed locals number param copy (designates_bits at bit width) given is handed typed = absurd handed
  record_passed locals number param copy missing given is handed typed = absurd handed
