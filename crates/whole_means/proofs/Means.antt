-- What the names of a module say is so in the crate: types, members and functions.
use Rattle.std.proofs.Common.{arith, ◌≡◌, ◌<◌, ℕ, ◌==◌, Bool, true, false, List, [], map, length, Option, Some, None, slice_get, is_some, IsSome, IfSome, option_map, refl, sym, ap, subst, ◌∙◌}
use Rattle.std.proofs.lemmas.List.Elements.{All-contains, recursion_from_All}
use Rattle.std.specs.Option.{option_and_then, option_flatten}
use Rattle.cr_base.specs.Layout.{no_front}
use Rattle.cr_base.specs.declared.layout.Laid.{Laid}
use Rattle.cr_base.specs.declared.layout.Spot.{Spot}
use Rattle.cr_base.specs.declared.scalar.Scalar.{Scalar}
use Rattle.cx_core.specs.Conversions.{basic_of_enum, scalar_of as c_scalar_of, scalar_of_basic, scalar_of_pointer}
use Rattle.cx_core.specs.declared.ty.Basic.{Basic}
use Rattle.cx_core.specs.declared.ty.Basic.TheVariants.{Truth, Char, SignedChar, UnsignedChar, Short, UnsignedShort, Int, Unsigned, Long, UnsignedLong, LongLong, UnsignedLongLong}
use Rattle.cx_core.specs.Layouts.{CRow, extent, layouts_of, row_at}
use Rattle.cx_core.specs.Linked.{IsTypedFunction}
use Rattle.cx_core.specs.Trees.{CFun, CMember, CRecord, CTy, ty, void, basic, enum_type, pointer, array, record_type, function, CProgram, form_of_type}
use Rattle.cx_core.specs.Typing.{function_with, outer_with}
use Rattle.cx_core.specs.ValidTypes.{IsBitFieldOf, IsMemberOf, IsMemberIn}
use Rattle.cx_mean.specs.Operands.{Frame as CFrame}
use Rattle.cx_typed_work.proofs.Fields.{member_in}
use Rattle.cx_typed_work.proofs.Rows.{row_here}
use Rattle.lift_calls.specs.Programs.{Setting}
use Rattle.lift_does.specs.Agree.{FieldMeans, FunctionMeans}
use Rattle.lift_exprs.specs.Names.{KeptFunction, Names, field_in, type_in}
use Rattle.rs_items.specs.Known.{MemberField}
use Rattle.rs_items.specs.Records.{fields_walk, placed_members}
use Rattle.rs_items.specs.Types.{basic_type, record_or_void, rust_pointer, rust_type, type_names}
use Rattle.rs_items_fields.specs.Fields.{name_at}
use Rattle.rs_items_rules.proofs.Places.{all_places}
use Rattle.rs_items_rules.proofs.Rows.{fields_stand}
use Rattle.rs_items_rules.proofs.Types.{complete_fits}
use Rattle.rs_items_rules.specs.LawsRecords.{StandsIn, place_of}
use Rattle.rs_mean.specs.Layout.{FieldPlace, field_of, laid_at, laid_of, laid_with}
use Rattle.rs_mean.specs.Scalars.{scalar_of}
use Rattle.rs_text.specs.Tree.{ModuleTree, Ty, Integer}
use Rattle.rs_tree.specs.declared.ty.RPath.{RPath}
use Rattle.whole_bodies.specs.Names.{fields_of_record, fields_with_row, kept_function, names_in}
use Rattle.whole_items.specs.Items.{WrittenBodies, function_tree, module_tree}
use Rattle.whole_means.proofs.Fields.{const_same, named_some, named_stands, plain_among, types_same, wide_bits}
use Rattle.whole_means.proofs.Items.{record_written}
use Rattle.whole_means.proofs.Keys.{number_same}
use Rattle.whole_means.proofs.Layouts.{all_kept}
use Rattle.whole_means.proofs.Lists.{Among, among_contains, find_there}
use Rattle.whole_means.proofs.Modules.{modules_by}
use Rattle.whole_means.proofs.Numbers.{function_found}
use Rattle.whole_means.proofs.Params.{code_is}
use Rattle.whole_means.proofs.Records.{IsDone, path_is, path_of, record_found}
use Rattle.whole_means.proofs.Rows.{completed_by, row_in}
use Rattle.whole_means.specs.Settings.{function_path, setting_with}
use Rattle.whole_means.specs.Written.{IsNamed}
use Rattle.whole_names.specs.Keys.{a_function}
use Rattle.whole_names.specs.Kept.{LocalNames, NamedProgram, enum_type as kept_enum, function_item, function_thing, known_thing, module_of, name_in, no_locals, types_of, unit_or}

-- ---- scalars

basic_scalar : (which : Basic) → scalar_of (basic_type which) ≡ Some (scalar_of_basic which)
basic_scalar Truth = refl
basic_scalar Char = refl
basic_scalar SignedChar = refl
basic_scalar UnsignedChar = refl
basic_scalar Short = refl
basic_scalar UnsignedShort = refl
basic_scalar Int = refl
basic_scalar Unsigned = refl
basic_scalar Long = refl
basic_scalar UnsignedLong = refl
basic_scalar LongLong = refl
basic_scalar UnsignedLongLong = refl

enum_scalar : (found : Option Bool) (kind : Scalar) → option_map (λ is_int. scalar_of_basic (basic_of_enum is_int)) found ≡ Some kind → scalar_of (Integer (kept_enum found)) ≡ Some kind
enum_scalar None kind is = absurd cc
enum_scalar (Some true) kind is = is
enum_scalar (Some false) kind is = is

module _ (whole : NamedProgram) where
  pointer_scalar : (to : CTy) → scalar_of (rust_pointer (types_of whole) to) ≡ Some (scalar_of_pointer to)
  pointer_scalar (ty void is_const) = refl
  pointer_scalar (ty (basic which) is_const) = refl
  pointer_scalar (ty (enum_type number) is_const) = refl
  pointer_scalar (ty (pointer to) is_const) = refl
  pointer_scalar (ty (array element size) is_const) = refl
  pointer_scalar (ty (record_type number) is_const) = refl
  pointer_scalar (ty (function result params variadic) is_const) = refl

  pub scalar_same : (type : CTy) (kind : Scalar) → c_scalar_of whole.program.types (form_of_type type) ≡ Some kind → scalar_of (rust_type (types_of whole) type) ≡ Some kind
  scalar_same (ty (basic which) is_const) kind is = basic_scalar which ∙ is
  scalar_same (ty (enum_type number) is_const) kind is = enum_scalar (slice_get whole.program.types.enums number) kind is
  scalar_same (ty (pointer to) is_const) kind is = pointer_scalar to ∙ is
  scalar_same (ty void is_const) kind is = absurd cc
  scalar_same (ty (array element size) is_const) kind is = absurd cc
  scalar_same (ty (record_type number) is_const) kind is = absurd cc
  scalar_same (ty (function result params variadic) is_const) kind is = absurd cc

module _ (whole : NamedProgram) (is : IsNamed whole) (bodies : WrittenBodies) (unit : ℕ) (own : LocalNames) (statics : CFrame) where
  abbrev program : CProgram
  program = whole.program

  abbrev modules : List ModuleTree
  modules = modules_by (module_tree whole bodies) 0 (length whole.module_names)

  abbrev s : Setting
  s = setting_with whole modules statics

  abbrev names : Names
  names = names_in whole unit own

  -- ---- types

  pub laid_same : (type : CTy) (laid : Laid) → extent (layouts_of program.types) type ≡ Some laid → laid_of modules (type_in names type) ≡ Some laid
  laid_same type laid found =
      ap (λ n. laid_with (laid_at modules) (rust_type n type)) (sym (types_same whole unit no_locals))
      ∙ (complete_fits (known_thing whole unit no_locals) (laid_at modules) (layouts_of program.types) (all_kept whole is bodies unit no_locals) type laid found).rust

  pub size_same : (type : CTy) (laid : Laid) → extent (layouts_of program.types) type ≡ Some laid → names.size_of type ≡ laid.size
  size_same type laid found =
      (complete_fits (known_thing whole unit no_locals) (laid_at modules) (layouts_of program.types) (all_kept whole is bodies unit no_locals) type laid found).size

  -- ---- members

  -- a record that has fields
  pub record HasFields (number : ℕ) : Type 0 where
    pub at : ℕ
    pub done : IsDone whole at number
    pub fields_are : names.fields number ≡ Some (fields_walk (known_thing whole at no_locals) done.one done.row.spots).members

  fields_by_row : (number : ℕ) (one : CRecord) (row : Option CRow) → option_flatten (slice_get program.types.records number) ≡ Some one → row_at (layouts_of program.types) number ≡ row →
      IsSome (fields_with_row whole number one row) → HasFields number
  fields_by_row number one None found laid some = absurd cc
  fields_by_row number one (Some row) found laid some =
      let it = completed_by program.types number row is.linked.types laid in
      let same_some : Some it.one ≡ Some one = sym (ap option_flatten it.one_is) ∙ found in
      let same : it.one ≡ one = cc (same_some) in
      record {
        at = it.unit;
        done = record { one = it.one; row = row; one_is = it.one_is; unit_is = it.unit_is; row_is = laid };
        fields_are =
            ap (fields_of_record whole number) found ∙ ap (fields_with_row whole number one) laid
            ∙ ap (λ n. Some (fields_walk (known_thing whole n no_locals) one row.spots).members) (ap (unit_or 0) it.unit_is)
            ∙ ap (λ (r : CRecord). Some (fields_walk (known_thing whole it.unit no_locals) r row.spots).members) (sym same);
      }

  has_fields : (number : ℕ) → IsSome (names.fields number) → HasFields number
  has_fields number some = by_record (option_flatten (slice_get program.types.records number)) refl
    where
      by_record : (found : Option CRecord) → option_flatten (slice_get program.types.records number) ≡ found → HasFields number
      by_record None e = absurd (let h : false ≡ true = sym (ap is_some (ap (fields_of_record whole number) e)) ∙ some in cc)
      by_record (Some one) e = fields_by_row number one (row_at (layouts_of program.types) number) e refl (sym (ap is_some (ap (fields_of_record whole number) e)) ∙ some)

  some_fields : (found : Option (List MemberField)) (byte : ℕ) (type : Ty) (name : List ℕ) → option_and_then (name_at byte type) found ≡ Some name → IsSome found
  some_fields None byte type name is = absurd cc
  some_fields (Some fields) byte type name is = refl

  -- a field that is found stands in the crate
  pub field_means : (number : ℕ) (is_const : Bool) (byte : ℕ) (type : Ty) (name : List ℕ) → field_in names (ty (record_type number) is_const) byte type ≡ Some name →
      FieldMeans s names (ty (record_type number) is_const) byte type
  field_means number is_const byte type name found =
      let has = has_fields number (some_fields (names.fields number) byte type name found) in
      let done = has.done in
      let one = done.one in
      let row = done.row in
      let path = path_of whole has.at number in
      let known = known_thing whole has.at no_locals in
      let tree = record_written whole has.at one row in
      record {
        m = path.home;
        x = path.name;
        path_is = ap record_or_void (path_is whole is has.at number done);
        name = name;
        name_is = found;
        stands =
            ap (field_of modules name) (record_found whole is bodies has.at number done)
            ∙ named_stands (laid_of modules) one.is_union tree.fields byte type name (fields_walk known one row.spots).members
            (recursion_from_All (StandsIn (laid_of modules) one.is_union tree.fields) (fields_walk known one row.spots).members
            (fields_stand known (laid_at modules) (layouts_of program.types) (all_kept whole is bodies has.at no_locals) one row
            (row_in program.types number one row (ap option_flatten done.one_is) done.row_is) (is.few_members number one done.one_is)))
            (sym (ap (option_and_then (name_at byte type)) has.fields_are) ∙ found);
      }

  -- a member where it stands
  pub record MemberAt (number index : ℕ) (one : CMember) (spot : Spot) : Type 0 where
    pub holder : CRecord
    pub holder_is : option_flatten (slice_get program.types.records number) ≡ Some holder
    pub row : CRow
    pub row_is : row_at (layouts_of program.types) number ≡ Some row
    pub member_is : slice_get holder.members index ≡ Some one
    pub spot_is : slice_get row.spots index ≡ Some spot

  member_at : (number index : ℕ) (one : CMember) (spot : Spot) (held : Option CRecord) (row : Option CRow) → option_flatten (slice_get program.types.records number) ≡ held →
      row_at (layouts_of program.types) number ≡ row → slice_get (elim held as (λ _. List CMember) [ None ↦ [] | Some r ↦ r.members ]) index ≡ Some one →
      slice_get (elim row as (λ _. List Spot) [ None ↦ [] | Some r ↦ r.spots ]) index ≡ Some spot → MemberAt number index one spot
  member_at number index one spot None row found laid member_is spot_is = absurd cc
  member_at number index one spot (Some r) None found laid member_is spot_is = absurd cc
  member_at number index one spot (Some r) (Some row) found laid member_is spot_is =
      record { holder = r; holder_is = found; row = row; row_is = laid; member_is = member_is; spot_is = spot_is }

  -- a named member without a width is no bit-field
  plain_by : (number index : ℕ) (one : CMember) (spot : Spot) (at : MemberAt number index one spot) → IsSome one.name → spot.width ≡ 0 → (unit : ℕ) → IsMemberIn program.types unit one →
      (bits : Option ℕ) → one.bits ≡ bits → one.bits ≡ None
  plain_by number index one spot at named flat unit typed None e = e
  plain_by number index one spot at named flat unit typed (Some width) e =
      let here = row_here program.types number at.row at.row_is in
      let same_some : Some here.one ≡ Some at.holder = sym here.one_is ∙ at.holder_is in
      let same : here.one ≡ at.holder = cc (same_some) in
      let wide : spot.width ≡ width =
      wide_bits (layouts_of program.types) here.one.members here.pieces (no_front here.one.is_union) index one spot width here.pieces_are
      (ap (λ (r : CRecord). slice_get r.members index) same ∙ at.member_is) (ap (λ spots. slice_get spots index) (sym here.spots_are) ∙ at.spot_is) e in
      let field : IsBitFieldOf program.types one width = subst (λ (b : Option ℕ). IfSome b (IsBitFieldOf program.types one)) e typed.bits in
      let some : 0 < width = field.named named in
      absurd (omega (arith, some, wide, flat))

  name_of : (found : Option (List ℕ)) → IsSome found → (name : List ℕ) × (found ≡ Some name)
  name_of None is = absurd cc
  name_of (Some name) is = (name, refl)

  found_by : (fields : Option (List MemberField)) (members : List MemberField) (byte : ℕ) (type other : Ty) (name : List ℕ) → fields ≡ Some members → type ≡ other → name_at byte other members ≡ Some name →
      option_and_then (name_at byte type) fields ≡ Some name
  found_by fields members byte type other name are same found = ap (option_and_then (name_at byte type)) are ∙ ap (λ (t : Ty). name_at byte t members) same ∙ found

  member_means : (number : ℕ) (is_const : Bool) (index : ℕ) (one : CMember) (spot : Spot) (type : CTy) → MemberAt number index one spot → one.bits ≡ None → rust_type (types_of whole) type ≡ rust_type (types_of whole) one.type →
      FieldMeans s names (ty (record_type number) is_const) spot.byte (type_in names type)
  member_means number is_const index one spot type at plain same =
      let has = fields_by_row number at.holder (Some at.row) at.holder_is at.row_is refl in
      let done = has.done in
      let holder_same : Some at.holder ≡ Some done.one = sym at.holder_is ∙ ap option_flatten done.one_is in
      let holder : at.holder ≡ done.one = cc (holder_same) in
      let row_same : Some at.row ≡ Some done.row = sym at.row_is ∙ done.row_is in
      let row : at.row ≡ done.row = cc (row_same) in
      let known = known_thing whole has.at no_locals in
      let place : FieldPlace = record { ty = rust_type (type_names known) one.type; byte = spot.byte } in
      let among : Among (map place_of (fields_walk known done.one done.row.spots).members) place =
      subst (λ (places : List FieldPlace). Among places place) (sym (all_places done.one.is_union (placed_members known done.one.members done.row.spots)))
      (plain_among known done.one.members done.row.spots index one spot (ap (λ (r : CRecord). slice_get r.members index) (sym holder) ∙ at.member_is)
      (ap (λ (r : CRow). slice_get r.spots index) (sym row) ∙ at.spot_is) plain) in
      let name = name_of (name_at spot.byte (rust_type (type_names known) one.type) (fields_walk known done.one done.row.spots).members)
      (named_some (fields_walk known done.one done.row.spots).members place among) in
      let type_same : rust_type (types_of whole) type ≡ rust_type (type_names known) one.type = same ∙ ap (λ n. rust_type n one.type) (sym (types_same whole has.at no_locals)) in
      field_means number is_const spot.byte (type_in names type) name.0
      (found_by (names.fields number) (fields_walk known done.one done.row.spots).members spot.byte (rust_type (types_of whole) type) (rust_type (type_names known) one.type) name.0 has.fields_are type_same name.1)

  -- each member that is no bit-field has a field
  pub members_mean : (holder type : CTy) (spot : Spot) → IsMemberOf program.types holder spot type → spot.width ≡ 0 → FieldMeans s names holder spot.byte (type_in names type)
  members_mean (ty (record_type number) is_const) type spot member flat =
      let one = member.one in
      let at = member_at number member.index one spot (option_flatten (slice_get program.types.records number)) (row_at (layouts_of program.types) number) refl refl member.member_is member.spot_is in
      let typed = member_in program.types (record_type number) member.index one is.linked.types member.member_is in
      member_means number is_const member.index one spot type at (plain_by number member.index one spot at member.named flat typed.0 typed.1 one.bits refl)
      (ap (rust_type (types_of whole)) member.type_is ∙ const_same (types_of whole) is_const one.type)
  members_mean (ty void is_const) type spot member flat = absurd (let h = member.member_is in cc)
  members_mean (ty (basic which) is_const) type spot member flat = absurd (let h = member.member_is in cc)
  members_mean (ty (enum_type number) is_const) type spot member flat = absurd (let h = member.member_is in cc)
  members_mean (ty (pointer to) is_const) type spot member flat = absurd (let h = member.member_is in cc)
  members_mean (ty (array element size) is_const) type spot member flat = absurd (let h = member.member_is in cc)
  members_mean (ty (function result params variadic) is_const) type spot member flat = absurd (let h = member.member_is in cc)

  -- ---- functions

  pub functions_mean : (number : ℕ) (one : CFun) → function_with number program.functions ≡ Some one →
      (function : KeptFunction) × (names.functions number ≡ Some function) × FunctionMeans s number function × (function.ty ≡ type_in names (ty (pointer one.type) false))
  functions_mean number one found =
      let there = find_there (λ (f : CFun). f.function == number) program.functions one found in
      let its_number : one.function ≡ number = number_same one.function number there.1 in
      let path : RPath = record { home = module_of whole one.unit; name = name_in whole one.unit (a_function one.function) } in (
        kept_function (function_item whole one),
        ap (λ f. option_map kept_function (function_thing whole unit f (outer_with number program.externals))) found,
        record {
          path = path;
          path_is = ap (function_path whole) found;
          home_is = refl;
          name_is = refl;
          no_symbol = refl;
          tree = function_tree whole one (bodies.of_function one);
          tree_is = function_found whole is bodies one there.0;
          ty_is = code_is whole one (bodies.of_function one)
              (All-contains (IsTypedFunction program None) program.functions one is.linked.functions (among_contains program.functions one there.0));
        },
        refl,
      )
