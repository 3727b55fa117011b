-- Loads of scalars, structures and unions (ISO C99, 6.3.2.1p2).
use Rattle.std.proofs.Common.{◌≡◌, inr, ℕ, ◌≤◌, Bool, true, false, not, nat_lt, ◌==◌, if◌then◌else◌, List, [], ◌∷◌, length, Option, Some, None, Result, Ok, Err, refl, sym, ap, subst, ◌∙◌, arith}
use Rattle.std.proofs.lemmas.Bool.Decides.{nat_tests}
use Rattle.cr_base.specs.declared.layout.Laid.{Laid}
use Rattle.cr_base.specs.declared.refusal.Place.{Place}
use Rattle.cr_base.specs.declared.rule.URule.TheVariants.{U1}
use Rattle.cr_base.specs.declared.scalar.Scalar.{Scalar}
use Rattle.cr_world.specs.World.{World, blocks_of}
use Rattle.cx_core.specs.Trees.{CTy, ty, CTyForm, void, basic, enum_type, pointer, array, record_type, function, unqualified, CExpr, expr, load, member, type_of}
use Rattle.cx_core.specs.Typing.{IsTyped, is_bit_field}
use Rattle.cx_mean.specs.Accesses.{CKind, of_scalar, of_record, scalar_kind, record_kind, kind_of, object_at, CLoaded, loaded_scalar, loaded_record, loaded_kind, loaded_from, loaded}
use Rattle.cx_mean.specs.Marks.{Marks, Range, no_marks, both, any_overlap, bits_of_bytes, with_read}
use Rattle.cx_mean.specs.Nodes.{CDone, done, node_done}
use Rattle.cx_mean.specs.Operands.{CWhy, breaks, accessed, CValue, scalar, cells, names, designates, designates_bits, missing, COperand, Frame as CFrame, place_in, sequenced_after}
use Rattle.cx_mean.specs.Settings.{CSetting, scalar_in_type, extent_in}
use Rattle.cx_typed_work.proofs.Given.{place_given}
use Rattle.cx_typed_work.specs.Operands.{IsPlaceOf}
use Rattle.lift_calls.specs.Programs.{setting_in}
use Rattle.lift_does.proofs.Around.{Around, scope, At}
use Rattle.lift_does.proofs.Lasting.{all_front, all_back}
use Rattle.lift_does.proofs.Nodes.{and_then_is, MakesOne, pure_one}
use Rattle.lift_does.proofs.Operands.{node_one, where_used, lvalue_given}
use Rattle.lift_does.proofs.Places.{pointer_below, scalar_loaded_given}
use Rattle.lift_does.proofs.Reaching.{Knows}
use Rattle.lift_does.proofs.Unary.{form_fixed, ExprOwes, FormOwes}
use Rattle.lift_does.specs.Does.{is_fixed}
use Rattle.lift_does.specs.Gives.{GivesLvalue, GivesScalar, GivesRecord, GivesOperand}
use Rattle.lift_does.specs.Later.{AllOf, IsSameAt}
use Rattle.lift_exprs.specs.Lifted.{lifted, load_given, load_of_whole}
use Rattle.lift_exprs.specs.Names.{Names, type_in}
use Rattle.lift_exprs.specs.Written.{place_of_given}
use Rattle.lift_forms.specs.Given.{Given, address_of}
use Rattle.lift_forms.specs.Given as given_form
use Rattle.lift_forms_laws.proofs.Constants.{addresses}
use Rattle.lift_held.specs.Held.{operand, is_record}
use Rattle.lift_held.specs.declared.asked.Asked.{Asked}
use Rattle.lift_stands.specs.Stands.{Images, PlaceHolds}
use Rattle.lift_stands_accesses.proofs.Results.{accessed_ok}
use Rattle.lift_stands_lives.proofs.Copied.{record_holds}
use Rattle.lift_stands_values.specs.Given.{align_or, align_in}
use Rattle.mem_bytes.specs.Access.{part_at, value_at, record_at}
use Rattle.mem_bytes.specs.Coding.{scalar_size}
use Rattle.mem_bytes.specs.Memory.{Blocks}
use Rattle.mem_bytes.specs.declared.cell.Cell.{Cell}
use Rattle.mem_bytes.specs.declared.value.Ptr.{Ptr}
use Rattle.mem_bytes.specs.declared.value.Value.{Value}
use Rattle.mem_bytes.specs.declared.value.Value.TheVariants.{Whole, Null, Object, Code as Function}
use Rattle.rs_text.specs.Tree.{Ty}

-- ---- what a load found

abbrev ok_loaded : CLoaded → Result CLoaded CWhy
ok_loaded one = Ok one

same_loaded : (one other : CLoaded) → ok_loaded one ≡ ok_loaded other → one ≡ other
same_loaded one other e = cc (e)

abbrev ok_range : Range → Result Range CWhy
ok_range one = Ok one

same_range : (one other : Range) → ok_range one ≡ ok_range other → one ≡ other
same_range one other e = cc (e)

sequenced_is : (marks : Marks) (range found : Range) → sequenced_after marks range ≡ Ok found → found ≡ range
sequenced_is marks range found e = by (any_overlap marks.still (range ∷ [])) e
  where
    by : (test : Bool) → (if test then Err (breaks U1) else Ok range) ≡ Ok found → found ≡ range
    by true same = cc (same)
    by false same = sym (same_range range found same)

pub record LoadedScalar (blocks : Blocks) (at : Ptr) (marks : Marks) (kind : Scalar) (one : CLoaded) : Type 0 where
  pub of_c : Value
  pub found : value_at blocks at kind ≡ Ok of_c
  pub value_is : one.value ≡ scalar of_c
  pub marks_are : one.marks ≡ with_read (bits_of_bytes at (scalar_size kind)) marks

pub scalar_loaded_is : (blocks : Blocks) (at : Ptr) (marks : Marks) (kind : Scalar) (one : CLoaded) → loaded_scalar blocks at marks kind ≡ Ok one → LoadedScalar blocks at marks kind one
scalar_loaded_is blocks at marks kind one e =
    let part = and_then_is (accessed (part_at blocks at (scalar_size kind))) _ one e in
    let after = and_then_is (sequenced_after marks (bits_of_bytes at (scalar_size kind))) _ one part.2 in
    let found = and_then_is (accessed (value_at blocks at kind)) _ one after.2 in
    let same = same_loaded (record { value = scalar found.0; marks = with_read after.0 marks }) one found.2 in
    record {
      of_c = found.0;
      found = accessed_ok (value_at blocks at kind) found.0 found.1;
      value_is = ap (λ (l : CLoaded). l.value) (sym same);
      marks_are = ap (λ (l : CLoaded). l.marks) (sym same) ∙ ap (λ (range : Range). with_read range marks) (sequenced_is marks (bits_of_bytes at (scalar_size kind)) after.0 after.1);
    }

record LoadedRecord (blocks : Blocks) (at : Ptr) (marks : Marks) (laid : Laid) (one : CLoaded) : Type 0 where
  list : List Cell
  found : record_at blocks at laid.size laid.align ≡ Ok list
  value_is : one.value ≡ cells list (Some at)
  marks_are : one.marks ≡ with_read (bits_of_bytes at laid.size) marks

record_loaded_is : (blocks : Blocks) (at : Ptr) (marks : Marks) (laid : Laid) (one : CLoaded) → loaded_record blocks at marks laid ≡ Ok one → LoadedRecord blocks at marks laid one
record_loaded_is blocks at marks laid one e =
    let part = and_then_is (accessed (part_at blocks at laid.size)) _ one e in
    let after = and_then_is (sequenced_after marks (bits_of_bytes at laid.size)) _ one part.2 in
    let found = and_then_is (accessed (record_at blocks at laid.size laid.align)) _ one after.2 in
    let same = same_loaded (record { value = cells found.0 (Some at); marks = with_read after.0 marks }) one found.2 in
    record {
      list = found.0;
      found = accessed_ok (record_at blocks at laid.size laid.align) found.0 found.1;
      value_is = ap (λ (l : CLoaded). l.value) (sym same);
      marks_are = ap (λ (l : CLoaded). l.marks) (sym same) ∙ ap (λ (range : Range). with_read range marks) (sequenced_is marks (bits_of_bytes at laid.size) after.0 after.1);
    }

-- a place that isn't that of a bit-field
abbrev pub IsNoField : CValue → Type 0
IsNoField (designates_bits at bit width) = ⊥
IsNoField (scalar value) = Unit {0}
IsNoField (cells list from) = Unit {0}
IsNoField (names number) = Unit {0}
IsNoField (designates to) = Unit {0}
IsNoField missing = Unit {0}

pub no_field : (e : CExpr) (of_c : CValue) → is_bit_field e ≡ false → IsPlaceOf e of_c → IsNoField of_c
no_field e (designates_bits at bit width) plainly is = let clash : true ≡ false = sym is.is_field ∙ plainly in cc (clash)
no_field e (scalar value) plainly is = tt
no_field e (cells list from) plainly is = tt
no_field e (names number) plainly is = tt
no_field e (designates to) plainly is = tt
no_field e missing plainly is = tt

pub loaded_plain : (setting : CSetting) (frame : CFrame) (blocks : Blocks) (type : CTy) (of_c : CValue) (marks : Marks) → IsNoField of_c → loaded setting frame blocks type of_c marks ≡ loaded_from setting blocks type marks (place_in frame of_c)
loaded_plain setting frame blocks type (designates_bits at bit width) marks is = absurd is
loaded_plain setting frame blocks type (scalar value) marks is = refl
loaded_plain setting frame blocks type (cells list from) marks is = refl
loaded_plain setting frame blocks type (names number) marks is = refl
loaded_plain setting frame blocks type (designates to) marks is = refl
loaded_plain setting frame blocks type missing marks is = refl

pub record LoadedAt (setting : CSetting) (frame : CFrame) (blocks : Blocks) (type : CTy) (of_c : CValue) (marks : Marks) (one : CLoaded) : Type 0 where
  pub kind : CKind
  pub kind_is : kind_of setting type ≡ Ok kind
  pub at : Ptr
  pub place_is : place_in frame of_c ≡ Ok (Object at)
  pub loads : loaded_kind blocks at marks kind ≡ Ok one

pub place_at_object : (to : Value) (at : Ptr) → object_at to ≡ Ok at → to ≡ Object at
place_at_object (Object here) at e = let same : here ≡ at = cc (e) in ap Object same
place_at_object Null at e = cc (e)
place_at_object (Whole number) at e = cc (e)
place_at_object (Function number) at e = cc (e)

pub loaded_is : (setting : CSetting) (frame : CFrame) (blocks : Blocks) (type : CTy) (of_c : CValue) (marks : Marks) (one : CLoaded) → IsNoField of_c → loaded setting frame blocks type of_c marks ≡ Ok one →
    LoadedAt setting frame blocks type of_c marks one
loaded_is setting frame blocks type of_c marks one plainly e =
    let kind = and_then_is (kind_of setting type) _ one (sym (loaded_plain setting frame blocks type of_c marks plainly) ∙ e) in
    let to = and_then_is (place_in frame of_c) _ one kind.2 in
    let at = and_then_is (object_at to.0) _ one to.2 in
    record {
      kind = kind.0;
      kind_is = kind.1;
      at = at.0;
      place_is = to.1 ∙ ap Ok (place_at_object to.0 at.0 at.1);
      loads = at.2;
    }

-- ---- kinds

abbrev ok_kind : CKind → Result CKind CWhy
ok_kind one = Ok one

scalar_kind_is : (found : Option Scalar) (kind : Scalar) → scalar_kind found ≡ Ok (of_scalar kind) → found ≡ Some kind
scalar_kind_is None kind e = cc (e)
scalar_kind_is (Some one) kind e = let same : one ≡ kind = cc (e) in ap Some same

no_scalar_kind : (found : Option Laid) (kind : Scalar) → record_kind found ≡ Ok (of_scalar kind) → ⊥
no_scalar_kind None kind e = cc (e)
no_scalar_kind (Some laid) kind e = cc (e)

no_record_kind : (found : Option Scalar) (laid : Laid) → scalar_kind found ≡ Ok (of_record laid) → ⊥
no_record_kind None laid e = cc (e)
no_record_kind (Some kind) laid e = cc (e)

record_kind_is : (found : Option Laid) (laid : Laid) → record_kind found ≡ Ok (of_record laid) → found ≡ Some laid
record_kind_is None laid e = cc (e)
record_kind_is (Some one) laid e = let same : one ≡ laid = cc (e) in ap Some same

pub record IsScalarKind (setting : CSetting) (type : CTy) (kind : Scalar) : Type 0 where
  pub kind_is : scalar_in_type setting type ≡ Some kind
  pub no_record : is_record type ≡ false

pub of_scalar_kind : (setting : CSetting) (form : CTyForm) (is_const : Bool) (kind : Scalar) → kind_of setting (ty form is_const) ≡ Ok (of_scalar kind) → IsScalarKind setting (ty form is_const) kind
of_scalar_kind setting (basic which) is_const kind e = record { kind_is = scalar_kind_is (scalar_in_type setting (ty (basic which) is_const)) kind e; no_record = refl }
of_scalar_kind setting (enum_type number) is_const kind e = record { kind_is = scalar_kind_is (scalar_in_type setting (ty (enum_type number) is_const)) kind e; no_record = refl }
of_scalar_kind setting (pointer to) is_const kind e = record { kind_is = scalar_kind_is (scalar_in_type setting (ty (pointer to) is_const)) kind e; no_record = refl }
of_scalar_kind setting (record_type number) is_const kind e = absurd (no_scalar_kind (extent_in setting (ty (record_type number) is_const)) kind e)
of_scalar_kind setting void is_const kind e = cc (e)
of_scalar_kind setting (array element length) is_const kind e = cc (e)
of_scalar_kind setting (function result params variadic) is_const kind e = cc (e)

pub record IsRecordKind (setting : CSetting) (type : CTy) (laid : Laid) : Type 0 where
  pub laid_is : extent_in setting type ≡ Some laid
  pub of_record_type : is_record type ≡ true

pub of_record_kind : (setting : CSetting) (form : CTyForm) (is_const : Bool) (laid : Laid) → kind_of setting (ty form is_const) ≡ Ok (of_record laid) → IsRecordKind setting (ty form is_const) laid
of_record_kind setting (record_type number) is_const laid e = record { laid_is = record_kind_is (extent_in setting (ty (record_type number) is_const)) laid e; of_record_type = refl }
of_record_kind setting (basic which) is_const laid e = absurd (no_record_kind (scalar_in_type setting (ty (basic which) is_const)) laid e)
of_record_kind setting (enum_type number) is_const laid e = absurd (no_record_kind (scalar_in_type setting (ty (enum_type number) is_const)) laid e)
of_record_kind setting (pointer to) is_const laid e = absurd (no_record_kind (scalar_in_type setting (ty (pointer to) is_const)) laid e)
of_record_kind setting void is_const laid e = cc (e)
of_record_kind setting (array element length) is_const laid e = cc (e)
of_record_kind setting (function result params variadic) is_const laid e = cc (e)

-- ---- what is written

pub field_test : (width : ℕ) → not (width == 0) ≡ false → nat_lt 0 width ≡ false
field_test width e = grind (arith, nat_tests)

pub load_given_plain : (names_of : Names) (type : CTy) (from : CExpr) (given : Given) → is_bit_field from ≡ false → load_given names_of type from given ≡ load_of_whole type given
load_given_plain names_of type (expr of at (member holder spot)) given e = rw (field_test spot.width e) refl
load_given_plain names_of type (expr of at form) given e = refl

pub same_unqualified : (names_of : Names) (type : CTy) → type_in names_of (unqualified type) ≡ type_in names_of type
same_unqualified names_of (ty form is_const) = refl

module _ (x : Around) where
  -- the part that was read is the same later
  read_again : (before after : Blocks) (marks : Marks) (range : Range) → AllOf (IsSameAt before after) (with_read range marks).reads → IsSameAt before after range
  read_again before after marks range all = (all_back (IsSameAt before after) marks.reads (range ∷ []) all).0

  pub load_owes : (asked : Asked) (form : CTyForm) (is_const : Bool) (at : Place) (from : CExpr) (number : ℕ) (images : Images) (c_world world : World) → At x images c_world world → IsTyped x.home (expr (ty form is_const) at (load from)) →
      is_bit_field from ≡ false → number ≤ (lifted x.names operand from number).next → ExprOwes x operand from number images c_world world → FormOwes x asked (ty form is_const) at (load from) number images c_world world
  load_owes asked form is_const at from number images c_world world here typed plainly rises owes =
      let type = ty form is_const in
      pure_one x asked.used (form_fixed type (load from)) (expr type at (load from)) (load_given x.names type from (lifted x.names operand from number).given) type at (load from)
      true (is_fixed operand from) from (lifted x.names operand from number) number images c_world world here (inr typed.1.0) (λ fixed. cc (fixed)) rises owes makes
    where
      made_by : (marks : Marks) (blocks : Blocks) (one : CLoaded) (made : CDone) → done one.value one.marks blocks ≡ made → (made.value ≡ one.value) × (made.marks ≡ one.marks) × (made.blocks ≡ blocks)
      made_by marks blocks one made same = (ap (λ (d : CDone). d.value) (sym same), ap (λ (d : CDone). d.marks) (sym same), ap (λ (d : CDone). d.blocks) (sym same))

      lvalue_there : (last : Images) (later : World) (to : Ptr) → GivesLvalue last x.frame later (type_in x.names (type_of from)) (lifted x.names operand from number).given (Object to) → GivesLvalue last x.frame later (type_in x.names (ty form is_const)) (lifted x.names operand from number).given (Object to)
      lvalue_there last later to gave = subst (λ (t : Ty). GivesLvalue last x.frame later t (lifted x.names operand from number).given (Object to)) (sym (ap (type_in x.names) typed.1.1.type_is ∙ same_unqualified x.names (type_of from))) gave

      whole_scalar : (last : Images) (c_later later : World) (kind : Scalar) (to : Ptr) (of_c : Value) → At x last c_later later → IsScalarKind (setting_in x.s) (ty form is_const) kind → value_at (blocks_of c_later) to kind ≡ Ok of_c →
          GivesLvalue last x.frame later (type_in x.names (ty form is_const)) (lifted x.names operand from number).given (Object to) → GivesScalar last x.frame later (type_in x.names (ty form is_const)) (load_given x.names (ty form is_const) from (lifted x.names operand from number).given) of_c
      whole_scalar last c_later later kind to of_c there is found gave =
          subst (λ (g : Given). GivesScalar last x.frame later (type_in x.names (ty form is_const)) g of_c)
          (sym (load_given_plain x.names (ty form is_const) from (lifted x.names operand from number).given plainly ∙ ap (λ (test : Bool). if test then given_form.value (address_of (place_of_given (lifted x.names operand from number).given)) else given_form.place (place_of_given (lifted x.names operand from number).given)) is.no_record))
          (scalar_loaded_given x last c_later later (type_in x.names (ty form is_const)) (lifted x.names operand from number).given kind to of_c there (x.means.scalars (ty form is_const) kind is.kind_is) found gave)

      whole_record : (last : Images) (c_later later : World) (laid : Laid) (to : Ptr) (list : List Cell) → At x last c_later later → IsRecordKind (setting_in x.s) (ty form is_const) laid → record_at (blocks_of c_later) to laid.size laid.align ≡ Ok list →
          GivesLvalue last x.frame later (type_in x.names (ty form is_const)) (lifted x.names operand from number).given (Object to) → GivesRecord last x.frame later (type_in x.names (ty form is_const)) (align_in (setting_in x.s) (ty form is_const)) (load_given x.names (ty form is_const) from (lifted x.names operand from number).given) list
      whole_record last c_later later laid to list there is found gave =
          let pointer_is = pointer_below last to gave.spot.at gave.below in
          let holds : PlaceHolds last (blocks_of later) laid.align (Object pointer_is.to) list = record_holds last (blocks_of c_later) (blocks_of later) to pointer_is.to laid.size laid.align list there.worlds.held.memories pointer_is.below found in
          subst (λ (g : Given). GivesRecord last x.frame later (type_in x.names (ty form is_const)) (align_in (setting_in x.s) (ty form is_const)) g list)
          (sym (load_given_plain x.names (ty form is_const) from (lifted x.names operand from number).given plainly ∙ ap (λ (test : Bool). if test then given_form.value (address_of (place_of_given (lifted x.names operand from number).given)) else given_form.place (place_of_given (lifted x.names operand from number).given)) is.of_record_type))
          (record {
            at = gave.spot.at;
            gives = addresses x.frame later (type_in x.names (ty form is_const)) (place_of_given (lifted x.names operand from number).given) gave.spot gave.gives gave.ty_is;
            holds = subst (λ (v : Value). PlaceHolds last (blocks_of later) (align_in (setting_in x.s) (ty form is_const)) v list) (sym pointer_is.is)
                (subst (λ (a : ℕ). PlaceHolds last (blocks_of later) a (Object pointer_is.to) list) (ap align_or (sym is.laid_is)) holds);
            based = gave.address;
            form = (_, refl);
          })

      by_kind : (kind : CKind) (one : COperand) (c1 : World) (made : CDone) (marks : Marks) (found : CLoaded) (to : Ptr) → marks ≡ both one.marks no_marks → kind_of (setting_in x.s) (ty form is_const) ≡ Ok kind → place_in (scope x) one.value ≡ Ok (Object to) →
          loaded_kind (blocks_of c1) to marks kind ≡ Ok found → made.value ≡ found.value → made.marks ≡ found.marks → made.blocks ≡ blocks_of c1 → MakesOne x asked.used (form_fixed (ty form is_const) (load from)) (expr (ty form is_const) at (load from)) (load_given x.names (ty form is_const) from (lifted x.names operand from number).given) true from (lifted x.names operand from number).given one c1 made
      by_kind (of_scalar kind) one c1 made marks found to marks_are kind_is place_is loads value_is made_marks blocks_are =
          let is = scalar_loaded_is (blocks_of c1) to marks kind found loads in
          let range = bits_of_bytes to (scalar_size kind) in
          let all_marks : made.marks ≡ with_read range marks = made_marks ∙ is.marks_are in
          record {
            blocks_are = blocks_are;
            reads = λ before after all. all_front (IsSameAt before after) one.marks.reads [] (subst (λ (m : Marks). AllOf (IsSameAt before after) m.reads) marks_are
                (all_front (IsSameAt before after) marks.reads (range ∷ []) (subst (λ (m : Marks). AllOf (IsSameAt before after) m.reads) all_marks all)));
            gives = λ last c_later later there lasts gave. where_used asked.used x last later (expr (ty form is_const) at (load from)) (load_given x.names (ty form is_const) from (lifted x.names operand from number).given) made.value (λ _.
                subst (λ (v : CValue). GivesOperand x.s x.names last x.c_frame x.frame later (expr (ty form is_const) at (load from)) (load_given x.names (ty form is_const) from (lifted x.names operand from number).given) v) (sym (value_is ∙ is.value_is))
                (whole_scalar last c_later later kind to is.of_c there (of_scalar_kind (setting_in x.s) form is_const kind kind_is)
                ((read_again (blocks_of c1) (blocks_of c_later) marks range (subst (λ (m : Marks). AllOf (IsSameAt (blocks_of c1) (blocks_of c_later)) m.reads) all_marks lasts.1.each)).values to kind refl ∙ is.found)
                (lvalue_there last later to (lvalue_given x last later from (lifted x.names operand from number).given one.value (Object to) place_is gave))));
          }
      by_kind (of_record laid) one c1 made marks found to marks_are kind_is place_is loads value_is made_marks blocks_are =
          let is = record_loaded_is (blocks_of c1) to marks laid found loads in
          let range = bits_of_bytes to laid.size in
          let all_marks : made.marks ≡ with_read range marks = made_marks ∙ is.marks_are in
          record {
            blocks_are = blocks_are;
            reads = λ before after all. all_front (IsSameAt before after) one.marks.reads [] (subst (λ (m : Marks). AllOf (IsSameAt before after) m.reads) marks_are
                (all_front (IsSameAt before after) marks.reads (range ∷ []) (subst (λ (m : Marks). AllOf (IsSameAt before after) m.reads) all_marks all)));
            gives = λ last c_later later there lasts gave. where_used asked.used x last later (expr (ty form is_const) at (load from)) (load_given x.names (ty form is_const) from (lifted x.names operand from number).given) made.value (λ _.
                subst (λ (v : CValue). GivesOperand x.s x.names last x.c_frame x.frame later (expr (ty form is_const) at (load from)) (load_given x.names (ty form is_const) from (lifted x.names operand from number).given) v) (sym (value_is ∙ is.value_is))
                (whole_record last c_later later laid to is.list there (of_record_kind (setting_in x.s) form is_const laid kind_is)
                ((read_again (blocks_of c1) (blocks_of c_later) marks range (subst (λ (m : Marks). AllOf (IsSameAt (blocks_of c1) (blocks_of c_later)) m.reads) all_marks lasts.1.each)).records to laid.size laid.align refl ∙ is.found)
                (lvalue_there last later to (lvalue_given x last later from (lifted x.names operand from number).given one.value (Object to) place_is gave))));
          }

      makes : (one : COperand) (c1 : World) (made : CDone) → Knows x from c_world one c1 → node_done (setting_in x.s) (ty form is_const) (load from) (scope x) (blocks_of c1) (one ∷ []) ≡ Ok made → MakesOne x asked.used (form_fixed (ty form is_const) (load from)) (expr (ty form is_const) at (load from)) (load_given x.names (ty form is_const) from (lifted x.names operand from number).given) true from (lifted x.names operand from number).given one c1 made
      makes one c1 made knows e =
          let node = node_one (setting_in x.s) (ty form is_const) (load from) (scope x) (blocks_of c1) one made e in
          let found = and_then_is (loaded (setting_in x.s) (scope x) (blocks_of c1) (ty form is_const) one.value node.0) _ made node.2 in
          let same : done found.0.value found.0.marks (blocks_of c1) ≡ made = cc (found.2) in
          let parts = made_by node.0 (blocks_of c1) found.0 made same in
          let there = place_given x.home from one.value typed.1.0 knows.0.operand_is.given in
          let is = loaded_is (setting_in x.s) (scope x) (blocks_of c1) (ty form is_const) one.value node.0 found.0 (no_field from one.value plainly there) found.1 in
          by_kind is.kind one c1 made node.0 found.0 is.at node.1 is.kind_is is.place_is is.loads parts.0 parts.1 parts.2
