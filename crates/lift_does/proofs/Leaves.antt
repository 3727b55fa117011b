-- Constants, functions and objects (ISO C99, 6.5.1).
use Rattle.std.proofs.Common.{◌≡◌, ◌⊎◌, inl, inr, ℕ, zero, suc, ℤ, pos, negsuc, Bool, true, false, ◌||◌, ◌==◌, if◌then◌else◌, [], ◌∷◌, Option, Some, None, refl, sym, ap, subst, ◌∙◌, arith}
use Rattle.std.proofs.lemmas.Int.{ints}
use Rattle.std.specs.Prelude.{IsSome, IfSome}
use Rattle.cr_base.specs.declared.refusal.Place.{Place}
use Rattle.cr_base.specs.declared.scalar.Scalar.{Scalar}
use Rattle.cr_base.specs.declared.scalar.Scalar.TheVariants as scalars
use Rattle.cr_base.specs.Scalar.{IsInRange}
use Rattle.cr_runs.specs.Runs.{came}
use Rattle.cr_world.specs.World.{World, blocks_of}
use Rattle.cx_core.specs.Conversions.{scalar_of_pointer}
use Rattle.cx_core.specs.Trees.{CTy, ty, void, basic, enum_type, pointer, array, record_type, function, CExpr, expr, whole, null, object, code, type_of, CFun, CProgram}
use Rattle.cx_core.specs.Typing.{IsTyped, IsLvalue, function_with, IsPointer}
use Rattle.cx_mean.specs.Operands.{scalar, names, COperand, at_once, Frame as CFrame, slot_of}
use Rattle.cx_typed_values.proofs.ScalarKinds.{integer_kind}
use Rattle.cx_typed_work.proofs.Places.{names_alive}
use Rattle.cx_typed_work.specs.Operands.{IsScalarIn, Names as CNames}
use Rattle.lift_calls.specs.Frames.{home_in}
use Rattle.lift_does.proofs.Around.{Around, scope, At, DidOf, OweAs}
use Rattle.lift_does.proofs.Operands.{where_used, scalar_in, one_spot, points_at, other_based, stands_based}
use Rattle.lift_does.proofs.Reaching.{knows, reached_none}
use Rattle.lift_does.proofs.Runs.{end_owes}
use Rattle.lift_does.proofs.Types.{IsNumberKind, basic_kind, kind_there, some_kind, pointer_of_kind, code_of_kind}
use Rattle.lift_does.proofs.Unary.{FormOwes, form_fixed}
use Rattle.lift_does.specs.Gives.{GivesLvalue, GivesObject, IsNoDeref, AddressesBased, GivesOperand}
use Rattle.lift_exprs.specs.Lifted.{function_given}
use Rattle.lift_exprs.specs.Names.{KeptFunction, type_in, kept_or, function_or}
use Rattle.lift_exprs.specs.Objects.{object_at}
use Rattle.lift_exprs.specs.Written.{gives}
use Rattle.lift_forms.proofs.SameTypes.{type_is}
use Rattle.lift_forms.proofs.Typed.{by_test}
use Rattle.lift_forms.specs.Given.{Given, address_of, pointed}
use Rattle.lift_forms.specs.Given as given_form
use Rattle.lift_forms.specs.Operators.{constant, null_of, function_form}
use Rattle.lift_forms.specs.Places.{Kept, object_place}
use Rattle.lift_forms_laws.proofs.Constants.{nulls, functions, addresses}
use Rattle.lift_forms_laws.proofs.Runs.{pure_is, literal_gives, constant_gives, cast_gives}
use Rattle.lift_forms_laws.specs.Gives.{GivesAt, GivesPlace, GivenStands}
use Rattle.lift_held.specs.declared.asked.Asked.{Asked}
use Rattle.lift_stands.specs.Stands.{Images, image_of, ValueBelow}
use Rattle.mem_bytes.specs.Coding.{IsValueOf}
use Rattle.mem_bytes.specs.declared.value.Ptr.{Ptr}
use Rattle.mem_bytes.specs.declared.value.Value.{Value}
use Rattle.mem_bytes.specs.declared.value.Value.TheVariants.{Whole as Number, Null, Object, Code as Function}
use Rattle.rs_mean.specs.Calls.{Spot, spot}
use Rattle.rs_mean.specs.Lookups.{Home}
use Rattle.rs_mean.specs.Run.{normal}
use Rattle.rs_mean.specs.Scalars.{scalar_of, same_type}
use Rattle.rs_mean.specs.Typing.{is_pointer, is_code}
use Rattle.rs_text.specs.Tree.{Ty, Integer, Boolean, Void, Pointer, Array, Code, Record, Place as RustPlace, Local, Static, Deref, Field, AddressOf, Cast}

-- ---- numbers of a kind

module _ (x : Around) where
  truth_by : (world : World) (number : ℤ) → IsInRange scalars.Truth number → GivesAt x.frame world (constant Boolean number) Boolean (Number number)
  truth_by world (pos zero) range = constant_gives x.frame world false
  truth_by world (pos (suc zero)) range = constant_gives x.frame world true
  truth_by world (pos (suc (suc k))) range = let high = range.1 in absurd (omega (arith, ints, high))
  truth_by world (negsuc k) range = let low = range.0 in absurd (omega (arith, ints, low))

  number_gives : (world : World) (one : Ty) (kind : Scalar) (number : ℤ) → scalar_of one ≡ Some kind → IsNumberKind kind → IsInRange kind number → GivesAt x.frame world (constant one number) one (Number number)
  number_gives world (Integer which) kind number e is range = literal_gives x.frame world number which
  number_gives world Boolean kind number e is range = truth_by world number (subst (λ (k : Scalar). IsInRange k number) (sym (some_kind scalars.Truth kind e)) range)
  number_gives world (Pointer target) kind number e is range = absurd (subst IsNumberKind (sym (some_kind scalars.Object kind e)) is)
  number_gives world (Code params result) kind number e is range = absurd (subst IsNumberKind (sym (some_kind scalars.Code kind e)) is)
  number_gives world Void kind number e is range = cc (e)
  number_gives world (Array element size) kind number e is range = cc (e)
  number_gives world (Record m y) kind number e is range = cc (e)

  constant_based : (world : World) (one : Ty) (number : ℤ) → AddressesBased x.frame world (given_form.value (constant one number))
  constant_based world (Integer which) number = other_based x world _ (λ p same. cc (same))
  constant_based world Boolean number = other_based x world _ (λ p same. cc (same))
  constant_based world (Pointer target) number = other_based x world _ (λ p same. cc (same))
  constant_based world (Code params result) number = other_based x world _ (λ p same. cc (same))
  constant_based world Void number = other_based x world _ (λ p same. cc (same))
  constant_based world (Array element size) number = other_based x world _ (λ p same. cc (same))
  constant_based world (Record m y) number = other_based x world _ (λ p same. cc (same))

  null_based : (world : World) (one : Ty) → AddressesBased x.frame world (given_form.value (null_of one))
  null_based world (Integer which) = other_based x world _ (λ p same. cc (same))
  null_based world Boolean = other_based x world _ (λ p same. cc (same))
  null_based world (Pointer target) = other_based x world _ (λ p same. cc (same))
  null_based world (Code params result) = other_based x world _ (λ p same. cc (same))
  null_based world Void = other_based x world _ (λ p same. cc (same))
  null_based world (Array element size) = other_based x world _ (λ p same. cc (same))
  null_based world (Record m y) = other_based x world _ (λ p same. cc (same))

  -- ---- what is there at once

  pub leaf_owes : (used fixed : Bool) (e : CExpr) (given : Given) (operand : COperand) (from : ℕ) (images : Images) (c_world world : World) → At x images c_world world →
      ((last : Images) (c_later later : World) → At x last c_later later → GivesOperand x.s x.names last x.c_frame x.frame later e given operand.value) →
      OweAs x (DidOf x used fixed e (gives given from) from images c_world world) (came operand c_world) [] world
  leaf_owes used fixed e given operand from images c_world world here all =
      let none = reached_none x from images c_world world here in
      end_owes x (DidOf x used fixed e (gives given from) from images c_world world) operand [] c_world world world (λ units. pure_is normal world units) (record {
        flow_is = refl;
        later = images;
        own = none.own;
        are_own = none.are_own;
        keeps = none.keeps;
        worlds = here.worlds;
        gives = λ last c_later later is_later. where_used used x last later e given operand.value (λ _. all last c_later later is_later.here);
      })

  -- constants
  pub whole_owes : (asked : Asked) (type : CTy) (at : Place) (number : ℤ) (from : ℕ) (images : Images) (c_world world : World) → At x images c_world world → IsTyped x.home (expr type at (whole number)) →
      FormOwes x asked type at (whole number) from images c_world world
  whole_owes asked type at number from images c_world world here typed =
      let kind = integer_kind x.home.program.types type typed.1.integer in
      let range : IsInRange _ number = subst (λ (found : Option Scalar). IfSome found (λ one. IsInRange one number)) kind.kind_is typed.1.in_range in
      leaf_owes asked.used (form_fixed type (whole number)) (expr type at (whole number)) (given_form.value (constant (type_in x.names type) number)) (at_once type (scalar (Number number))) from images c_world world here
      (λ last c_later later there. record {
        stands = record {
          other = Number number;
          gives = number_gives later (type_in x.names type) _ number (kind_there x type _ kind.kind_is) (basic_kind kind.which) range;
          below = ValueBelow.same_number number;
        };
        based = constant_based later (type_in x.names type) number;
      })

  pointer_kinds : (to : CTy) → (scalar_of_pointer to ≡ scalars.Object) ⊎ (scalar_of_pointer to ≡ scalars.Code)
  pointer_kinds (ty (function result params variadic) is_const) = inr refl
  pointer_kinds (ty void is_const) = inl refl
  pointer_kinds (ty (basic which) is_const) = inl refl
  pointer_kinds (ty (enum_type number) is_const) = inl refl
  pointer_kinds (ty (pointer of) is_const) = inl refl
  pointer_kinds (ty (array element length) is_const) = inl refl
  pointer_kinds (ty (record_type number) is_const) = inl refl

  or_true : (one other : Bool) → (one ≡ true) ⊎ (other ≡ true) → (one || other) ≡ true
  or_true true other is = refl
  or_true false true is = refl
  or_true false false (inl is) = is
  or_true false false (inr is) = is

  either_pointer : (one : Ty) (kind : Scalar) → scalar_of one ≡ Some kind → (kind ≡ scalars.Object) ⊎ (kind ≡ scalars.Code) → (is_pointer one || is_code one) ≡ true
  either_pointer one kind e (inl is) = or_true (is_pointer one) (is_code one) (inl (pointer_of_kind one (e ∙ ap Some is)))
  either_pointer one kind e (inr is) = or_true (is_pointer one) (is_code one) (inr (code_of_kind one (e ∙ ap Some is)))

  null_at : (type : CTy) → IsPointer type → (is_pointer (type_in x.names type) || is_code (type_in x.names type)) ≡ true
  null_at (ty (pointer to) is_const) is = either_pointer (type_in x.names (ty (pointer to) is_const)) (scalar_of_pointer to) (kind_there x (ty (pointer to) is_const) (scalar_of_pointer to) refl) (pointer_kinds to)
  null_at (ty void is_const) is = absurd is
  null_at (ty (basic which) is_const) is = absurd is
  null_at (ty (enum_type number) is_const) is = absurd is
  null_at (ty (array element length) is_const) is = absurd is
  null_at (ty (record_type number) is_const) is = absurd is
  null_at (ty (function result params variadic) is_const) is = absurd is

  pub null_owes : (asked : Asked) (type : CTy) (at : Place) (from : ℕ) (images : Images) (c_world world : World) → At x images c_world world → IsTyped x.home (expr type at null) → FormOwes x asked type at null from images c_world world
  null_owes asked type at from images c_world world here typed =
      leaf_owes asked.used (form_fixed type null) (expr type at null) (given_form.value (null_of (type_in x.names type))) (at_once type (scalar Null)) from images c_world world here
      (λ last c_later later there. record {
        stands = record { other = Null; gives = nulls x.frame later (type_in x.names type) (null_at type typed.1); below = ValueBelow.both_null };
        based = null_based later (type_in x.names type);
      })

  -- functions: what a pointer to a function has is of the kind of code
  code_is : (one : Ty) → is_code one ≡ true → is_pointer one ≡ false
  code_is (Code params result) e = refl
  code_is (Integer which) e = cc (e)
  code_is Boolean e = cc (e)
  code_is (Pointer target) e = cc (e)
  code_is Void e = cc (e)
  code_is (Array element size) e = cc (e)
  code_is (Record m y) e = cc (e)

  code_there : (type : CTy) (number : ℕ) → IsScalarIn x.home.program type (Function number) → is_code (type_in x.names type) ≡ true
  code_there type number is = code_of_kind (type_in x.names type) (kind_there x type is.kind is.kind_is ∙ ap Some (by is.kind is.of_kind))
    where
      by : (kind : Scalar) → IsValueOf kind (Function number) → kind ≡ scalars.Code
      by scalars.Code of_kind = refl
      by scalars.Object of_kind = absurd of_kind
      by scalars.Truth of_kind = absurd of_kind
      by (scalars.Whole width signed) of_kind = absurd of_kind

  function_stands : (last : Images) (c_later later : World) (type : CTy) (number : ℕ) (found : Option CFun) → At x last c_later later → is_code (type_in x.names type) ≡ true → function_with number x.home.program.functions ≡ found → IsSome found →
      GivenStands last x.frame later (type_in x.names type) (function_given x.names type (function_or (x.names.functions number))) (Function number)
  function_stands last c_later later type number None there is_there e some = cc
  function_stands last c_later later type number (Some one) there is_there e some =
      let found : function_with number x.s.program.functions ≡ Some one = subst (λ (program : CProgram). function_with number program.functions ≡ Some one) x.means.program e in
      let means = x.means.functions number one found in
      let agrees = there.program.functions number one found in
      let path : means.2.path ≡ agrees.path = let same : Some means.2.path ≡ Some agrees.path = sym means.2.path_is ∙ agrees.path_is in cc (same) in
      subst (λ (kept : Option KeptFunction). GivenStands last x.frame later (type_in x.names type) (function_given x.names type (function_or kept)) (Function number)) (sym means.1)
      (subst (λ (t : Ty). GivenStands last x.frame later (type_in x.names type) (function_form means.0.home means.0.name t (type_in x.names type)) (Function number)) (sym means.2.ty_is)
      (functions x.frame later last means.0.home means.0.name _ _ (type_in x.names type) number agrees.place is_there
      (rw (there.frames.modules, means.2.home_is, means.2.name_is, path) agrees.place_is) agrees.image))

  pub code_owes : (asked : Asked) (type : CTy) (at : Place) (number : ℕ) (from : ℕ) (images : Images) (c_world world : World) → At x images c_world world → IsTyped x.home (expr type at (code number)) →
      FormOwes x asked type at (code number) from images c_world world
  code_owes asked type at number from images c_world world here typed =
      let known = knows x (expr type at (code number)) images c_world world (inl typed) here 0 in
      let of = scalar_in x (expr type at (code number)) (at_once type (scalar (Function number))) (Function number) typed known.0.operand_is refl in
      let is_there = code_there type number of in
      leaf_owes asked.used (form_fixed type (code number)) (expr type at (code number)) (function_given x.names type (function_or (x.names.functions number))) (at_once type (scalar (Function number))) from images c_world world here
      (λ last c_later later there.
      let stands = function_stands last c_later later type number (function_with number x.home.program.functions) there is_there refl of.leads in
      record { stands = stands; based = stands_based x last later (type_in x.names type) (function_given x.names type (function_or (x.names.functions number))) (Function number) (code_is (type_in x.names type) is_there) stands })

  -- ---- objects

  abbrev home_spot : Home → Spot
  home_spot home = spot home.ty (Object (record { block = home.block; offset = 0 }))

  -- a local or a static object
  pub record IsThere (world : World) (p : RustPlace) (home : Home) : Type 0 where
    pub gives : GivesPlace x.frame world p (home_spot home)
    pub address : AddressesBased x.frame world (given_form.value (address_of p))

  own_address : (world : World) (p : RustPlace) (home : Home) → IsNoDeref p → GivesPlace x.frame world p (home_spot home) → AddressesBased x.frame world (given_form.value (AddressOf p))
  own_address world p home plain gives_it = record {
    based = λ q other same found.
        let place_is : p ≡ q = cc (same) in
        ap (λ (s : Spot). s.is_based) (one_spot x world p other (home_spot home) (subst (λ (r : RustPlace). GivesPlace x.frame world r other) (sym place_is) found) gives_it);
    plain = λ q same. let place_is : p ≡ q = cc (same) in subst IsNoDeref place_is plain;
  }

  there_at : (world : World) (p : RustPlace) (home : Home) → home_in x.frame p ≡ Some home → IsThere world p home
  there_at world (Local name) home e =
      let gives_it : GivesPlace x.frame world (Local name) (home_spot home) = record { runs = λ units. rw (e) (pure_is (home_spot home) world units) } in
      record { gives = gives_it; address = own_address world (Local name) home tt gives_it }
  there_at world (Static m name) home e =
      let gives_it : GivesPlace x.frame world (Static m name) (home_spot home) = record { runs = λ units. rw (e) (pure_is (home_spot home) world units) } in
      record { gives = gives_it; address = own_address world (Static m name) home tt gives_it }
  there_at world (Deref e) home same = cc (same)
  there_at world (Field whole_of f) home same = cc (same)

  begin_below : (images : Images) (at : Ptr) (block : ℕ) → at.offset ≡ 0 → image_of images at.block ≡ Some block → ValueBelow images (Object at) (Object (record { block = block; offset = 0 }))
  begin_below images at block begins e = ValueBelow.to_image at (record { block = block; offset = 0 }) (record { block = e; offset = sym begins })

  abbrev begin_of : ℕ → Ptr
  begin_of block = record { block = block; offset = 0 }

  slot_begins : (frame : CFrame) (number : ℕ) (at : Ptr) → slot_of frame number ≡ Some at → at.offset ≡ 0
  slot_begins [] number at e = cc (e)
  slot_begins (slot ∷ others) number at e = by (slot.object == number) (λ same. slot_begins others number at same) e
    where
      by : (test : Bool) → (slot_of others number ≡ Some at → at.offset ≡ 0) → (if test then Some (record { block = slot.block; offset = 0 }) else slot_of others number) ≡ Some at → at.offset ≡ 0
      by true rest same = let is : begin_of slot.block ≡ at = cc (same) in ap (λ (p : Ptr). p.offset) (sym is)
      by false rest same = rest same

  -- an object is where its name says, whatever type it has here
  pub object_there : (last : Images) (c_later later : World) (type : CTy) (number : ℕ) (at : Ptr) → At x last c_later later → slot_of (scope x) number ≡ Some at →
      GivesLvalue last x.frame later (type_in x.names type) (given_form.place (object_at x.names type number)) (Object at)
  object_there last c_later later type number at there e =
      let agrees = there.frames.objects number at e in
      let is_there = there_at later agrees.kept.place agrees.home agrees.is_home.home_is in
      let below = begin_below last at agrees.home.block (slot_begins (scope x) number at e) agrees.image in
      let one = type_in x.names type in
      subst (λ (kept : Option Kept). GivesLvalue last x.frame later one (given_form.place (object_place (kept_or kept) one)) (Object at)) (sym (x.means.objects number agrees.kept agrees.kept_is))
      (by_test (λ (p : RustPlace). GivesLvalue last x.frame later one (given_form.place p) (Object at)) (same_type agrees.kept.ty one) agrees.kept.place (pointed (Cast (address_of agrees.kept.place) (Pointer one)))
      (λ same. record { spot = home_spot agrees.home; gives = is_there.gives; ty_is = agrees.is_home.ty_is ∙ type_is agrees.kept.ty one same; below = below; based = inl refl; address = is_there.address })
      (λ _.
      let to : Ptr = begin_of agrees.home.block in
      let cast = cast_gives x.frame later (address_of agrees.kept.place) (Pointer agrees.kept.ty) (Pointer one) (Object to) (Object to) (addresses x.frame later agrees.kept.ty agrees.kept.place (home_spot agrees.home) is_there.gives agrees.is_home.ty_is) refl in
      let points = points_at x last later (Cast (address_of agrees.kept.place) (Pointer one)) one (Object to) cast (other_based x later _ (λ p same. cc (same))) in
      record { spot = points.spot; gives = points.gives; ty_is = points.ty_is; below = subst (λ (v : Value). ValueBelow last (Object at) v) (sym points.at_is) below; based = points.based_is; address = points.address }))

  pub object_given : (last : Images) (c_later later : World) (e : CExpr) (number : ℕ) → At x last c_later later → IsLvalue x.home e → CNames e number →
      GivesObject last x.frame later (type_in x.names (type_of e)) (given_form.place (object_at x.names (type_of e) number)) (slot_of (scope x) number)
  object_given last c_later later e number there typed named =
      let alive = names_alive x.home (scope x) (blocks_of c_later) e number there.typed.scene typed named in
      let found : slot_of (scope x) number ≡ Some alive.alive.at = ap (slot_of (scope x)) (sym alive.number_is) ∙ alive.alive.at_is in
      subst (GivesObject last x.frame later (type_in x.names (type_of e)) (given_form.place (object_at x.names (type_of e) number))) (sym found) (object_there last c_later later (type_of e) number alive.alive.at there found)

  pub object_owes : (asked : Asked) (type : CTy) (at : Place) (number : ℕ) (from : ℕ) (images : Images) (c_world world : World) → At x images c_world world → IsLvalue x.home (expr type at (object number)) →
      FormOwes x asked type at (object number) from images c_world world
  object_owes asked type at number from images c_world world here typed =
      leaf_owes asked.used (form_fixed type (object number)) (expr type at (object number)) (given_form.place (object_at x.names type number)) (at_once type (names number)) from images c_world world here
      (λ last c_later later there. object_given last c_later later (expr type at (object number)) number there typed refl)
