-- The types of external functions: what they give is a scalar or nothing, and their items take what is passed (ISO C99, 6.5.2.2p2, 7.20.3, 7.20.4 and 7.21).
use Rattle.std.proofs.Common.{◌≡◌, inl, inr, ℕ, Bool, true, false, if◌then◌else◌, List, [], ◌∷◌, Option, Some, None, refl, sym, subst}
use Rattle.std.proofs.lemmas.Bool.{and_parts}
use Rattle.std.specs.Bool.{beq}
use Rattle.std.specs.List.{find}
use Rattle.cr_base.specs.declared.scalar.Scalar.{Scalar}
use Rattle.cx_core.specs.Compatible.{AreCompatible, forms_agree, lists_agree, agree, in_pairs}
use Rattle.cx_core.specs.Conversions.{scalar_of as c_scalar_of}
use Rattle.cx_core.specs.Externals.{CKnown, known_functions, known_as, HasSignature, IsOpaqueResult, IsOpaque, IsExternalType}
use Rattle.cx_core.specs.Trees.{CTypes, CTy, ty, CTyForm, void, basic, enum_type, pointer, array, record_type, function, form_of_type, unqualified, CParams, unlisted, listed, CTys, no_types, more_types, CExprs, no_exprs, more_exprs, type_of}
use Rattle.cx_core.specs.Typing.{AreArguments, AreArgumentsOf}
use Rattle.cx_typed_values.proofs.ScalarKinds.{integer_kind}
use Rattle.cx_typed_work.proofs.AlikeValues.{forms_meet}
use Rattle.lift_does.proofs.Around.{Around}
use Rattle.lift_does.proofs.OuterArguments.{FrontFits}
use Rattle.lift_does.proofs.RecordTypes.{scalar_no_record}
use Rattle.lift_does.proofs.Params.{param_fits}
use Rattle.lift_does.specs.Outers.{TakesAll}
use Rattle.lift_held.specs.Held.{is_void, is_record}
use Rattle.rs_items.specs.Types.{rust_types, rust_params}

-- ---- results

-- a scalar, or nothing
pub record ResultKind (types : CTypes) (back : CTy) : Type 0 where
  pub kind : is_void back ≡ false → (kind : Scalar) × (c_scalar_of types (form_of_type back) ≡ Some kind)
  pub plain : is_record back ≡ false

same_result : (types : CTypes) (back : CTy) → ResultKind types (unqualified back) → ResultKind types back
same_result types (ty form is_const) is = record { kind = λ e. is.kind e; plain = is.plain }

abbrev Each : {A : Type 0} → (A → Type 0) → List A → Type 0
Each P [] = Unit {0}
Each P (one ∷ others) = P one × Each P others

known_results : (types : CTypes) → Each (λ (one : CKnown). ResultKind types one.signature.result) known_functions
unfolding known_functions
known_results types = (record { kind = λ e. (_, refl); plain = refl }, (record { kind = λ e. (_, refl); plain = refl }, (record { kind = λ e. cc (e); plain = refl }, (record { kind = λ e. (_, refl); plain = refl }, (record { kind = λ e. (_, refl); plain = refl }, (record { kind = λ e. (_, refl); plain = refl }, (record { kind = λ e. cc (e); plain = refl }, (record { kind = λ e. cc (e); plain = refl }, tt))))))))

found_first : {A : Type 0} (P : A → Type 0) (test : A → Bool) (first one : A) (others : List A) (is : Bool) → (if is then Some first else find test others) ≡ Some one → P first → (find test others ≡ Some one → P one) → P one
found_first P test first one others true found here rest = let same : first ≡ one = cc (found) in subst P same here
found_first P test first one others false found here rest = rest found

found_has : {A : Type 0} (P : A → Type 0) (test : A → Bool) (list : List A) (one : A) → find test list ≡ Some one → Each P list → P one
found_has P test [] one e all = cc (e)
found_has P test (first ∷ others) one e all = found_first P test first one others (test first) e all.0 (λ found. found_has P test others one found all.1)

void_kind : (types : CTypes) (back : CTy) → form_of_type back ≡ void → ResultKind types back
void_kind types (ty void is_const) e = record { kind = λ some. cc (some); plain = refl }
void_kind types (ty (basic which) is_const) e = cc (e)
void_kind types (ty (enum_type number) is_const) e = cc (e)
void_kind types (ty (pointer to) is_const) e = cc (e)
void_kind types (ty (array element count) is_const) e = cc (e)
void_kind types (ty (record_type number) is_const) e = cc (e)
void_kind types (ty (function back params variadic) is_const) e = cc (e)

opaque_kind : (types : CTypes) (back : CTy) → IsOpaqueResult types back → ResultKind types back
opaque_kind types back (inl nothing) = void_kind types back nothing
opaque_kind types back (inr number) =
    let kind = integer_kind types back number in
    record { kind = λ e. (_, kind.kind_is); plain = scalar_no_record types back _ kind.kind_is }

-- ---- the types of external functions

abbrev IsAs : CTypes → CTyForm → Option CKnown → Type 0
IsAs types form (Some one) = HasSignature one.signature form
IsAs types form None = IsOpaque types form

pub record OuterForm (types : CTypes) (form : CTyForm) : Type 0 where
  pub back : CTy
  pub params : CParams
  pub variadic : Bool
  pub form_is : form ≡ function back params variadic
  pub gives : ResultKind types back

form_by : (types : CTypes) (name : List ℕ) (form : CTyForm) (found : Option CKnown) → known_as name ≡ found → IsAs types form found → OuterForm types form
form_by types name (function back params variadic) (Some one) e is = record {
  back = back;
  params = params;
  variadic = variadic;
  form_is = refl;
  gives = same_result types back (subst (ResultKind types) (sym is.0) (found_has (λ (known : CKnown). ResultKind types known.signature.result) _ known_functions one e (known_results types)));
}
form_by types name (function back params variadic) None e is = record { back = back; params = params; variadic = variadic; form_is = refl; gives = opaque_kind types back is.0 }
form_by types name void (Some one) e is = absurd is
form_by types name void None e is = absurd is
form_by types name (basic which) (Some one) e is = absurd is
form_by types name (basic which) None e is = absurd is
form_by types name (enum_type number) (Some one) e is = absurd is
form_by types name (enum_type number) None e is = absurd is
form_by types name (pointer to) (Some one) e is = absurd is
form_by types name (pointer to) None e is = absurd is
form_by types name (array element count) (Some one) e is = absurd is
form_by types name (array element count) None e is = absurd is
form_by types name (record_type number) (Some one) e is = absurd is
form_by types name (record_type number) None e is = absurd is

pub outer_form : (types : CTypes) (name : List ℕ) (form : CTyForm) → IsExternalType types name form → OuterForm types form
outer_form types name form is = form_by types name form (known_as name) refl is

-- ---- parameters

module _ (x : Around) where
  lists_front : (a b : CTy) (by : AreCompatible x.home.program.types a b) (firsts seconds : CTys) (variadic : Bool) (args : CExprs) → lists_agree x.home.program.types (in_pairs by.pairs) firsts seconds ≡ true → AreArguments x.home.program.types firsts variadic args →
      FrontFits x args (rust_types x.names.types seconds)
  lists_front a b by firsts no_types variadic args agree typed = tt
  lists_front a b by no_types (more_types second seconds) variadic args agree typed = let clash : false ≡ true = agree in cc (clash)
  lists_front a b by (more_types (ty f is_const) firsts) (more_types (ty s const) seconds) variadic no_exprs agree typed = absurd typed
  lists_front a b by (more_types (ty f is_const) firsts) (more_types (ty s const) seconds) variadic (more_exprs first others) agree typed =
      let parts = and_parts (forms_agree x.home.program.types (in_pairs by.pairs) f s) (lists_agree x.home.program.types (in_pairs by.pairs) firsts seconds) agree in
      (param_fits x a b by f s const first (is_record (type_of first)) refl typed.0 parts.0, lists_front a b by firsts seconds variadic others parts.1 typed.1)

  pub outer_fits : (visible own given result : CTy) (given_params params : CParams) (given_variadic variadic : Bool) (args : CExprs) → AreCompatible x.home.program.types visible own → form_of_type visible ≡ function given given_params given_variadic →
      form_of_type own ≡ function result params variadic → AreArgumentsOf x.home.program.types given_params given_variadic args → TakesAll (rust_params x.names.types params) variadic args → FrontFits x args (rust_params x.names.types params)
  outer_fits visible own given result given_params unlisted given_variadic variadic args by is own_is typed takes = tt
  outer_fits visible own given result unlisted (listed params) given_variadic variadic args by is own_is typed takes =
      subst (λ (all : CExprs). FrontFits x all (rust_types x.names.types params)) (sym typed) (none params (subst (TakesAll (rust_types x.names.types params) variadic) typed takes))
    where
      none : (list : CTys) → TakesAll (rust_types x.names.types list) variadic no_exprs → FrontFits x no_exprs (rust_types x.names.types list)
      none no_types they = tt
      none (more_types one others) they = absurd they
  outer_fits visible own given result (listed given_params) (listed params) given_variadic variadic args by is own_is typed takes =
      let types = x.home.program.types in
      let meets : forms_agree types (in_pairs by.pairs) (function given (listed given_params) given_variadic) (function result (listed params) variadic) ≡ true =
      subst (λ (f : CTyForm). forms_agree types (in_pairs by.pairs) f (function result (listed params) variadic) ≡ true) is
      (subst (λ (f : CTyForm). forms_agree types (in_pairs by.pairs) (form_of_type visible) f ≡ true) own_is (forms_meet types (in_pairs by.pairs) visible own by.meet)) in
      let behind = (and_parts (agree types (in_pairs by.pairs) given result) _ meets).1 in
      let parts = and_parts (beq given_variadic variadic) (lists_agree types (in_pairs by.pairs) given_params params) behind in
      lists_front visible own by given_params params given_variadic args parts.1 typed
