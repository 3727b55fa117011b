-- Types that objects have where they are declared (ISO C99, 6.3.2.1p1, 6.7p7).
use Rattle.std.proofs.Common.{◌≡◌, Bool, true, false, refl}
use Rattle.cx_core.specs.declared.program.Linkage.{Linkage}
use Rattle.cx_core.specs.declared.program.Linkage.TheVariants.{External, Internal, Nothing}
use Rattle.cx_core.specs.Linked.{IsDeclaredForm}
use Rattle.cx_core.specs.Trees.{CTy, ty, CTyForm, void, basic, enum_type, pointer, array, record_type, function, form_of_type, CTypes}
use Rattle.cx_core.specs.ValidTypes.{IsObjectForm}
use Rattle.cx_rules.specs.Rules.{is_unlinked}
use Rattle.cx_rules.specs.Types.{is_function, is_void, is_incomplete}

-- an object may be declared with each object type
pub object_declared : (linkage : Linkage) (form : CTyForm) → IsObjectForm form → IsDeclaredForm linkage form
object_declared linkage void held = absurd held
object_declared linkage (function result params variadic) held = absurd held
object_declared linkage (basic which) held = tt
object_declared linkage (enum_type number) held = tt
object_declared linkage (pointer to) held = tt
object_declared linkage (array element length) held = tt
object_declared linkage (record_type number) held = tt

-- and has one where that isn't `void`
pub declared_object : (linkage : Linkage) (type : CTy) → IsDeclaredForm linkage (form_of_type type) → is_void type ≡ false → IsObjectForm (form_of_type type)
declared_object linkage (ty void is_const) held some = absurd cc
declared_object linkage (ty (function result params variadic) is_const) held some = absurd held
declared_object linkage (ty (basic which) is_const) held some = tt
declared_object linkage (ty (enum_type number) is_const) held some = tt
declared_object linkage (ty (pointer to) is_const) held some = tt
declared_object linkage (ty (array element length) is_const) held some = tt
declared_object linkage (ty (record_type number) is_const) held some = tt

-- one without linkage has an object type
pub unlinked_object : (form : CTyForm) → IsDeclaredForm Nothing form → IsObjectForm form
unlinked_object void held = absurd (let h : false ≡ true = held in cc)
unlinked_object (function result params variadic) held = absurd held
unlinked_object (basic which) held = tt
unlinked_object (enum_type number) held = tt
unlinked_object (pointer to) held = tt
unlinked_object (array element length) held = tt
unlinked_object (record_type number) held = tt

-- ---- what K5 says: an object without linkage is of complete type

void_declared : (types : CTypes) (linkage : Linkage) (is_const : Bool) → (is_unlinked linkage ≡ true → is_incomplete types (ty void is_const) ≡ false) → IsDeclaredForm linkage void
void_declared types External is_const sized = refl
void_declared types Internal is_const sized = refl
void_declared types Nothing is_const sized = absurd (let h : true ≡ false = sized refl in cc)

pub declared_form : (types : CTypes) (linkage : Linkage) (type : CTy) → is_function type ≡ false → (is_unlinked linkage ≡ true → is_incomplete types type ≡ false)
    → IsDeclaredForm linkage (form_of_type type)
declared_form types linkage (ty void is_const) no_code sized = void_declared types linkage is_const sized
declared_form types linkage (ty (function result params variadic) is_const) no_code sized = absurd cc
declared_form types linkage (ty (basic which) is_const) no_code sized = tt
declared_form types linkage (ty (enum_type number) is_const) no_code sized = tt
declared_form types linkage (ty (pointer to) is_const) no_code sized = tt
declared_form types linkage (ty (array element length) is_const) no_code sized = tt
declared_form types linkage (ty (record_type number) is_const) no_code sized = tt
