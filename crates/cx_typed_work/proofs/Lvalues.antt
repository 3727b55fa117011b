-- Loads and stores through the places of typed lvalues, bit-fields among them (6.3.2.1, 6.5.16.1).
use Rattle.std.proofs.Common.{◌≡◌, ◌⊎◌, inl, inr, ℕ, ◌==◌, Bool, true, false, true≢false, not, Option, Some, None, Result, Ok, Err, refl, sym, ap, subst, ◌∙◌, arith}
use Rattle.std.proofs.lemmas.Bool.Decides.{nat_tests}
use Rattle.cr_base.specs.declared.layout.Spot.{Spot}
use Rattle.cr_base.specs.declared.refusal.Place.{Place}
use Rattle.cx_core.specs.Conversions.{scalar_of}
use Rattle.cx_core.specs.Trees.{CTy, ty, CTyForm, void, basic, enum_type, pointer, array, record_type, function, form_of_type, unqualified, CTypes, CProgram, CExpr, expr, CForm, whole, null, object, code, load, deref, member, address, convert, unary, binary, and, or, cond, assign, assign_by, step, call, call_by, comma, literal, type_of}
use Rattle.cx_core.specs.Typing.{CHome, IsLvalue, IsTyped, is_bit_field}
use Rattle.cx_core.specs.ValidTypes.{IsTypeIn, IsComplete, IsResultForm, AreTypes}
use Rattle.cx_mean.specs.Accesses.{loaded, loaded_bits, loaded_from, stored, stored_bits, stored_to}
use Rattle.cx_mean.specs.Marks.{Marks}
use Rattle.cx_mean.specs.Operands.{CWhy, needed, CValue, scalar, cells, names, designates, designates_bits, missing, Frame, place_in}
use Rattle.cx_mean.specs.Settings.{setting_of, scalar_in_type}
use Rattle.mem_bytes.specs.Access.{and_then}
use Rattle.mem_bytes.specs.declared.value.Ptr.{Ptr}
use Rattle.mem_bytes.specs.Memory.{Blocks}
use Rattle.cx_typed_values.specs.Outcomes.{Comes}
use Rattle.cx_typed_work.proofs.Accesses.{IsAccess, access_of, IsLoadedOf, load_comes}
use Rattle.cx_typed_work.proofs.Bits.{bits_loaded}
use Rattle.cx_typed_work.proofs.BitStores.{bits_stored}
use Rattle.cx_typed_work.proofs.Fields.{IsField, IsFieldAt, field_at}
use Rattle.cx_typed_work.proofs.Given.{place_comes}
use Rattle.cx_typed_work.proofs.Stores.{IsStoredOf, IsStorable, store_comes}
use Rattle.cx_typed_work.specs.Operands.{IsPlaceOf, IsFieldPlace}
use Rattle.cx_typed_work.specs.Scenes.{IsScene}

-- ---- places of bit-fields

zero_width : (width : ℕ) → not (width == 0) ≡ true → width ≡ 0 → ⊥
zero_width width is zero = true≢false (sym is ∙ ap (λ n. not (n == 0)) zero)

-- the place of a bit-field has the width of one
pub field_of_place : (home : CHome) (node : CExpr) (at : Ptr) (bit width : ℕ) → AreTypes home.program.types → IsLvalue home node → IsFieldPlace node at bit width → IsField home.program.types (type_of node) width
field_of_place home (expr type place (member of spot)) at bit width types is there =
    let same : spot ≡ there.spot = cc (there.spot_is) in
    let found = field_at home.program.types (type_of of) spot type types is.2.1 (zero_width spot.width there.is_field) in
    subst (IsField home.program.types type) (ap (λ (s : Spot). s.width) same ∙ sym there.width_is) found.field
field_of_place home (expr type place (object number)) at bit width types is there = absurd (true≢false (sym there.is_field))
field_of_place home (expr type place (deref from)) at bit width types is there = absurd (true≢false (sym there.is_field))
field_of_place home (expr type place (literal number puts)) at bit width types is there = absurd (true≢false (sym there.is_field))
field_of_place home (expr type place (whole value)) at bit width types is there = absurd is.2
field_of_place home (expr type place null) at bit width types is there = absurd is.2
field_of_place home (expr type place (code number)) at bit width types is there = absurd is.2
field_of_place home (expr type place (load from)) at bit width types is there = absurd is.2
field_of_place home (expr type place (address of)) at bit width types is there = absurd is.2
field_of_place home (expr type place (convert value)) at bit width types is there = absurd is.2
field_of_place home (expr type place (unary op value)) at bit width types is there = absurd is.2
field_of_place home (expr type place (binary op left right)) at bit width types is there = absurd is.2
field_of_place home (expr type place (and left right)) at bit width types is there = absurd is.2
field_of_place home (expr type place (or left right)) at bit width types is there = absurd is.2
field_of_place home (expr type place (cond test first second)) at bit width types is there = absurd is.2
field_of_place home (expr type place (assign target value)) at bit width types is there = absurd is.2
field_of_place home (expr type place (assign_by op computes target value)) at bit width types is there = absurd is.2
field_of_place home (expr type place (step up post on)) at bit width types is there = absurd is.2
field_of_place home (expr type place (call callee args)) at bit width types is there = absurd is.2
field_of_place home (expr type place (call_by callee args)) at bit width types is there = absurd is.2
field_of_place home (expr type place (comma first second)) at bit width types is there = absurd is.2

-- a bit-field's type without qualifier
plain_field : (types : CTypes) (form : CTyForm) (is_const : Bool) (width : ℕ) → IsField types (ty form is_const) width → IsField types (ty form false) width
plain_field types form is_const width one = record { kind = one.kind; kind_is = one.kind_is; fits = one.fits; narrow = one.narrow }

-- a type without its qualifier stands where it does, but for arrays, which have none
pub plain_type_in : (types : CTypes) (unit : ℕ) (form : CTyForm) (is_const : Bool) → IsTypeIn types unit (ty form is_const) → IsResultForm form → IsTypeIn types unit (ty form false)
plain_type_in types unit void is_const is result = is
plain_type_in types unit (basic which) is_const is result = is
plain_type_in types unit (enum_type number) is_const is result = is
plain_type_in types unit (pointer to) is_const is result = is
plain_type_in types unit (array element length) is_const is result = absurd result
plain_type_in types unit (record_type number) is_const is result = is
plain_type_in types unit (function result_type params variadic) is_const is result = absurd result

lvalue_access : (home : CHome) (form : CTyForm) (is_const : Bool) (place : Place) (node : CForm) → AreTypes home.program.types → IsLvalue home (expr (ty form is_const) place node) → IsComplete home.program.types (ty form is_const) → IsResultForm form
    → IsAccess home.program (ty form false)
lvalue_access home form is_const place node types is complete result =
    access_of home.program home.unit form false types (plain_type_in home.program.types home.unit form is_const is.0 result) complete result

-- ---- loads

pub load_from_lvalue : (home : CHome) (frame : Frame) (blocks : Blocks) (form : CTyForm) (is_const : Bool) (place : Place) (node : CForm) (value : CValue) (marks : Marks) → IsScene home frame blocks
    → IsLvalue home (expr (ty form is_const) place node) → IsPlaceOf (expr (ty form is_const) place node) value → IsComplete home.program.types (ty form is_const) → IsResultForm form
    → Comes (IsLoadedOf home.program (ty form false)) (loaded (setting_of home.program) frame blocks (ty form false) value marks)
load_from_lvalue home frame blocks form is_const place node (names number) marks scene is there complete result =
    load_comes home.program (ty form false) blocks marks (place_in frame (names number)) (lvalue_access home form is_const place node scene.linked.types is complete result) scene.memory
    (place_comes home frame blocks (expr (ty form is_const) place node) (names number) scene is there (λ bits. bits))
load_from_lvalue home frame blocks form is_const place node (designates to) marks scene is there complete result =
    load_comes home.program (ty form false) blocks marks (place_in frame (designates to)) (lvalue_access home form is_const place node scene.linked.types is complete result) scene.memory
    (place_comes home frame blocks (expr (ty form is_const) place node) (designates to) scene is there (λ bits. bits))
load_from_lvalue home frame blocks form is_const place node (designates_bits at bit width) marks scene is there complete result =
    let one = plain_field home.program.types form is_const width (field_of_place home (expr (ty form is_const) place node) at bit width scene.linked.types is there) in
    subst (λ found. Comes (IsLoadedOf home.program (ty form false)) (and_then (needed found) (loaded_bits blocks at bit width marks))) (sym one.kind_is)
    (bits_loaded home.program (ty form false) blocks at bit width marks one there.of_profile)
load_from_lvalue home frame blocks form is_const place node (scalar value) marks scene is there complete result = absurd there
load_from_lvalue home frame blocks form is_const place node (cells held from) marks scene is there complete result = absurd there
load_from_lvalue home frame blocks form is_const place node missing marks scene is there complete result = absurd there

-- ---- stores

pub store_to_lvalue : (home : CHome) (frame : Frame) (blocks : Blocks) (form : CTyForm) (is_const : Bool) (place : Place) (node : CForm) (value new : CValue) (marks : Marks) → IsScene home frame blocks
    → IsLvalue home (expr (ty form is_const) place node) → IsPlaceOf (expr (ty form is_const) place node) value → IsComplete home.program.types (ty form is_const) → IsResultForm form → IsStorable home.program (ty form false) new
    → Comes (IsStoredOf home.program (ty form false) blocks) (stored (setting_of home.program) frame blocks (ty form false) value new marks)
store_to_lvalue home frame blocks form is_const place node (names number) new marks scene is there complete result fits =
    store_comes home.program (ty form false) blocks new marks (place_in frame (names number)) (lvalue_access home form is_const place node scene.linked.types is complete result) scene.memory fits
    (place_comes home frame blocks (expr (ty form is_const) place node) (names number) scene is there (λ bits. bits))
store_to_lvalue home frame blocks form is_const place node (designates to) new marks scene is there complete result fits =
    store_comes home.program (ty form false) blocks new marks (place_in frame (designates to)) (lvalue_access home form is_const place node scene.linked.types is complete result) scene.memory fits
    (place_comes home frame blocks (expr (ty form is_const) place node) (designates to) scene is there (λ bits. bits))
store_to_lvalue home frame blocks form is_const place node (designates_bits at bit width) new marks scene is there complete result fits =
    let one = plain_field home.program.types form is_const width (field_of_place home (expr (ty form is_const) place node) at bit width scene.linked.types is there) in
    subst (λ found. Comes (IsStoredOf home.program (ty form false) blocks) (and_then (needed found) (stored_bits blocks at bit width marks new))) (sym one.kind_is)
    (bits_stored home.program (ty form false) blocks at bit width marks new one there.of_profile scene.memory fits)
store_to_lvalue home frame blocks form is_const place node (scalar value) new marks scene is there complete result fits = absurd there
store_to_lvalue home frame blocks form is_const place node (cells held from) new marks scene is there complete result fits = absurd there
store_to_lvalue home frame blocks form is_const place node missing new marks scene is there complete result fits = absurd there
