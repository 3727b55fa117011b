-- What a call of the crate owes a call of C (ISO C99, 6.5.2.2 and 6.9.1; the Rust Reference, "Call expressions"): arguments that stand for C's, and behind it
-- worlds that stand for each other, with a value that stands for C's. A structure or union is passed by a pointer to a place that holds it, and is given back
-- in a place to which a first parameter points.
use Rattle.std.specs.Prelude.{◌≡◌, ℕ, ◌+◌, ◌<◌, ◌≤◌, Bool, false, ◌==◌, List, [], ◌∷◌, length, Option, Some, None, option_map}
use Rattle.cr_base.specs.declared.layout.Laid.{Laid}
use Rattle.cr_base.specs.declared.scalar.Scalar.{Scalar}
use Rattle.cr_runs.specs.Owes.{Owes}
use Rattle.cr_world.specs.World.{World, blocks_of, events_of}
use Rattle.cx_core.specs.Trees.{CTy, CTyForm, void, basic, enum_type, pointer, array, record_type, function, form_of_type, CFun}
use Rattle.cx_mean.specs.Operands.{CValue, scalar, cells, names, designates, designates_bits, missing}
use Rattle.cx_mean.specs.Settings.{CSetting, extent_in}
use Rattle.cx_typed_runs.specs.States.{AreForParams}
use Rattle.lift_stands.specs.Keeps.{KeepsOthers}
use Rattle.lift_stands.specs.Stands.{Images, IsNoImage, ValueBelow, PlaceHolds}
use Rattle.lift_stands.specs.Worlds.{WorldsStand}
use Rattle.lift_stands_values.specs.Given.{align_or}
use Rattle.mem_bytes.specs.Coding.{IsValueOf}
use Rattle.mem_bytes.specs.Memory.{Block, Blocks, live_block, size_of}
use Rattle.mem_bytes.specs.declared.value.Ptr.{Ptr}
use Rattle.mem_bytes.specs.declared.value.Value.{Value}
use Rattle.mem_bytes.specs.declared.value.Value.TheVariants.{Object}
use Rattle.rs_mean.specs.Scalars.{scalar_of}
use Rattle.rs_mean.specs.Values.{Typed}
use Rattle.rs_text.specs.Tree.{Ty, FunctionTree}
use Rattle.lift_calls.specs.Programs.{Setting, setting_in, c_calls, crate_bodies, IsWritten, ProgramAgrees, IsTypedScope}

-- ---- results

-- the layout of the structure or union that a function of a type gives: none where it gives none
abbrev record_laid : CSetting → CTy → CTyForm → Option Laid
record_laid setting type (record_type number) = extent_in setting type
record_laid setting type void = None
record_laid setting type (basic which) = None
record_laid setting type (enum_type number) = None
record_laid setting type (pointer to) = None
record_laid setting type (array element length) = None
record_laid setting type (function result params variadic) = None

abbrev given_laid : CSetting → CTyForm → Option Laid
given_laid setting (function result params variadic) = record_laid setting result (form_of_type result)
given_laid setting form = None

abbrev pub result_laid : Setting → CFun → Option Laid
result_laid s one = given_laid (setting_in s) (form_of_type one.type)

-- a place for it, of which C knows nothing
pub record ResultPlace (images : Images) (others : Blocks) (laid : Laid) (at : Ptr) : Type 0 where
  pub begins : at.offset ≡ 0
  pub block : Block
  pub live : live_block others at.block ≡ Some block
  pub size : size_of block ≡ laid.size
  pub align : laid.align ≤ block.align
  pub aligned : 0 < block.align
  pub no_image : IsNoImage images at.block

-- the blocks that a call may write beside images of what lives in C: that of the place of its result
abbrev pub is_place : Option Ptr → ℕ → Bool
is_place None number = false
is_place (Some at) number = at.block == number

-- ---- arguments

-- what is given stands for a value
abbrev pub IsHanded : Images → Blocks → CValue → Value → Type 0
IsHanded images others (scalar value) given = ValueBelow images value given
IsHanded images others (cells list from) given = (align : ℕ) × PlaceHolds images others align given list
IsHanded images others (names number) given = ⊥
IsHanded images others (designates value) given = ⊥
IsHanded images others (designates_bits at bit width) given = ⊥
IsHanded images others missing given = ⊥

abbrev pub AreHanded : Images → Blocks → List CValue → List Typed → Type 0
AreHanded images others [] [] = Unit {0}
AreHanded images others (value ∷ values) (given ∷ rest) = IsHanded images others value given.value × AreHanded images others values rest
AreHanded images others [] (given ∷ rest) = ⊥
AreHanded images others (value ∷ values) [] = ⊥

-- the place of the result is given first, where there is one, and only there
abbrev pub ResultHanded : Images → Blocks → Option Laid → Option Ptr → (given rest : List Typed) → Type 0
ResultHanded images others None None given rest = given ≡ rest
ResultHanded images others (Some laid) (Some at) given rest =
    (first : Typed) × (given ≡ first ∷ rest) × (first.value ≡ Object at) × ResultPlace images others laid at
ResultHanded images others None (Some at) given rest = ⊥
ResultHanded images others (Some laid) None given rest = ⊥

-- all that is given: nothing is said of types, which the signature of the crate's function tells
pub record Handed (s : Setting) (images : Images) (world : World) (place : Option Ptr) (one : CFun) (args : List CValue) (given : List Typed) : Type 0 where
  pub rest : List Typed
  pub result : ResultHanded images (blocks_of world) (result_laid s one) place given rest
  pub arguments : AreHanded images (blocks_of world) args rest

-- ---- what a call comes to

abbrev pub type_in : Option Typed → Option Ty
type_in given = option_map (λ one. one.ty) given

-- what the crate has for the value that a function gives back: that is in its place, if it has one, and nothing is said where C has no value (6.9.1p12)
abbrev pub GivesBack : Images → Blocks → (align : ℕ) → Option Ptr → CValue → Option Typed → Type 0
GivesBack images others align place missing given = Unit {0}
GivesBack images others align None (scalar value) (Some given) = ValueBelow images value given.value
GivesBack images others align (Some at) (cells list from) given = PlaceHolds images others align (Object at) list
GivesBack images others align place value given = ⊥

-- a value of the crate is one of the scalar of its type
abbrev pub IsOfItsType : Option Typed → Type 0
IsOfItsType None = Unit {0}
IsOfItsType (Some one) = (kind : Scalar) → scalar_of one.ty ≡ Some kind → IsValueOf kind one.value

-- a call of the crate has come to where that of C has
pub record CallMeets (images : Images) (place : Option Ptr) (align : ℕ) (result : Option Ty) (c_before before : World) (value : CValue) (c_world : World)
    (given : Option Typed) (world : World) : Type 0 where
  pub later : Images
  pub stays : KeepsOthers (length (blocks_of before)) (is_place place) images later c_before.held c_world.held before.held world.held
  pub worlds : WorldsStand later c_world world
  -- it has the type that the function gives, and is a value of this type, also where C's has no value
  pub typed : type_in given ≡ result
  pub of_type : IsOfItsType given
  pub gives : GivesBack later (blocks_of world) align place value given

-- a call of the crate that is about to run beside one of C
pub record CallStands (s : Setting) (images : Images) (place : Option Ptr) (one : CFun) (tree : FunctionTree) (args : List CValue) (given : List Typed)
    (c_world world : World) : Type 0 where
  pub written : IsWritten s one tree
  pub program : ProgramAgrees s images
  pub worlds : WorldsStand images c_world world
  pub handed : Handed s images world place one args given
  -- in C: there is an argument for each parameter, of its type
  pub taken : AreForParams s.program one.params args
  pub scope : IsTypedScope s.program s.statics c_world

-- below a bound of units and one of steps each call owes that
abbrev pub CallsOwe : Setting → (units steps : ℕ) → Type 0
CallsOwe s units steps =
    (images : Images) (place : Option Ptr) (one : CFun) (tree : FunctionTree) (args : List CValue) (given : List Typed) (c_world world : World) →
    CallStands s images place one tree args given c_world world →
    Owes events_of events_of (CallMeets images place (align_or (result_laid s one)) tree.result c_world world) units steps
    (c_calls s one args c_world) (crate_bodies s tree given world)

-- what is known of called functions where this much is owed: all calls, below bounds of which one is smaller, and none is larger
abbrev pub Promise : Setting → (units steps : ℕ) → Type 0
Promise s units steps = (fewer less : ℕ) → fewer ≤ units → less ≤ steps → fewer + less < units + steps → CallsOwe s fewer less
