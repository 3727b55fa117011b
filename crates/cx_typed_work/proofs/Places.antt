-- Where the places of typed lvalues lead.
use Rattle.std.proofs.Common.{◌≡◌, ◌⊎◌, ⊎_elim, inl, inr, ℕ, zero, suc, ◌<◌, ◌==◌, Bool, true, false, cond as chosen_by, List, [], ◌∷◌, length, Option, Some, None, IfSome, IsSome, Result, Ok, Err, refl, sym, ap, subst, ◌∙◌, arith}
use Rattle.std.proofs.lemmas.Bool.{eqb-true}
use Rattle.std.specs.List.{Contains, find}
use Rattle.cx_core.specs.declared.program.Linkage.{Linkage}
use Rattle.cx_core.specs.declared.program.Linkage.TheVariants.{External, Internal, Nothing}
use Rattle.cx_core.specs.Trees.{CTy, CExpr, expr, CForm, whole, null, object, code, load, deref, member, address, convert, unary, binary, and, or, cond, assign, assign_by, step, call, call_by, comma, literal, CPuts, CObject, CMention}
use Rattle.cx_core.specs.Typing.{CHome, object_with, IsThere, IsObjectOf, IsNamed, IsLiteralOf, IsLvalue, is_bit_field}
use Rattle.cx_mean.specs.Operands.{CValue, scalar, cells, names, designates, designates_bits, missing, Frame, slot_of, place_in}
use Rattle.mem_bytes.specs.declared.value.Ptr.{Ptr}
use Rattle.mem_bytes.specs.declared.value.Value.{Value}
use Rattle.mem_bytes.specs.Memory.{Blocks}
use Rattle.cx_typed_values.specs.Outcomes.{Comes}
use Rattle.cx_typed_work.specs.Operands.{IsObjectPointer, Names, IsPlaceOf}
use Rattle.cx_typed_work.specs.Scenes.{IsAlive, IsScene}

-- ---- objects by their numbers

more_contained : (objects : List CObject) (first one : CObject) → Contains objects one → Contains (first ∷ objects) one
more_contained objects first one held = let h : held.0 < length objects = held.1 in (suc held.0, omega (arith, h), held.2)

-- an object that is found by its number is one of the list, and has that number
record IsFound (objects : List CObject) (number : ℕ) (one : CObject) : Type 0 where
  among : Contains objects one
  number_is : one.object ≡ number

found_first : (first : CObject) (others : List CObject) (number : ℕ) (one : CObject) (same : Bool) → (first.object == number) ≡ same
    → (object_with number others ≡ Some one → IsFound others number one)
    → chosen_by same (Some first) (object_with number others) ≡ Some one → IsFound (first ∷ others) number one
found_first first others number one true same rest found =
    let is : first ≡ one = cc (found) in
    record { among = (zero, omega arith, is); number_is = ap (λ o. o.object) (sym is) ∙ eqb-true first.object number same }
found_first first others number one false same rest found =
    let behind = rest found in
    record { among = more_contained others first one behind.among; number_is = behind.number_is }

found_with : (objects : List CObject) (number : ℕ) (one : CObject) → object_with number objects ≡ Some one → IsFound objects number one
found_with [] number one e = cc
found_with (first ∷ others) number one e = found_first first others number one (first.object == number) refl (found_with others number one) e

-- ---- objects that live

-- what an lvalue names lives
pub record IsNamedAlive (home : CHome) (frame : Frame) (blocks : Blocks) (number : ℕ) : Type 0 where
  pub one : CObject
  pub one_is : object_with number home.program.objects ≡ Some one
  pub alive : IsAlive home.program frame blocks one
  pub number_is : one.object ≡ number

in_scope : (home : CHome) (frame : Frame) (blocks : Blocks) (number : ℕ) (one : CObject) → IsScene home frame blocks → object_with number home.program.objects ≡ Some one
    → Contains home.scope one.object → IsNamedAlive home frame blocks number
in_scope home frame blocks number one scene e held =
    let found = found_with home.program.objects number one e in
    let there = scene.alive.in_scope one.object held in
    record {
      one = one;
      one_is = e;
      alive = subst (λ o. IfSome o (IsAlive home.program frame blocks)) (ap (λ n. object_with n home.program.objects) found.number_is ∙ e) there;
      number_is = found.number_is;
    }

static : (home : CHome) (frame : Frame) (blocks : Blocks) (number : ℕ) (one : CObject) → IsScene home frame blocks → object_with number home.program.objects ≡ Some one
    → IsSome one.puts → IsNamedAlive home frame blocks number
static home frame blocks number one scene e some =
    let found = found_with home.program.objects number one e in
    record { one = one; one_is = e; alive = scene.alive.statics one found.among some; number_is = found.number_is }

-- an object of these parts
abbrev object_of : (id unit : ℕ) → Option (List ℕ) → Bool → CTy → Linkage → Option CPuts → CObject
object_of id unit name is_text type linkage puts =
    record { object = id; unit = unit; name = name; is_text = is_text; type = type; linkage = linkage; puts = puts }

-- nothing is only declared where all units are there
not_used : (home : CHome) (type : CTy) (mentions : Option (List CMention)) (id unit : ℕ) (name : Option (List ℕ)) (is_text : Bool) (own : CTy)
    → mentions ≡ None → IsThere (record home { mentions = mentions }) type (object_of id unit name is_text own External None) → ⊥
not_used home type None id unit None is_text own none there = there
not_used home type None id unit (Some name) is_text own none there = there
not_used home type (Some mentions) id unit name is_text own none there = cc

not_static : (home : CHome) (type : CTy) (mentions : Option (List CMention)) (id unit : ℕ) (name : Option (List ℕ)) (is_text : Bool) (own : CTy)
    → mentions ≡ None → IsThere (record home { mentions = mentions }) type (object_of id unit name is_text own Internal None) → ⊥
not_static home type None id unit None is_text own none there = there
not_static home type None id unit (Some name) is_text own none there = there
not_static home type (Some mentions) id unit name is_text own none there = cc

there_by : (home : CHome) (frame : Frame) (blocks : Blocks) (number : ℕ) (type : CTy) (id unit : ℕ) (name : Option (List ℕ)) (is_text : Bool) (own : CTy) (linkage : Linkage) (puts : Option CPuts)
    → IsScene home frame blocks → object_with number home.program.objects ≡ Some (object_of id unit name is_text own linkage puts)
    → IsThere home type (object_of id unit name is_text own linkage puts) → IsNamedAlive home frame blocks number
there_by home frame blocks number type id unit name is_text own linkage (Some puts) scene e there = static home frame blocks number _ scene e refl
there_by home frame blocks number type id unit name is_text own Nothing None scene e there = in_scope home frame blocks number _ scene e there
there_by home frame blocks number type id unit name is_text own External None scene e there =
    absurd (not_used home type home.mentions id unit name is_text own scene.whole there)
there_by home frame blocks number type id unit name is_text own Internal None scene e there =
    absurd (not_static home type home.mentions id unit name is_text own scene.whole there)

-- an object that is there lives
there_alive : (home : CHome) (frame : Frame) (blocks : Blocks) (number : ℕ) (type : CTy) (one : CObject)
    → IsScene home frame blocks → object_with number home.program.objects ≡ Some one → IsThere home type one → IsNamedAlive home frame blocks number
there_alive home frame blocks number type one scene e there =
    there_by home frame blocks number type one.object one.unit one.name one.is_text one.type one.linkage one.puts scene e there

named_alive : (home : CHome) (frame : Frame) (blocks : Blocks) (number : ℕ) (type : CTy) (found : Option CObject) → IsScene home frame blocks → object_with number home.program.objects ≡ found
    → IsSome found → IfSome found (IsObjectOf home type) → IsNamedAlive home frame blocks number
named_alive home frame blocks number type None scene e some is = cc
named_alive home frame blocks number type (Some one) scene e some is = there_alive home frame blocks number type one scene e is.there

literal_alive : (home : CHome) (frame : Frame) (blocks : Blocks) (number : ℕ) (type : CTy) (found : Option CObject) → IsScene home frame blocks → object_with number home.program.objects ≡ found
    → IsSome found → IfSome found (IsLiteralOf home type) → IsNamedAlive home frame blocks number
literal_alive home frame blocks number type None scene e some is = cc
literal_alive home frame blocks number type (Some one) scene e some is = in_scope home frame blocks number one scene e is.there

-- the object that an lvalue names lives
pub names_alive : (home : CHome) (frame : Frame) (blocks : Blocks) (node : CExpr) (number : ℕ) → IsScene home frame blocks → IsLvalue home node → Names node number → IsNamedAlive home frame blocks number
names_alive home frame blocks (expr type place (object own)) number scene is named =
    subst (IsNamedAlive home frame blocks) named (named_alive home frame blocks own type (object_with own home.program.objects) scene refl is.2.0 is.2.1)
names_alive home frame blocks (expr type place (literal own puts)) number scene is named =
    subst (IsNamedAlive home frame blocks) named (literal_alive home frame blocks own type (object_with own home.program.objects) scene refl is.2.0.0 is.2.0.1)
names_alive home frame blocks (expr type place (whole value)) number scene is named = absurd named
names_alive home frame blocks (expr type place null) number scene is named = absurd named
names_alive home frame blocks (expr type place (code function)) number scene is named = absurd named
names_alive home frame blocks (expr type place (load from)) number scene is named = absurd named
names_alive home frame blocks (expr type place (deref from)) number scene is named = absurd named
names_alive home frame blocks (expr type place (member of spot)) number scene is named = absurd named
names_alive home frame blocks (expr type place (address of)) number scene is named = absurd named
names_alive home frame blocks (expr type place (convert value)) number scene is named = absurd named
names_alive home frame blocks (expr type place (unary op value)) number scene is named = absurd named
names_alive home frame blocks (expr type place (binary op left right)) number scene is named = absurd named
names_alive home frame blocks (expr type place (and left right)) number scene is named = absurd named
names_alive home frame blocks (expr type place (or left right)) number scene is named = absurd named
names_alive home frame blocks (expr type place (cond test first second)) number scene is named = absurd named
names_alive home frame blocks (expr type place (assign target value)) number scene is named = absurd named
names_alive home frame blocks (expr type place (assign_by op computes target value)) number scene is named = absurd named
names_alive home frame blocks (expr type place (step up post on)) number scene is named = absurd named
names_alive home frame blocks (expr type place (call callee args)) number scene is named = absurd named
names_alive home frame blocks (expr type place (call_by callee args)) number scene is named = absurd named
names_alive home frame blocks (expr type place (comma first second)) number scene is named = absurd named
