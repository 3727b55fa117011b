-- The program of a unit is typed and linked: what its objects are.
use Rattle.std.proofs.Common.{◌≡◌, ℕ, ◌≤◌, Bool, true, false, cond, pos, List, [], ◌∷◌, Option, Some, None, option_map, refl, sym, ap, subst, ◌∙◌}
use Rattle.std.proofs.lemmas.Bool.{leb-true}
use Rattle.cr_base.specs.declared.refusal.Place.{Place}
use Rattle.straight_core.specs.Trees.{CObject, CPut}
use Rattle.cx_lex.specs.declared.token.Ty0.{Ty0}
use Rattle.cx_lex.specs.declared.token.Ty0.TheVariants as ty0
use Rattle.straight_tree.specs.Trees as tree
use Rattle.straight_tree.specs.Trees.{ExternalTree, InitialiserTree, InitDeclaratorTree, DeclaratorTree, DeclTree}
use Rattle.straight_decl.specs.CoreOf.{Scope, is_declared, place_in, put_of, puts_of, new_name, object_of, listed_object, core_object, core_objects, with_object, both, behind, is_int, is_int_constant}

-- what is put into an object of type `int`: nothing, or one constant
pub data ArePutsOf : List CPut → Type 0 where
  no_puts : ArePutsOf []
  one_put : (place : Place) (value : ℕ) → value ≤ 2147483647 → ArePutsOf (put_of place (pos value) ∷ [])

-- an object that was declared in a scope
pub record IsDeclaredIn (unit : ℕ) (scope : Scope) (one : CObject) : Type 0 where
  pub name : List ℕ
  pub puts : List CPut
  pub is : one ≡ object_of unit scope name puts
  pub new : is_declared name scope ≡ false
  pub stored : ArePutsOf puts

-- objects that were declared one behind another
abbrev pub AreDeclaredFrom : ℕ → Scope → List CObject → Type 0
AreDeclaredFrom unit scope [] = Unit {0}
AreDeclaredFrom unit scope (one ∷ others) = IsDeclaredIn unit scope one × AreDeclaredFrom unit (with_object scope one) others

-- ---- inversions

pub record Both {A B C : Type 0} (first : Option A) (second : Option B) (make : A → B → C) (made : C) : Type 0 where
  pub one : A
  pub other : B
  pub first_is : first ≡ Some one
  pub second_is : second ≡ Some other
  pub made_is : make one other ≡ made

pub both_some : {A B C : Type 0} (first : Option A) (second : Option B) (make : A → B → C) (made : C) → both first second make ≡ Some made → Both first second make made
both_some None second make made e = cc
both_some (Some one) None make made e = cc
both_some (Some one) (Some other) make made e = record { one = one; other = other; first_is = refl; second_is = refl; made_is = cc }

pub map_some : {A B : Type 0} (f : A → B) (first : Option A) (made : B) → option_map f first ≡ Some made → (one : A) × (first ≡ Some one) × (f one ≡ made)
map_some f None made e = cc
map_some f (Some one) made e = (one, refl, cc)

pub same : {A : Type 0} (a b : A) → Some a ≡ Some b → a ≡ b
same a b e = cc

pub cond_some : {A : Type 0} (test : Bool) (then : Option A) (made : A) → cond test then None ≡ Some made → (test ≡ true) × (then ≡ Some made)
cond_some true then made e = (refl, e)
cond_some false then made e = cc

pub cond_none : {A : Type 0} (test : Bool) (other : Option A) (made : A) → cond test None other ≡ Some made → (test ≡ false) × (other ≡ Some made)
cond_none true other made e = cc
cond_none false other made e = (refl, e)

pub int_constant_small : (value : ℕ) (type : Ty0) → is_int_constant value type ≡ true → value ≤ 2147483647
int_constant_small value ty0.Int e = leb-true value 2147483647 e
int_constant_small value ty0.Unsigned e = cc
int_constant_small value ty0.Long e = cc
int_constant_small value ty0.UnsignedLong e = cc
int_constant_small value ty0.LongLong e = cc
int_constant_small value ty0.UnsignedLongLong e = cc

puts_are : (unit : ℕ) (init : Option InitialiserTree) (puts : List CPut) → puts_of unit init ≡ Some puts → ArePutsOf puts
puts_are unit None puts e = subst ArePutsOf (same [] puts e) no_puts
puts_are unit (Some (tree.ExprInitialiser (tree.Number value type lines))) puts e =
    let found = cond_some (is_int_constant value type) (Some (put_of (place_in unit lines) (pos value) ∷ [])) puts e in
    subst ArePutsOf (same (put_of (place_in unit lines) (pos value) ∷ []) puts found.1) (one_put (place_in unit lines) value (int_constant_small value type found.0))
puts_are unit (Some (tree.ExprInitialiser (tree.Name name lines))) puts e = cc
puts_are unit (Some (tree.ExprInitialiser (tree.Paren inner lines))) puts e = cc
puts_are unit (Some (tree.ExprInitialiser (tree.Call of args lines))) puts e = cc
puts_are unit (Some (tree.ExprInitialiser (tree.Unary op on lines))) puts e = cc
puts_are unit (Some (tree.ExprInitialiser (tree.Binary left op right lines))) puts e = cc
puts_are unit (Some (tree.ExprInitialiser (tree.Assign left op right lines))) puts e = cc

name_is_new : (scope : Scope) (declarator : DeclaratorTree) (name : List ℕ) → new_name scope declarator ≡ Some name → is_declared name scope ≡ false
name_is_new scope tree.Missing name e = cc
name_is_new scope (tree.Function of list lines) name e = cc
name_is_new scope (tree.Identifier found lines) name e =
    let test = cond_none (is_declared found scope) (Some found) name e in
    ap (λ n. is_declared n scope) (sym (same found name test.1)) ∙ test.0

listed_is : (unit : ℕ) (scope : Scope) (list : List InitDeclaratorTree) (one : CObject) → listed_object unit scope list ≡ Some one → IsDeclaredIn unit scope one
listed_is unit scope [] one e = cc
listed_is unit scope (first ∷ second ∷ others) one e = cc
listed_is unit scope (first ∷ []) one e =
    let parts = both_some (new_name scope first.declarator) (puts_of unit first.init) (object_of unit scope) one e in
    record {
      name = parts.one;
      puts = parts.other;
      is = sym parts.made_is;
      new = name_is_new scope first.declarator parts.one parts.first_is;
      stored = puts_are unit first.init parts.other parts.second_is;
    }

object_is : (unit : ℕ) (scope : Scope) (part : ExternalTree) (one : CObject) → core_object unit scope part ≡ Some one → IsDeclaredIn unit scope one
object_is unit scope (tree.Declaration d) one e = listed_is unit scope d.list one (cond_some (is_int d.specs) (listed_object unit scope d.list) one e).1
object_is unit scope (tree.Definition specs declarator body lines) one e = cc

-- the objects that parts declare
pub objects_are : (unit : ℕ) (scope : Scope) (parts : List ExternalTree) (objects : List CObject) → core_objects unit scope parts ≡ Some objects → AreDeclaredFrom unit scope objects
objects_are unit scope [] objects e = subst (AreDeclaredFrom unit scope) (same [] objects e) tt
objects_are unit scope (part ∷ parts) objects e = by_object (core_object unit scope part) refl e (λ one more f. objects_are unit (with_object scope one) parts more f)
  where
    by_object : (found : Option CObject) → core_object unit scope part ≡ found → behind found (λ one. core_objects unit (with_object scope one) parts) ≡ Some objects →
        ((one : CObject) (more : List CObject) → core_objects unit (with_object scope one) parts ≡ Some more → AreDeclaredFrom unit (with_object scope one) more) → AreDeclaredFrom unit scope objects
    by_object None was f others = cc
    by_object (Some one) was f others =
        let more = map_some (λ rest. one ∷ rest) (core_objects unit (with_object scope one) parts) objects f in
        subst (AreDeclaredFrom unit scope) more.2 (object_is unit scope part one was, others one more.0 more.1)
