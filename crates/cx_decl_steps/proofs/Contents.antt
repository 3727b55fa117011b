-- What an initialiser changes, as it is done step by step.
use Rattle.std.proofs.Common.{◌≡◌, refl, sym, ap, ◌∙◌, ℕ, ◌&&◌, Bool, true, false, not, if◌then◌else◌, List, [], ◌∷◌, Option, None, Some, bytes_eq, Result, Ok, Err, OnOk}
use Rattle.cr_base.specs.declared.refusal.Place.{Place as TextPlace}
use Rattle.cx_contents.specs.Contents as contents
use Rattle.cx_contents.specs.Contents.{CContent, is_object_meant, redeclare_first, redeclared}
use Rattle.cx_core.specs.declared.program.Linkage.TheVariants.{Nothing}
use Rattle.cx_core.specs.Trees.{CTy, CPuts, no_puts}
use Rattle.cx_decl_steps.specs.Steps as steps
use Rattle.cx_decl_steps.specs.Views.{content_of}
use Rattle.cx_rules.specs.Declare.{CBegun, beside_thing, linked_thing, with_content}
use Rattle.cx_rules.specs.Pieces.{CFilled}
use Rattle.cx_rules.specs.Scope.{CDeclared, CScope, new_scope}
use Rattle.cx_rules.specs.UnitWalk as unit

-- a name that is no object of the unit
abbrev name_alone : List ℕ → CTy → CBegun
name_alone name type = record {
  name = name;
  type = type;
  linkage = Nothing;
  clashes = false;
  object = None;
  is_static = false;
  target = record { is_static = false; base = None };
  mention = None;
}

abbrev redeclared_in : List ℕ → CTy → List CDeclared → List CDeclared
redeclared_in name type declared = (with_content (name_alone name type) type no_puts (record (new_scope 0) { declared = declared })).declared

redeclared_is : (name : List ℕ) (type : CTy) (declared : List CDeclared) → redeclared_in name type declared ≡ redeclare_first name type declared
unfolding with_content
redeclared_is name type [] = refl
redeclared_is name type (one ∷ others) =
    ap (λ later. if bytes_eq one.name name && is_object_meant one.meant then redeclared name type one ∷ others else one ∷ later) (redeclared_is name type others)

content_is : (begun : CBegun) (type : CTy) (puts : CPuts) (scope : CScope) → with_content begun type puts scope ≡ contents.with_content (content_of begun) type puts scope
unfolding with_content
content_is begun type puts scope =
    let whole = beside_thing type (linked_thing begun.linkage begun.name scope.things) in
    ap (λ declared. contents.completed_mention begun.mention type
    (contents.completed_thing begun.name whole (linked_thing begun.linkage begun.name scope.things)
    (contents.with_stored begun.is_static type puts begun.object (record scope { declared = declared }))))
    (redeclared_is begun.name type scope.declared)

pub content_if : (has_init : Bool) (begun : CBegun) (filled : CFilled) (scope : CScope)
    → steps.with_content_if has_init (content_of begun) filled.type filled.puts scope ≡ unit.with_content_if has_init begun filled scope
content_if true begun filled scope = sym (content_is begun filled.type filled.puts scope)
content_if false begun filled scope = refl

-- what isn't static stores nothing before the program begins
stored_any : (object : Option ℕ) (type : CTy) (puts other : CPuts) (scope : CScope) → contents.with_stored false type puts object scope ≡ contents.with_stored false type other object scope
stored_any None type puts other scope = refl
stored_any (Some number) type puts other scope = refl

content_any : (one : CContent) (is_static : Bool) → is_static ≡ false → (type : CTy) (puts other : CPuts) (scope : CScope)
    → contents.with_content (record one { is_static = is_static }) type puts scope ≡ contents.with_content (record one { is_static = is_static }) type other scope
content_any one true e type puts other scope = absurd cc
content_any one false e type puts other scope =
    let whole = beside_thing type (linked_thing one.linkage one.name scope.things) in
    ap (λ stored. contents.completed_mention one.mention type (contents.completed_thing one.name whole (linked_thing one.linkage one.name scope.things) stored))
    (stored_any one.object type puts other (contents.with_redeclared one.name type scope))

pub content_anew : (has_init : Bool) (begun : CBegun) (filled : CFilled) (other : CPuts) (scope : CScope) → begun.is_static ≡ false
    → steps.with_content_if has_init (content_of begun) filled.type other scope ≡ unit.with_content_if has_init begun filled scope
content_anew true begun filled other scope e =
    content_any (content_of begun) begun.is_static e filled.type other filled.puts scope ∙ sym (content_is begun filled.type filled.puts scope)
content_anew false begun filled other scope e = refl

-- ---- what stands for the declaration

begun_with : (at : TextPlace) (has_init : Bool) (puts : CPuts) (object : Option ℕ)
    → steps.begins_with at (steps.puts_if has_init puts) object ≡ steps.begin_of at has_init puts object
begun_with at has_init puts None = refl
begun_with at has_init puts (Some number) = refl

pub meant_anew : (literals : ℕ) (scope : CScope) (at : TextPlace) (begun : CBegun) (has_init : Bool) (puts : CPuts)
    → (scope.in_function && not begun.is_static) ≡ true
    → steps.with_literals (steps.literals_from literals scope) (steps.begins_with at (steps.puts_if has_init puts) begun.object) ≡ steps.declared_meant literals scope at begun has_init puts
meant_anew literals scope at begun has_init puts e =
    rw e (ap (steps.with_literals (steps.literals_from literals scope)) (begun_with at has_init puts begun.object))

pub meant_once : (literals : ℕ) (scope : CScope) (at : TextPlace) (begun : CBegun) (has_init : Bool) (puts : CPuts)
    → (scope.in_function && not begun.is_static) ≡ false
    → record { stmts = []; objects = steps.literals_from literals scope } ≡ steps.declared_meant literals scope at begun has_init puts
meant_once literals scope at begun has_init puts e = rw e refl

pub not_static : (inside is_static : Bool) → (inside && not is_static) ≡ true → is_static ≡ false
not_static true true e = absurd cc
not_static true false e = refl
not_static false is_static e = absurd cc

pub on_any : {A E : Type 0} {P : Type 0} (result : Result A E) → P → OnOk result P
on_any (Ok value) held = held
on_any (Err why) held = tt
