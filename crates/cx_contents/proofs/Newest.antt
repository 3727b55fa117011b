-- The newest declaration of an object gets another type.
use Rattle.std.proofs.Common.{◌≡◌, refl, sym, ap, ◌∙◌, subst, ℕ, ◌&&◌, ◌||◌, Bool, true, false, if◌then◌else◌, List, [], ◌∷◌, ◌++◌, length, map, reverse, Option, None, Some, slice_get, slice_set, bytes_eq, option_map}
use Rattle.std.proofs.lemmas.List.{append_assoc, length-map, length-reverse, map-set, reverse-append, reverse-reverse}
use Rattle.std.proofs.lemmas.Option.{slice_get-map}
use Rattle.std.specs.List.{list_any}
use Rattle.cx_contents.specs.Contents.{declares_object, is_object_meant, is_object_in, object_retyped, redeclared, redeclare_first}
use Rattle.cx_core.specs.Trees.{CTy}
use Rattle.cx_scope.proofs.Splits.{splits, there, set_there}
use Rattle.cx_scope.specs.Names.{newest, declares}
use Rattle.cx_scope.specs.Views.{view_declared, view_meant}
use Rattle.cx_scope.specs.declared.meant.Declared.{Declared}
use Rattle.cx_scope.specs.declared.meant.Meant.{Meant}
use Rattle.cx_rules.specs.Scope.{CMeant, an_object, a_function, a_type_name, an_enumerator, a_tag, CDeclared, is_ordinary}

pub older_count : {A B : Type 0} (view : A → B) (xs : List A) → length (reverse (map view xs)) ≡ length xs
older_count view xs = length-reverse (map view xs) ∙ length-map xs view

-- ---- what is declared anew

stays_head : (name : List ℕ) (type : CTy) (b any : Bool) (one : CDeclared) (here later more : List CDeclared) → (b || any) ≡ false → (any ≡ false → later ≡ more)
    → (if b then redeclared name type one ∷ here else one ∷ later) ≡ one ∷ more
stays_head name type true any one here later more e rest = absurd cc
stays_head name type false any one here later more e rest = ap (λ others. one ∷ others) (rest e)

found_head : (name : List ℕ) (type : CTy) (b : Bool) (one : CDeclared) (others later : List CDeclared) → b ≡ true
    → (if b then redeclared name type one ∷ others else one ∷ later) ≡ redeclared name type one ∷ others
found_head name type true one others later e = refl
found_head name type false one others later e = absurd cc

first_redeclared : (name : List ℕ) (type : CTy) (front back : List CDeclared) (one : CDeclared) → list_any (declares_object name) front ≡ false → declares_object name one ≡ true
    → redeclare_first name type (front ++ one ∷ back) ≡ front ++ redeclared name type one ∷ back
first_redeclared name type [] back one none passes = found_head name type (declares_object name one) one back (redeclare_first name type back) passes
first_redeclared name type (x ∷ front) back one none passes =
    stays_head name type (declares_object name x) (list_any (declares_object name) front) x (front ++ one ∷ back) (redeclare_first name type (front ++ one ∷ back))
    (front ++ redeclared name type one ∷ back) none (λ e. first_redeclared name type front back one e passes)

none_head : (name : List ℕ) (type : CTy) (b : Bool) (count : ℕ) (found : Option ℕ) (one : CDeclared) (others later : List CDeclared) → (if b then Some count else found) ≡ None
    → (found ≡ None → later ≡ others) → (if b then redeclared name type one ∷ others else one ∷ later) ≡ one ∷ others
none_head name type true count found one others later e rest = absurd cc
none_head name type false count found one others later e rest = ap (λ more. one ∷ more) (rest e)

pub none_redeclared : (name : List ℕ) (type : CTy) (xs : List CDeclared) → newest (declares_object name) xs ≡ None → redeclare_first name type xs ≡ xs
none_redeclared name type [] e = refl
none_redeclared name type (x ∷ xs) e =
    none_head name type (declares_object name x) (length xs) (newest (declares_object name) xs) x xs (redeclare_first name type xs) e
    (λ f. none_redeclared name type xs f)

both_left : (a b : Bool) → (a && b) ≡ true → a ≡ true
both_left true b e = refl
both_left false b e = absurd cc

named_object : (name own : List ℕ) (meant : CMeant) → (bytes_eq own name && is_object_meant meant) ≡ true → bytes_eq own name ≡ true
named_object name own meant e = both_left (bytes_eq own name) (is_object_meant meant) e

retyped_is : (name own : List ℕ) (type : CTy) (meant made : CMeant) → bytes_eq own name ≡ true → object_retyped type meant ≡ Some made
    → record { name = own; meant = made } ≡ redeclared name type (record { name = own; meant = meant })
retyped_is name own type (an_object number before is_register linkage) made same e =
    rw same (ap (λ one. record { name = own; meant = one }) (let is : made ≡ an_object number type is_register linkage = cc in is))
retyped_is name own type (a_function number before linkage) made same e = absurd cc
retyped_is name own type (a_type_name before) made same e = absurd cc
retyped_is name own type (an_enumerator value) made same e = absurd cc
retyped_is name own type (a_tag is_record is_open number) made same e = absurd cc

same_one : {A : Type 0} (one other : A) → Some one ≡ Some other → one ≡ other
same_one one other e = cc

pub redeclares : {A : Type 0} (view : A → CDeclared) (name : List ℕ) (type : CTy) (raw now : List A) (n : ℕ) (before made : A) (meant : CMeant)
    → newest (declares_object name) (reverse (map view raw)) ≡ Some n → slice_get raw n ≡ Some before → now ≡ slice_set raw n made
    → object_retyped type (view before).meant ≡ Some meant → view made ≡ record { name = (view before).name; meant = meant }
    → reverse (map view now) ≡ redeclare_first name type (reverse (map view raw))
redeclares view name type raw now n before made meant found get set retyped is =
    let s = splits (declares_object name) n (reverse (map view raw)) found in
    let one : s.one ≡ view before = same_one _ _ (sym (there (declares_object name) n (map view raw) s) ∙ slice_get-map view raw n ∙ ap (option_map view) get) in
    let new : view made ≡ redeclared name type s.one =
    is ∙ retyped_is name (view before).name type (view before).meant meant (named_object name (view before).name (view before).meant (subst (λ x. declares_object name x ≡ true) one s.passes)) retyped
    ∙ ap (redeclared name type) (sym one) in
    ap (λ xs. reverse (map view xs)) set ∙ ap reverse (map-set view raw n made)
    ∙ set_there (declares_object name) n (map view raw) s (view made)
    ∙ ap (λ x. s.front ++ x ∷ s.back) new
    ∙ sym (ap (redeclare_first name type) s.is ∙ first_redeclared name type s.front s.back s.one s.none s.passes)

-- ---- the newest of a name is an object, as a rule

and_true : (a : Bool) → (a && true) ≡ a
and_true true = refl
and_true false = refl

and_false : (a : Bool) → (a && false) ≡ false
and_false true = refl
and_false false = refl

not_object : (name own : List ℕ) (meant : CMeant) → declares true name (record { name = own; meant = meant }) ≡ false → (bytes_eq own name && is_object_meant meant) ≡ false
not_object name own (an_object number type is_register linkage) e = and_true (bytes_eq own name) ∙ e
not_object name own (a_function number type linkage) e = and_false (bytes_eq own name)
not_object name own (a_type_name type) e = and_false (bytes_eq own name)
not_object name own (an_enumerator value) e = and_false (bytes_eq own name)
not_object name own (a_tag is_record is_open number) e = and_false (bytes_eq own name)

or_left : (a b : Bool) → (a || b) ≡ false → (a ≡ false) × (b ≡ false)
or_left true b e = absurd cc
or_left false b e = (refl, e)

or_both : (a b : Bool) → a ≡ false → b ≡ false → (a || b) ≡ false
or_both true b e f = absurd cc
or_both false b e f = f

none_objects : (name : List ℕ) (xs : List CDeclared) → list_any (declares true name) xs ≡ false → list_any (declares_object name) xs ≡ false
none_objects name [] e = refl
none_objects name (x ∷ xs) e =
    let h = or_left (declares true name x) (list_any (declares true name) xs) e in
    or_both (declares_object name x) (list_any (declares_object name) xs) (not_object name x.name x.meant h.0) (none_objects name xs h.1)

skip_head : (b any : Bool) (count : ℕ) (place other : Option ℕ) → (b || any) ≡ false → (any ≡ false → place ≡ other) → (if b then Some count else place) ≡ other
skip_head true any count place other e rest = absurd cc
skip_head false any count place other e rest = rest e

take_head : (b : Bool) (count : ℕ) (place : Option ℕ) → b ≡ true → (if b then Some count else place) ≡ Some count
take_head true count place e = refl
take_head false count place e = absurd cc

newest_behind : (test : CDeclared → Bool) (front back : List CDeclared) (one : CDeclared) → list_any test front ≡ false → test one ≡ true → newest test (front ++ one ∷ back) ≡ Some (length back)
newest_behind test [] back one none passes = take_head (test one) (length back) (newest test back) passes
newest_behind test (x ∷ front) back one none passes =
    skip_head (test x) (list_any test front) (length (front ++ one ∷ back)) (newest test (front ++ one ∷ back)) (Some (length back)) none
    (λ e. newest_behind test front back one e passes)

none_found : (test : CDeclared → Bool) (xs : List CDeclared) → list_any test xs ≡ false → newest test xs ≡ None
none_found test [] e = refl
none_found test (x ∷ xs) e = skip_head (test x) (list_any test xs) (length xs) (newest test xs) None e (λ f. none_found test xs f)

none_head_any : (b : Bool) (count : ℕ) (place : Option ℕ) (any : Bool) → (if b then Some count else place) ≡ None → (place ≡ None → any ≡ false) → (b || any) ≡ false
none_head_any true count place any e rest = absurd cc
none_head_any false count place any e rest = rest e

none_any : (test : CDeclared → Bool) (xs : List CDeclared) → newest test xs ≡ None → list_any test xs ≡ false
none_any test [] e = refl
none_any test (x ∷ xs) e = none_head_any (test x) (length xs) (newest test xs) (list_any test xs) e (λ f. none_any test xs f)

pub no_object : (name : List ℕ) (xs : List CDeclared) → newest (declares true name) xs ≡ None → newest (declares_object name) xs ≡ None
no_object name xs e = none_found (declares_object name) xs (none_objects name xs (none_any (declares true name) xs e))

object_passes : (name own : List ℕ) (meant : CMeant) → declares true name (record { name = own; meant = meant }) ≡ true → is_object_meant meant ≡ true → (bytes_eq own name && is_object_meant meant) ≡ true
object_passes name own (an_object number type is_register linkage) e is = and_true (bytes_eq own name) ∙ e
object_passes name own (a_function number type linkage) e is = absurd cc
object_passes name own (a_type_name type) e is = absurd cc
object_passes name own (an_enumerator value) e is = absurd cc
object_passes name own (a_tag is_record is_open number) e is = absurd cc

-- where it is an object, it is the newest of the objects of the name
pub object_newest : (name : List ℕ) (list : List Declared) (n : ℕ) → newest (declares true name) (reverse (map view_declared list)) ≡ Some n
    → is_object_in (option_map view_declared (slice_get list n)) ≡ true
    → newest (declares_object name) (reverse (map view_declared list)) ≡ Some n
object_newest name list n e is =
    let s = splits (declares true name) n (reverse (map view_declared list)) e in
    let object : is_object_meant s.one.meant ≡ true = subst (λ found. is_object_in found ≡ true) (sym (slice_get-map view_declared list n) ∙ there (declares true name) n (map view_declared list) s) is in
    ap (newest (declares_object name)) s.is
    ∙ newest_behind (declares_object name) s.front s.back s.one (none_objects name s.front s.none) (object_passes name s.one.name s.one.meant s.passes object)
    ∙ ap Some s.older

retyped_ordinary : (type : CTy) (meant made : CMeant) → object_retyped type meant ≡ Some made → is_ordinary meant ≡ is_ordinary made
retyped_ordinary type (an_object number before is_register linkage) made e = ap is_ordinary (let h : an_object number type is_register linkage ≡ made = cc in h)
retyped_ordinary type (a_function number before linkage) made e = absurd cc
retyped_ordinary type (a_type_name before) made e = absurd cc
retyped_ordinary type (an_enumerator value) made e = absurd cc
retyped_ordinary type (a_tag is_record is_open number) made e = absurd cc

-- it stays in its name space
pub stays_ordinary : (type : CTy) (meant : CMeant) (made : Option Meant) (one : Meant) → option_map view_meant made ≡ object_retyped type meant → made ≡ Some one
    → is_ordinary meant ≡ is_ordinary (view_meant one)
stays_ordinary type meant made one retyped is = retyped_ordinary type meant (view_meant one) (sym retyped ∙ ap (option_map view_meant) is)
