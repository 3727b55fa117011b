-- Functions and static objects have numbers, by which they are found again.
use Rattle.std.proofs.Common.{arith, ◌≡◌, ◌<◌, ℕ, suc, ◌+◌, Bool, true, false, ◌&&◌, if◌then◌else◌, List, [], ◌∷◌, length, Some, slice_get, refl, sym, ap, subst, ◌∙◌, inl, inr}
use Rattle.std.proofs.lemmas.Bool.{and_from, and_parts}
use Rattle.std.proofs.lemmas.List.Elements.{All-contains}
use Rattle.std.specs.List.{flat_map}
use Rattle.std.specs.Str.{bytes_eq}
use Rattle.cx_core.specs.Trees.{CFun, CObject, CPuts, CProgram}
use Rattle.cx_core.specs.Typing.{object_with}
use Rattle.rs_mean.specs.Lookups.{OwnFunction, OwnStatic, callee_at, callee_among, functions_of, is_own, number_from, own, own_functions_in, static_from, statics_in, statics_of}
use Rattle.rs_text.specs.Tree.{FunctionItem, ItemTree, ModuleTree, StaticItem}
use Rattle.whole_items.specs.Items.{WrittenBodies, function_tree, initialiser_tree, module_tree}
use Rattle.whole_means.proofs.Callees.{function_number_same, one_key, function_among, same_function}
use Rattle.whole_means.proofs.Items.{Stands, function_item_there, item_stands, static_item_there, static_tree}
use Rattle.whole_means.proofs.Items.Stands.{is_record, is_static, is_extern, is_function, is_initialiser}
use Rattle.whole_means.proofs.Keys.{key_self, no_initialiser, number_same}
use Rattle.whole_means.proofs.Lists.{Among, among_contains, among_flat, among_flat_in, texts_equal, texts_same}
use Rattle.whole_means.proofs.Modules.{items_found, modules_apart, modules_by, there_by, unit_of}
use Rattle.whole_means.proofs.Named.{HasName}
use Rattle.whole_means.proofs.Things.{function_named, object_named, object_there}
use Rattle.whole_means.specs.Written.{IsNamed}
use Rattle.whole_names.specs.Keys.{a_function, an_object, same_key}
use Rattle.whole_names.specs.Kept.{NamedProgram, module_of, name_in}
use Rattle.std.specs.Prelude.{IsSome, is_some}

-- ---- the first of its name

pub record HasNumber (list : List OwnFunction) (m x : List ℕ) (one : OwnFunction) (from : ℕ) : Type 0 where
  pub place : ℕ
  pub number_is : number_from from m x list ≡ Some (from + place)
  pub at_place : slice_get list place ≡ Some one

pub first_own : (list : List OwnFunction) (m x : List ℕ) (one : OwnFunction) (from : ℕ) → Among list one → is_own m x one ≡ true →
    ((other : OwnFunction) → Among list other → is_own m x other ≡ true → other ≡ one) → HasNumber list m x one from
first_own [] m x one from there is only = absurd there
first_own (first ∷ list) m x one from there is only =
    by_test (is_own m x first) refl there (λ rest. first_own list m x one (from + 1) rest is (λ other among named. only other (inr among) named))
  where
    by_test : (t : Bool) → is_own m x first ≡ t → Among (first ∷ list) one → (Among list one → HasNumber list m x one (from + 1)) → HasNumber (first ∷ list) m x one from
    by_test true e there more = record {
      place = 0;
      number_is = ap (λ t. if t then Some from else number_from (from + 1) m x list) e ∙ ap Some (omega arith);
      at_place = ap Some (only first (inl refl) e);
    }
    by_test false e (inl same) more = absurd (let h : false ≡ true = sym e ∙ ap (is_own m x) same ∙ is in cc)
    by_test false e (inr rest) more =
        let later = more rest in
        let place = later.place in
        record {
          place = suc later.place;
          number_is = ap (λ t. if t then Some from else number_from (from + 1) m x list) e ∙ later.number_is ∙ ap Some (omega arith);
          at_place = later.at_place;
        }

abbrev is_static_named : List ℕ → List ℕ → OwnStatic → Bool
is_static_named m x one = bytes_eq one.home m && bytes_eq one.object.name x

pub record HasBlock (list : List OwnStatic) (m x : List ℕ) (one : OwnStatic) (from : ℕ) : Type 0 where
  pub place : ℕ
  pub home_is : static_from from m x list ≡ Some (record { block = from + place; ty = one.object.ty })
  pub at_place : slice_get list place ≡ Some one

pub first_static : (list : List OwnStatic) (m x : List ℕ) (one : OwnStatic) (from : ℕ) → Among list one → is_static_named m x one ≡ true →
    ((other : OwnStatic) → Among list other → is_static_named m x other ≡ true → other ≡ one) → HasBlock list m x one from
first_static [] m x one from there is only = absurd there
first_static (first ∷ list) m x one from there is only =
    by_test (is_static_named m x first) refl there (λ rest. first_static list m x one (from + 1) rest is (λ other among named. only other (inr among) named))
  where
    by_test : (t : Bool) → is_static_named m x first ≡ t → Among (first ∷ list) one → (Among list one → HasBlock list m x one (from + 1)) → HasBlock (first ∷ list) m x one from
    by_test true e there more = record {
      place = 0;
      home_is =
          ap (λ t. if t then Some (record { block = from; ty = first.object.ty }) else static_from (from + 1) m x list) e
          ∙ ap (λ (n : ℕ). Some (record { block = n; ty = first.object.ty })) (omega arith)
          ∙ ap (λ (o : OwnStatic). Some (record { block = from + 0; ty = o.object.ty })) (only first (inl refl) e);
      at_place = ap Some (only first (inl refl) e);
    }
    by_test false e (inl same) more = absurd (let h : false ≡ true = sym e ∙ ap (is_static_named m x) same ∙ is in cc)
    by_test false e (inr rest) more =
        let later = more rest in
        let place = later.place in
        record {
          place = suc later.place;
          home_is =
              ap (λ t. if t then Some (record { block = from; ty = first.object.ty }) else static_from (from + 1) m x list) e ∙ later.home_is
              ∙ ap (λ (n : ℕ). Some (record { block = n; ty = one.object.ty })) (omega arith);
          at_place = later.at_place;
        }

-- ---- those of the crate

module _ (whole : NamedProgram) (is : IsNamed whole) (bodies : WrittenBodies) where
  abbrev program : CProgram
  program = whole.program

  abbrev count : ℕ
  count = length whole.module_names

  abbrev modules : List ModuleTree
  modules = modules_by (module_tree whole bodies) 0 count

  pub function_unit : (f : CFun) → Among program.functions f → f.unit < count
  function_unit f there = All-contains (λ (one : CFun). one.unit < count) program.functions f is.functions_here (among_contains program.functions f there)

  pub object_unit : (o : CObject) → Among program.objects o → o.unit < count
  object_unit o there = All-contains (λ (one : CObject). one.unit < count) program.objects o is.objects_here (among_contains program.objects o there)

  -- ---- functions

  abbrev pub own_of : CFun → OwnFunction
  own_of f = record { home = module_of whole f.unit; fun = function_tree whole f (bodies.of_function f) }

  abbrev pub initialiser_of : ℕ → OwnFunction
  initialiser_of unit = record { home = module_of whole unit; fun = initialiser_tree (bodies.initialiser unit) }

  pub data OwnIs (one : OwnFunction) : Type 0 where
    of_function : (f : CFun) → Among program.functions f → one ≡ own_of f → OwnIs one
    of_initialiser : (unit : ℕ) → unit < count → one ≡ initialiser_of unit → OwnIs one

  own_in : (unit : ℕ) (item : ItemTree) (one : OwnFunction) → unit < count → Stands whole bodies unit item → Among (own_functions_in (module_of whole unit) item) one → OwnIs one
  own_in unit item one low (is_record number it row done found laid same) there = absurd (subst (λ (i : ItemTree). Among (own_functions_in (module_of whole unit) i) one) same there)
  own_in unit item one low (is_static it puts among here found same) there = absurd (subst (λ (i : ItemTree). Among (own_functions_in (module_of whole unit) i) one) same there)
  own_in unit item one low (is_extern same) there = absurd (subst (λ (i : ItemTree). Among (own_functions_in (module_of whole unit) i) one) same there)
  own_in unit item one low (is_function f among here same) there = by_place (subst (λ (i : ItemTree). Among (own_functions_in (module_of whole unit) i) one) same there)
    where
      by_place : Among (record { home = module_of whole unit; fun = function_tree whole f (bodies.of_function f) } ∷ []) one → OwnIs one
      by_place (inl is_it) = of_function f among (sym is_it ∙ ap (λ n. record { home = module_of whole n; fun = function_tree whole f (bodies.of_function f) }) (sym here))
      by_place (inr none) = absurd none
  own_in unit item one low (is_initialiser same) there = by_place (subst (λ (i : ItemTree). Among (own_functions_in (module_of whole unit) i) one) same there)
    where
      by_place : Among (initialiser_of unit ∷ []) one → OwnIs one
      by_place (inl is_it) = of_initialiser unit low (sym is_it)
      by_place (inr none) = absurd none

  pub own_is : (one : OwnFunction) → Among (functions_of modules) one → OwnIs one
  own_is one there =
      let in_module = among_flat (λ (m : ModuleTree). flat_map (own_functions_in m.name) m.items) modules one there in
      let of = unit_of (module_tree whole bodies) 0 count in_module.from in_module.there in
      let high = of.high in
      let made : Among (flat_map (own_functions_in (module_of whole of.unit)) (module_tree whole bodies of.unit).items) one =
      subst (λ (m : ModuleTree). Among (flat_map (own_functions_in m.name) m.items) one) (sym of.is) in_module.made in
      let in_item = among_flat (own_functions_in (module_of whole of.unit)) (module_tree whole bodies of.unit).items one made in
      own_in of.unit in_item.from one (omega (arith, high)) (item_stands whole bodies of.unit in_item.from in_item.there) in_item.made

  pub own_there : (f : CFun) → Among program.functions f → Among (functions_of modules) (own_of f)
  own_there f there =
      let low = function_unit f there in
      among_flat_in (λ (m : ModuleTree). flat_map (own_functions_in m.name) m.items) modules (module_tree whole bodies f.unit) (own_of f)
      (there_by (module_tree whole bodies) 0 count f.unit (omega arith) (omega (arith, low)))
      (among_flat_in (own_functions_in (module_of whole f.unit)) (module_tree whole bodies f.unit).items (FunctionItem (function_tree whole f (bodies.of_function f))) (own_of f)
      (function_item_there whole bodies f.unit f there refl) (inl refl))

  abbrev name_of : CFun → List ℕ
  name_of f = name_in whole f.unit (a_function f.function)

  -- one with the module and the name of another is the other
  pub same_own : (f : CFun) → Among program.functions f → (other : OwnFunction) → OwnIs other → other.home ≡ module_of whole f.unit → other.fun.name ≡ name_of f → other ≡ own_of f
  same_own f there other (of_function g among same) home name =
      let unit : g.unit ≡ f.unit =
      modules_apart whole is g.unit f.unit (function_unit g among) (function_unit f there) (ap (λ (o : OwnFunction). o.home) (sym same) ∙ home) in
      let key = one_key whole is bodies f.unit (a_function g.function) (a_function f.function)
      (subst (λ n. HasName whole n (a_function g.function)) unit (function_named whole is g among)) (function_named whole is f there)
      (ap (λ n. name_in whole n (a_function g.function)) (sym unit) ∙ ap (λ (o : OwnFunction). o.fun.name) (sym same) ∙ name) in
      same ∙ ap own_of (same_function whole is bodies f.unit f g there among (function_number_same g.function f.function key))
  same_own f there other (of_initialiser unit low same) home name =
      absurd (no_initialiser whole is f.unit (a_function f.function)
      ((function_named whole is f there).name_is ∙ ap Some (sym (ap (λ (o : OwnFunction). o.fun.name) (sym same) ∙ name))))

  pub function_numbered : (f : CFun) → Among program.functions f → HasNumber (functions_of modules) (module_of whole f.unit) (name_of f) (own_of f) 0
  function_numbered f there =
      first_own (functions_of modules) (module_of whole f.unit) (name_of f) (own_of f) 0 (own_there f there)
      (and_from (bytes_eq (module_of whole f.unit) (module_of whole f.unit)) (bytes_eq (name_of f) (name_of f)) (texts_same (module_of whole f.unit)) (texts_same (name_of f)))
      (λ other among named.
      let parts = and_parts (bytes_eq other.home (module_of whole f.unit)) (bytes_eq other.fun.name (name_of f)) named in
      same_own f there other (own_is other among) (texts_equal other.home (module_of whole f.unit) parts.0) (texts_equal other.fun.name (name_of f) parts.1))

  -- the item of a function is found by its path
  pub function_found : (f : CFun) → Among program.functions f → callee_at modules (module_of whole f.unit) (name_of f) ≡ Some (own (function_tree whole f (bodies.of_function f)))
  function_found f there =
      ap (callee_among (name_of f)) (items_found whole is bodies f.unit (function_unit f there)) ∙ function_among whole is bodies f.unit f there refl

  -- ---- static objects

  abbrev pub static_of : CObject → CPuts → OwnStatic
  static_of o puts = record { home = module_of whole o.unit; object = static_tree whole o puts }

  pub record StaticIs (one : OwnStatic) : Type 0 where
    pub object : CObject
    pub among : Among program.objects object
    pub puts : CPuts
    pub puts_are : object.puts ≡ Some puts
    pub is_it : one ≡ static_of object puts

  static_in : (unit : ℕ) (item : ItemTree) (one : OwnStatic) → Stands whole bodies unit item → Among (statics_in (module_of whole unit) item) one → StaticIs one
  static_in unit item one (is_record number it row done found laid same) there = absurd (subst (λ (i : ItemTree). Among (statics_in (module_of whole unit) i) one) same there)
  static_in unit item one (is_extern same) there = absurd (subst (λ (i : ItemTree). Among (statics_in (module_of whole unit) i) one) same there)
  static_in unit item one (is_function f among here same) there = absurd (subst (λ (i : ItemTree). Among (statics_in (module_of whole unit) i) one) same there)
  static_in unit item one (is_initialiser same) there = absurd (subst (λ (i : ItemTree). Among (statics_in (module_of whole unit) i) one) same there)
  static_in unit item one (is_static o puts among here found same) there = by_place (subst (λ (i : ItemTree). Among (statics_in (module_of whole unit) i) one) same there)
    where
      by_place : Among (record { home = module_of whole unit; object = static_tree whole o puts } ∷ []) one → StaticIs one
      by_place (inl is_it) = record {
        object = o;
        among = among;
        puts = puts;
        puts_are = found;
        is_it = sym is_it ∙ ap (λ n. record { home = module_of whole n; object = static_tree whole o puts }) (sym here);
      }
      by_place (inr none) = absurd none

  pub static_is : (one : OwnStatic) → Among (statics_of modules) one → StaticIs one
  static_is one there =
      let in_module = among_flat (λ (m : ModuleTree). flat_map (statics_in m.name) m.items) modules one there in
      let of = unit_of (module_tree whole bodies) 0 count in_module.from in_module.there in
      let made : Among (flat_map (statics_in (module_of whole of.unit)) (module_tree whole bodies of.unit).items) one =
      subst (λ (m : ModuleTree). Among (flat_map (statics_in m.name) m.items) one) (sym of.is) in_module.made in
      let in_item = among_flat (statics_in (module_of whole of.unit)) (module_tree whole bodies of.unit).items one made in
      static_in of.unit in_item.from one (item_stands whole bodies of.unit in_item.from in_item.there) in_item.made

  pub static_there : (o : CObject) (puts : CPuts) → Among program.objects o → o.puts ≡ Some puts → Among (statics_of modules) (static_of o puts)
  static_there o puts there found =
      let low = object_unit o there in
      among_flat_in (λ (m : ModuleTree). flat_map (statics_in m.name) m.items) modules (module_tree whole bodies o.unit) (static_of o puts)
      (there_by (module_tree whole bodies) 0 count o.unit (omega arith) (omega (arith, low)))
      (among_flat_in (statics_in (module_of whole o.unit)) (module_tree whole bodies o.unit).items (StaticItem (static_tree whole o puts)) (static_of o puts)
      (static_item_there whole bodies o.unit o puts there refl found) (inl refl))

  object_number_same : (n m : ℕ) → an_object n ≡ an_object m → n ≡ m
  object_number_same n m same = number_same n m (ap (λ k. same_key (an_object n) k) (sym same) ∙ key_self (an_object n))

  -- two static objects whose items have one path are one
  pub same_object : (o p : CObject) → Among program.objects o → Among program.objects p → IsSome o.puts → IsSome p.puts → module_of whole p.unit ≡ module_of whole o.unit →
      name_in whole p.unit (an_object p.object) ≡ name_in whole o.unit (an_object o.object) → p ≡ o
  same_object o p there also static static_too home name =
      let unit : p.unit ≡ o.unit = modules_apart whole is p.unit o.unit (object_unit p also) (object_unit o there) home in
      let key = one_key whole is bodies o.unit (an_object p.object) (an_object o.object)
      (subst (λ n. HasName whole n (an_object p.object)) unit (object_named whole is p also static_too)) (object_named whole is o there static)
      (ap (λ n. name_in whole n (an_object p.object)) (sym unit) ∙ name) in
      let found : Some p ≡ Some o =
      sym (object_there whole is p also) ∙ ap (λ n. object_with n program.objects) (object_number_same p.object o.object key) ∙ object_there whole is o there in
      cc (found)

  pub static_found : (o : CObject) (puts : CPuts) → Among program.objects o → o.puts ≡ Some puts →
      HasBlock (statics_of modules) (module_of whole o.unit) (name_in whole o.unit (an_object o.object)) (static_of o puts) 0
  static_found o puts there found =
      first_static (statics_of modules) (module_of whole o.unit) (name_in whole o.unit (an_object o.object)) (static_of o puts) 0 (static_there o puts there found)
      (and_from (bytes_eq (module_of whole o.unit) (module_of whole o.unit)) (bytes_eq (name_in whole o.unit (an_object o.object)) (name_in whole o.unit (an_object o.object)))
      (texts_same (module_of whole o.unit)) (texts_same (name_in whole o.unit (an_object o.object))))
      (λ other among named.
      let of = static_is other among in
      let parts = and_parts (bytes_eq other.home (module_of whole o.unit)) (bytes_eq other.object.name (name_in whole o.unit (an_object o.object))) named in
      let same = same_object o of.object there of.among (ap is_some found) (ap is_some of.puts_are)
      (ap (λ (s : OwnStatic). s.home) (sym of.is_it) ∙ texts_equal other.home (module_of whole o.unit) parts.0)
      (ap (λ (s : OwnStatic). s.object.name) (sym of.is_it) ∙ texts_equal other.object.name (name_in whole o.unit (an_object o.object)) parts.1) in
      let puts_same : Some of.puts ≡ Some puts = sym of.puts_are ∙ ap (λ (q : CObject). q.puts) same ∙ found in
      let equal : of.puts ≡ puts = cc (puts_same) in
      of.is_it ∙ ap (λ (q : CObject). static_of q of.puts) same ∙ ap (static_of o) equal)
