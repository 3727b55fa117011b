-- The static objects of the crate are those of C, in the same order.
use Rattle.std.proofs.Common.{arith, ◌≡◌, ◌<◌, ◌≤◌, ℕ, zero, suc, ◌+◌, ◌==◌, Bool, true, false, if◌then◌else◌, List, [], ◌∷◌, ◌++◌, map, length, Option, Some, None, slice_get, is_some, refl, sym, ap, subst, ◌∙◌, ◌⊎◌, inl, inr, append-nil, append_assoc, ◌&&◌}
use Rattle.std.proofs.lemmas.Bool.{and_from, and_parts, cases_eq}
use Rattle.std.proofs.lemmas.Grind.{flat_map-append}
use Rattle.std.specs.List.{flat_map}
use Rattle.std.specs.Option.{option_flatten}
use Rattle.std.specs.Str.{bytes_eq}
use Rattle.cx_core.specs.Layouts.{CRow, layouts_of, row_at}
use Rattle.cx_core.specs.Trees.{CFun, CObject, CPuts, CProgram, CRecord}
use Rattle.cx_mean.specs.Operands.{slot_of}
use Rattle.cx_mean.specs.State.{statics_first, statics_in}
use Rattle.mem_bytes.specs.declared.value.Ptr.{Ptr}
use Rattle.rs_items.specs.Types.{rust_type}
use Rattle.rs_mean.specs.Lookups.{OwnStatic, static_from, statics_in as statics_of_item, statics_of}
use Rattle.rs_text.specs.Tree.{FunctionItem, ItemTree, ModuleTree, OuterTree}
use Rattle.whole_items.specs.Items.{WrittenBodies, extern_items, function_items, function_of_unit, function_tree, initialiser_tree, module_tree, outers_of, record_items, record_items_of, record_with_row, static_items, static_of as static_item_of, static_with}
use Rattle.whole_means.proofs.Items.{static_tree}
use Rattle.whole_means.proofs.Keys.{number_same, number_self}
use Rattle.whole_means.proofs.Lists.{Among, texts_equal, texts_same}
use Rattle.whole_means.proofs.Modules.{modules_by}
use Rattle.whole_means.proofs.Numbers.{same_object}
use Rattle.whole_means.specs.Beginning.{AscendFrom, slots_from}
use Rattle.whole_means.specs.Written.{IsNamed}
use Rattle.whole_names.specs.Keys.{an_object, order_of}
use Rattle.whole_names.specs.Kept.{NamedProgram, module_of, name_in, types_of}

flat_flat : {A B C : Type 0} (f : B → List C) (h : A → List B) (xs : List A) → flat_map f (flat_map h xs) ≡ flat_map (λ x. flat_map f (h x)) xs
flat_flat f h [] = refl
flat_flat {A} {B} {C} f h (x ∷ xs) = flat_map-append f (h x) (flat_map h xs) ∙ ap (λ (rest : List C). flat_map f (h x) ++ rest) (flat_flat f h xs)

flat_same : {A B : Type 0} (f g : A → List B) (xs : List A) → ((x : A) → f x ≡ g x) → flat_map f xs ≡ flat_map g xs
flat_same f g [] same = refl
flat_same {A} {B} f g (x ∷ xs) same = ap (λ (first : List B). first ++ flat_map f xs) (same x) ∙ ap (λ (rest : List B). g x ++ rest) (flat_same f g xs same)

flat_none : {A B : Type 0} (f : A → List B) (xs : List A) → ((x : A) → f x ≡ []) → flat_map f xs ≡ []
flat_none f [] none = refl
flat_none {A} {B} f (x ∷ xs) none = ap (λ (first : List B). first ++ flat_map f xs) (none x) ∙ flat_none f xs none

-- ---- the static objects of one module

module _ (whole : NamedProgram) (bodies : WrittenBodies) where
  abbrev program : CProgram
  program = whole.program

  abbrev pub own_with : CObject → Option CPuts → List OwnStatic
  own_with o None = []
  own_with o (Some puts) = record { home = module_of whole o.unit; object = static_tree whole o puts } ∷ []

  -- what a static object of C is
  abbrev pub own_static : CObject → List OwnStatic
  own_static o = own_with o o.puts

  abbrev pub own_in : ℕ → CObject → List OwnStatic
  own_in unit o = if o.unit == unit then own_static o else []

  module _ (unit : ℕ) where
    abbrev statics_here : ItemTree → List OwnStatic
    statics_here item = statics_of_item (module_of whole unit) item

    no_static_record : (number : ℕ) (found : Option CRecord) → flat_map statics_here (record_items_of whole unit number found) ≡ []
    no_static_record number None = refl
    no_static_record number (Some one) = by_row (row_at (layouts_of program.types) number)
      where
        by_row : (row : Option CRow) → flat_map statics_here (record_with_row whole number unit one row) ≡ []
        by_row None = refl
        by_row (Some row) = refl

    no_static_function : (f : CFun) → flat_map statics_here (function_of_unit whole bodies unit f) ≡ []
    no_static_function f = by_test (f.unit == unit)
      where
        by_test : (t : Bool) → flat_map statics_here (if t then FunctionItem (function_tree whole f (bodies.of_function f)) ∷ [] else []) ≡ []
        by_test true = refl
        by_test false = refl

    no_static_extern : (outers : List OuterTree) → flat_map statics_here (extern_items outers) ≡ []
    no_static_extern [] = refl
    no_static_extern (one ∷ others) = refl

    own_with_here : (o : CObject) (puts : Option CPuts) → o.unit ≡ unit → flat_map statics_here (static_with whole o puts) ≡ own_with o puts
    own_with_here o None here = refl
    own_with_here o (Some puts) here = ap (λ n. record { home = module_of whole n; object = static_tree whole o puts } ∷ []) (sym here)

    one_static : (o : CObject) → flat_map statics_here (static_item_of whole unit o) ≡ own_in unit o
    one_static o = by_test (o.unit == unit) refl
      where
        by_test : (t : Bool) → (o.unit == unit) ≡ t → flat_map statics_here (if t then static_with whole o o.puts else []) ≡ (if t then own_static o else [])
        by_test true e = own_with_here o o.puts (number_same o.unit unit e)
        by_test false e = refl

    abbrev ends : List ItemTree
    ends = FunctionItem (initialiser_tree (bodies.initialiser unit)) ∷ []

    pub statics_in_module : flat_map statics_here (module_tree whole bodies unit).items ≡ flat_map (own_in unit) program.objects
    statics_in_module =
        flat_map-append statics_here (record_items whole unit) (static_items whole unit ++ (extern_items (outers_of whole unit) ++ (function_items whole bodies unit ++ ends)))
        ∙ ap (λ (first : List OwnStatic). first ++ flat_map statics_here (static_items whole unit ++ (extern_items (outers_of whole unit) ++ (function_items whole bodies unit ++ ends))))
        (flat_flat statics_here (λ number. record_items_of whole unit number (option_flatten (slice_get program.types.records number))) (order_of program unit).completed
        ∙ flat_none (λ number. flat_map statics_here (record_items_of whole unit number (option_flatten (slice_get program.types.records number)))) (order_of program unit).completed
        (λ number. no_static_record number (option_flatten (slice_get program.types.records number))))
        ∙ flat_map-append statics_here (static_items whole unit) (extern_items (outers_of whole unit) ++ (function_items whole bodies unit ++ ends))
        ∙ ap (λ (first : List OwnStatic). first ++ flat_map statics_here (extern_items (outers_of whole unit) ++ (function_items whole bodies unit ++ ends)))
        (flat_flat statics_here (static_item_of whole unit) program.objects ∙ flat_same (λ o. flat_map statics_here (static_item_of whole unit o)) (own_in unit) program.objects one_static)
        ∙ ap (λ (rest : List OwnStatic). flat_map (own_in unit) program.objects ++ rest)
        (flat_map-append statics_here (extern_items (outers_of whole unit)) (function_items whole bodies unit ++ ends)
        ∙ ap (λ (first : List OwnStatic). first ++ flat_map statics_here (function_items whole bodies unit ++ ends)) (no_static_extern (outers_of whole unit))
        ∙ flat_map-append statics_here (function_items whole bodies unit) ends
        ∙ ap (λ (first : List OwnStatic). first ++ [])
        (flat_flat statics_here (function_of_unit whole bodies unit) program.functions
        ∙ flat_none (λ f. flat_map statics_here (function_of_unit whole bodies unit f)) program.functions no_static_function))
        ∙ append-nil (flat_map (own_in unit) program.objects)

  -- ---- of all modules

  abbrev by_units : (unit left : ℕ) → List CObject → List OwnStatic
  by_units unit zero objects = []
  by_units unit (suc left) objects = flat_map (own_in unit) objects ++ by_units (suc unit) left objects

  in_modules : (unit left : ℕ) → flat_map (λ (m : ModuleTree). flat_map (statics_of_item m.name) m.items) (modules_by (module_tree whole bodies) unit left) ≡ by_units unit left program.objects
  in_modules unit zero = refl
  in_modules unit (suc left) =
      ap (λ (first : List OwnStatic). first ++ flat_map (λ (m : ModuleTree). flat_map (statics_of_item m.name) m.items) (modules_by (module_tree whole bodies) (suc unit) left)) (statics_in_module unit)
      ∙ ap (λ (rest : List OwnStatic). flat_map (own_in unit) program.objects ++ rest) (in_modules (suc unit) left)

  apart_false : (n m : ℕ) → (n ≡ m → ⊥) → (n == m) ≡ false
  apart_false n m apart = by_test (n == m) refl
    where
      by_test : (t : Bool) → (n == m) ≡ t → (n == m) ≡ false
      by_test true e = absurd (apart (number_same n m e))
      by_test false e = e

  -- an object of an earlier unit is none of the later ones
  gone : (left unit : ℕ) (o : CObject) (objects : List CObject) → o.unit < unit → by_units unit left (o ∷ objects) ≡ by_units unit left objects
  gone zero unit o objects low = refl
  gone (suc left) unit o objects low =
      ap (λ t. ((if t then own_static o else []) ++ flat_map (own_in unit) objects) ++ by_units (suc unit) left (o ∷ objects)) (apart_false o.unit unit (λ same. omega (arith, same, low)))
      ∙ ap (λ (rest : List OwnStatic). flat_map (own_in unit) objects ++ rest) (gone left (suc unit) o objects (omega (arith, low)))

  none_here : (unit least : ℕ) (objects : List CObject) → AscendFrom least (map (λ (o : CObject). o.unit) objects) → unit < least → flat_map (own_in unit) objects ≡ []
  none_here unit least [] ascend low = refl
  none_here unit least (o ∷ objects) ascend low =
      let above = ascend.0 in
      ap (λ t. (if t then own_static o else []) ++ flat_map (own_in unit) objects) (apart_false o.unit unit (λ same. omega (arith, same, above, low)))
      ∙ none_here unit o.unit objects ascend.1 (omega (arith, above, low))

  abbrev AreBelow : ℕ → List CObject → Type 0
  AreBelow high objects = (o : CObject) → Among objects o → o.unit < high

  abbrev InOrder : ℕ → Type 0
  InOrder left = (unit : ℕ) (objects : List CObject) → AscendFrom unit (map (λ (o : CObject). o.unit) objects) → AreBelow (unit + left) objects → by_units unit left objects ≡ flat_map own_static objects

  order_more : (left unit : ℕ) → InOrder left → (objects : List CObject) → AscendFrom unit (map (λ (o : CObject). o.unit) objects) → AreBelow (unit + suc left) objects →
      by_units unit (suc left) objects ≡ flat_map own_static objects
  order_more left unit more [] ascend below = more (suc unit) [] tt (λ o there. absurd there)
  order_more left unit more (o ∷ objects) ascend below =
      by_case (cases_eq o.unit unit) (λ from. order_more left unit more objects from (λ p there. below p (inr there)))
    where
      by_case : (o.unit ≡ unit) ⊎ (o.unit ≡ unit → ⊥) → (AscendFrom unit (map (λ (p : CObject). p.unit) objects) → by_units unit (suc left) objects ≡ flat_map own_static objects) →
          by_units unit (suc left) (o ∷ objects) ≡ flat_map own_static (o ∷ objects)
      by_case (inl same) later =
          ap (λ t. ((if t then own_static o else []) ++ flat_map (own_in unit) objects) ++ by_units (suc unit) left (o ∷ objects)) (ap (λ n. n == unit) same ∙ number_self unit)
          ∙ ap (λ (rest : List OwnStatic). (own_static o ++ flat_map (own_in unit) objects) ++ rest) (gone left (suc unit) o objects (omega (arith, same)))
          ∙ append_assoc (own_static o) (flat_map (own_in unit) objects) (by_units (suc unit) left objects)
          ∙ ap (λ (rest : List OwnStatic). own_static o ++ rest) (later (subst (λ n. AscendFrom n (map (λ (p : CObject). p.unit) objects)) same ascend.1))
      by_case (inr other) later =
          let low = ascend.0 in
          let above : suc unit ≤ o.unit = omega (arith, low, other) in
          ap (λ (first : List OwnStatic). first ++ by_units (suc unit) left (o ∷ objects)) (none_here unit o.unit (o ∷ objects) (omega arith, ascend.1) (omega (arith, above)))
          ∙ more (suc unit) (o ∷ objects) (above, ascend.1) (λ p there. let high = below p there in omega (arith, high))

  in_order : (left : ℕ) → InOrder left
  in_order zero unit [] ascend below = refl
  in_order zero unit (o ∷ objects) ascend below = absurd (let low = ascend.0 in let high = below o (inl refl) in omega (arith, low, high))
  in_order (suc left) unit objects ascend below = order_more left unit (in_order left) objects ascend below

  -- the static objects of the crate stand in the order of those of C
  pub statics_are : (count : ℕ) → AscendFrom 0 (map (λ (o : CObject). o.unit) program.objects) → AreBelow count program.objects →
      statics_of (modules_by (module_tree whole bodies) 0 count) ≡ flat_map own_static program.objects
  statics_are count ascend below = in_modules 0 count ∙ in_order count 0 program.objects ascend (λ o there. let high = below o there in omega (arith, high))

  -- ---- their blocks

  pub record IsBlock (objects : List CObject) (number : ℕ) (at : Ptr) (block : ℕ) : Type 0 where
    pub one : CObject
    pub among : Among objects one
    pub puts : CPuts
    pub puts_are : one.puts ≡ Some puts
    pub number_is : one.object ≡ number
    pub home_is : static_from block (module_of whole one.unit) (name_in whole one.unit (an_object one.object)) (flat_map own_static objects)
        ≡ Some (record { block = at.block; ty = rust_type (types_of whole) one.type })
    pub low : block ≤ at.block
    pub high : at.block < block + length (statics_in objects)

  module _ (is : IsNamed whole) where
    pub block_is : (objects : List CObject) (block number : ℕ) (at : Ptr) → ((o : CObject) → Among objects o → Among program.objects o) → slot_of (slots_from (statics_in objects) block) number ≡ Some at →
        IsBlock objects number at block
    block_is [] block number at all found = absurd cc
    block_is (o ∷ objects) block number at all found = by_puts o.puts refl found (λ b rest. block_is objects b number at (λ p there. all p (inr there)) rest)
      where
        later : (puts : Option CPuts) → o.puts ≡ puts → (one : IsBlock objects number at block) → puts ≡ None → IsBlock (o ∷ objects) number at block
        later puts e one none = record {
          one = one.one;
          among = inr one.among;
          puts = one.puts;
          puts_are = one.puts_are;
          number_is = one.number_is;
          home_is =
              ap (λ (p : Option CPuts). static_from block (module_of whole one.one.unit) (name_in whole one.one.unit (an_object one.one.object)) (own_with o p ++ flat_map own_static objects)) (e ∙ none)
              ∙ one.home_is;
          low = one.low;
          high = subst (λ n. at.block < block + length n) (sym (ap (λ (p : Option CPuts). statics_first o p (statics_in objects)) (e ∙ none))) one.high;
        }

        first : (puts : CPuts) → o.puts ≡ Some puts → o.object ≡ number → at ≡ record { block = block; offset = at.offset } → IsBlock (o ∷ objects) number at block
        first puts e same place =
            let at_block : at.block ≡ block = ap (λ (p : Ptr). p.block) place in
            let count : length (statics_in (o ∷ objects)) ≡ suc (length (statics_in objects)) = ap (λ (p : Option CPuts). length (statics_first o p (statics_in objects))) e in
            record {
              one = o;
              among = inl refl;
              puts = puts;
              puts_are = e;
              number_is = same;
              home_is =
                  ap (λ (p : Option CPuts). static_from block (module_of whole o.unit) (name_in whole o.unit (an_object o.object)) (own_with o p ++ flat_map own_static objects)) e
                  ∙ ap (λ t. if t then Some (record { block = block; ty = rust_type (types_of whole) o.type })
                  else static_from (block + 1) (module_of whole o.unit) (name_in whole o.unit (an_object o.object)) (flat_map own_static objects))
                  (and_from (bytes_eq (module_of whole o.unit) (module_of whole o.unit)) (bytes_eq (name_in whole o.unit (an_object o.object)) (name_in whole o.unit (an_object o.object)))
                  (texts_same (module_of whole o.unit)) (texts_same (name_in whole o.unit (an_object o.object))))
                  ∙ ap (λ n. Some (record { block = n; ty = rust_type (types_of whole) o.type })) (sym at_block);
              low = omega (arith, at_block);
              high = omega (arith, at_block, count);
            }

        behind : (puts : CPuts) → o.puts ≡ Some puts → (o.object ≡ number → ⊥) → IsBlock objects number at (suc block) → IsBlock (o ∷ objects) number at block
        behind puts e other one =
            let count : length (statics_in (o ∷ objects)) ≡ suc (length (statics_in objects)) = ap (λ (p : Option CPuts). length (statics_first o p (statics_in objects))) e in
            let low = one.low in
            let high = one.high in
            record {
              one = one.one;
              among = inr one.among;
              puts = one.puts;
              puts_are = one.puts_are;
              number_is = one.number_is;
              home_is =
                  ap (λ (p : Option CPuts). static_from block (module_of whole one.one.unit) (name_in whole one.one.unit (an_object one.one.object)) (own_with o p ++ flat_map own_static objects)) e
                  ∙ ap (λ t. if t then Some (record { block = block; ty = rust_type (types_of whole) o.type })
                  else static_from (block + 1) (module_of whole one.one.unit) (name_in whole one.one.unit (an_object one.one.object)) (flat_map own_static objects))
                  (no_path (bytes_eq (module_of whole o.unit) (module_of whole one.one.unit) && bytes_eq (name_in whole o.unit (an_object o.object)) (name_in whole one.one.unit (an_object one.one.object))) refl)
                  ∙ ap (λ b. static_from b (module_of whole one.one.unit) (name_in whole one.one.unit (an_object one.one.object)) (flat_map own_static objects)) (let b : block + 1 ≡ suc block = omega arith in b)
                  ∙ one.home_is;
              low = omega (arith, low);
              high = omega (arith, high, count);
            }
          where
            no_path : (t : Bool) → (bytes_eq (module_of whole o.unit) (module_of whole one.one.unit) && bytes_eq (name_in whole o.unit (an_object o.object)) (name_in whole one.one.unit (an_object one.one.object))) ≡ t → t ≡ false
            no_path true f =
                let parts = and_parts (bytes_eq (module_of whole o.unit) (module_of whole one.one.unit)) (bytes_eq (name_in whole o.unit (an_object o.object)) (name_in whole one.one.unit (an_object one.one.object))) f in
                let same : o ≡ one.one = same_object whole is bodies one.one o (all one.one (inr one.among)) (all o (inl refl)) (ap is_some one.puts_are) (ap is_some e)
                (texts_equal (module_of whole o.unit) (module_of whole one.one.unit) parts.0)
                (texts_equal (name_in whole o.unit (an_object o.object)) (name_in whole one.one.unit (an_object one.one.object)) parts.1) in
                absurd (other (ap (λ (q : CObject). q.object) same ∙ one.number_is))
            no_path false f = refl

        by_test : (puts : CPuts) → o.puts ≡ Some puts → (t : Bool) → (o.object == number) ≡ t →
            (if t then Some (record { block = block; offset = 0 }) else slot_of (slots_from (statics_in objects) (suc block)) number) ≡ Some at →
            ((b : ℕ) → slot_of (slots_from (statics_in objects) b) number ≡ Some at → IsBlock objects number at b) → IsBlock (o ∷ objects) number at block
        by_test puts e true f is_at more =
            let same_at : record { block = block; offset = 0 } ≡ at = cc (is_at) in
            first puts e (number_same o.object number f) (sym same_at ∙ ap (λ (n : ℕ). record { block = block; offset = n }) (ap (λ (p : Ptr). p.offset) same_at))
        by_test puts e false f is_at more = behind puts e (λ same. let h : true ≡ false = sym (ap (λ n. n == number) same ∙ number_self number) ∙ f in cc) (more (suc block) is_at)

        by_puts : (puts : Option CPuts) → o.puts ≡ puts → slot_of (slots_from (statics_first o o.puts (statics_in objects)) block) number ≡ Some at →
            ((b : ℕ) → slot_of (slots_from (statics_in objects) b) number ≡ Some at → IsBlock objects number at b) → IsBlock (o ∷ objects) number at block
        by_puts None e found more =
            later None e (more block (sym (ap (λ (p : Option CPuts). slot_of (slots_from (statics_first o p (statics_in objects)) block) number) e) ∙ found)) refl
        by_puts (Some puts) e found more =
            by_test puts e (o.object == number) refl (sym (ap (λ (p : Option CPuts). slot_of (slots_from (statics_first o p (statics_in objects)) block) number) e) ∙ found) more
