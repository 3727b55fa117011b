-- What is known of names that are kept.
use Rattle.std.proofs.Common.{◌≡◌, ℕ, Bool, true, false, not, ◌&&◌, ◌||◌, List, [], ◌∷◌, Option, Some, None, bytes_eq, codes, refl, sym, ap, subst, ◌∙◌}
use Rattle.std.specs.Prelude.{All, IsTrue}
use Rattle.std.specs.List.{list_all, AllByRecursion}
use Rattle.std.proofs.lemmas.Cmp.{nat_list_eq_equiv}
use Rattle.std.proofs.lemmas.List.Elements.{All-from_recursion}
use Rattle.std.proofs.lemmas.Slice.Eq.{bytes_eq-Decides}
use Rattle.straight_core.specs.Trees.{CObject, COuter, CProgram}
use Rattle.straight_items.specs.declared.scope.NameScope.TheVariants.{Module}
use Rattle.straight_items.specs.Names.{reserved, is_main_in, keeps_name}
use Rattle.straight_items.proofs.KeptLaws.{kept}
use Rattle.straight_rust_tree.specs.Names.{is_among, is_word, path_words, keywords}
use Rattle.straight_whole.specs.Items.{name_or_empty}
use Rattle.straight_whole.specs.Named.{IsKept, AreNamesKept}
use Rattle.front.specs.Kept.{keeps, keeps_option, keeps_object, keeps_outer, KeepsNames}

both_true : (a b : Bool) → (a && b) ≡ true → (a ≡ true) × (b ≡ true)
both_true true true e = (refl, refl)
both_true true false e = cc
both_true false b e = cc

neither : (a b c : Bool) → not (a || b || c) ≡ true → (a ≡ false) × (b ≡ false) × (c ≡ false)
neither false false false e = (refl, refl, refl)
neither true b c e = cc
neither false true c e = cc
neither false false true e = cc

-- a name that is none of a list's isn't this one of the list's
apart_among : (words : List (List ℕ)) (name word : List ℕ) → is_among words name ≡ false → is_among words word ≡ true → bytes_eq name word ≡ false
apart_among words name word none among = by_test (bytes_eq name word) refl
  where
    clash : true ≡ false → bytes_eq name word ≡ false
    clash g = cc

    by_test : (test : Bool) → bytes_eq name word ≡ test → bytes_eq name word ≡ false
    by_test false e = e
    by_test true e = clash (sym among ∙ ap (is_among words) (sym ((bytes_eq-Decides name word).0 e)) ∙ none)

entry_reserved : is_among reserved (codes "main_0") ≡ true
unfolding reserved
entry_reserved = refl

initialiser_reserved : is_among reserved (codes "run_static_initializers") ≡ true
unfolding reserved
initialiser_reserved = refl

kept_is : (name : List ℕ) → keeps name ≡ true → IsKept name
kept_is name e =
    let tests = both_true (is_word name) (keeps_name Module name) e in
    let free = both_true (not (is_among path_words name || is_among reserved name || is_main_in Module name)) (not (is_among keywords name)) tests.1 in
    let none = neither (is_among path_words name) (is_among reserved name) (is_main_in Module name) free.0 in
    record {
      word = tests.0;
      identifier = kept.identifier Module name tests.0 tests.1;
      not_entry = apart_among reserved name (codes "main_0") none.1 entry_reserved;
      not_initialiser = apart_among reserved name (codes "run_static_initializers") none.1 initialiser_reserved;
    }

kept_option : (name : Option (List ℕ)) → keeps_option name ≡ true → IsKept (name_or_empty name)
kept_option None e = cc
kept_option (Some name) e = kept_is name e

objects_kept : (objects : List CObject) → list_all keeps_object objects ≡ true → AllByRecursion (λ one. IsKept (name_or_empty one.name)) objects
objects_kept [] e = tt
objects_kept (one ∷ others) e =
    let tests = both_true (keeps_object one) (list_all keeps_object others) e in
    (kept_option one.name tests.0, objects_kept others tests.1)

outers_kept : (outers : List COuter) → list_all keeps_outer outers ≡ true → AllByRecursion (λ one. IsKept one.name) outers
outers_kept [] e = tt
outers_kept (one ∷ others) e =
    let tests = both_true (keeps_outer one) (list_all keeps_outer others) e in
    (kept_is one.name tests.0, outers_kept others tests.1)

-- kept names stand in the module as they are
pub names_kept : (program : CProgram) → KeepsNames program → AreNamesKept program
names_kept program all = record {
  objects = All-from_recursion (λ one. IsKept (name_or_empty one.name)) program.objects (objects_kept program.objects all.objects);
  externals = All-from_recursion (λ one. IsKept one.name) program.externals (outers_kept program.externals all.externals);
}

-- a test that fails
pub not_true : (test : Bool) → test ≡ false → IsTrue test → ⊥
not_true true e h = cc
not_true false e h = cc
