-- A worked example: the crate that is written for a program has the names that it wants, and is well typed.
use Rattle.std.proofs.Common.{◌≡◌, ℕ, true, List, [], ◌∷◌, Option, Some, None, codes, refl}
use Rattle.std.specs.List.{IsDistinct}
use Rattle.std.proofs.lemmas.List.Elements.{All-nil, All-cons, All-from_recursion}
use Rattle.straight_core.specs.Examples.{adds_answer, main_function, x_object, putchar_outer}
use Rattle.straight_core.specs.Trees.{CObject, COuter}
use Rattle.straight_rust_mean.specs.Typing.{known_functions, ItemPlace, first_ill}
use Rattle.straight_rust_tree.specs.Names.{keywords, path_words, is_identifier}
use Rattle.straight_whole.specs.CrateOf.{temporaries_of, crate_of}
use Rattle.straight_whole.specs.Items.{name_or_empty}
use Rattle.straight_whole.specs.Named.{IsKept, AreNamesKept, module_names, IsApart, AreFresh}

abbrev seven : List (List ℕ)
seven = codes "t0" ∷ codes "t1" ∷ codes "t2" ∷ codes "t3" ∷ codes "t4" ∷ codes "t5" ∷ codes "t6" ∷ []

takes_seven : temporaries_of main_function.body ≡ 7
takes_seven = refl

names_kept : AreNamesKept adds_answer
unfolding keywords path_words
names_kept = record {
  objects = All-cons (λ (one : CObject). IsKept (name_or_empty one.name)) x_object [] (record { word = refl; identifier = refl; not_entry = refl; not_initialiser = refl }) (All-nil (λ (one : CObject). IsKept (name_or_empty one.name)));
  externals = All-cons (λ (one : COuter). IsKept one.name) putchar_outer [] (record { word = refl; identifier = refl; not_entry = refl; not_initialiser = refl }) (All-nil (λ (one : COuter). IsKept one.name));
}

seven_fresh : AreFresh adds_answer main_function.body seven
unfolding keywords path_words IsDistinct
seven_fresh = record {
  many = refl;
  identifiers = All-from_recursion (λ name. is_identifier name ≡ true) seven (refl, (refl, (refl, (refl, (refl, (refl, (refl, tt)))))));
  differ = ((refl, (refl, (refl, (refl, (refl, (refl, tt)))))), ((refl, (refl, (refl, (refl, (refl, tt))))), ((refl, (refl, (refl, (refl, tt)))), ((refl, (refl, (refl, tt))), ((refl, (refl, tt)), ((refl, tt), (tt, tt)))))));
  apart = All-from_recursion (IsApart (module_names adds_answer)) seven (refl, (refl, (refl, (refl, (refl, (refl, (refl, tt)))))));
}

-- it is well typed with temporaries of new names
typed_with_seven : first_ill (crate_of adds_answer main_function.body (codes "a") seven) ≡ None
unfolding known_functions
typed_with_seven = refl

-- with one too few, or one that has the name of an object, `main_0` isn't: item 2, behind the object and the block
abbrev main_is_ill : Option ItemPlace
main_is_ill = Some (record { mod_number = 0; item_number = 2 })

ill_with_six : first_ill (crate_of adds_answer main_function.body (codes "a") (codes "t0" ∷ codes "t1" ∷ codes "t2" ∷ codes "t3" ∷ codes "t4" ∷ codes "t5" ∷ [])) ≡ main_is_ill
unfolding known_functions
ill_with_six = refl

ill_with_name_of_object : first_ill (crate_of adds_answer main_function.body (codes "a") (codes "x" ∷ codes "t1" ∷ codes "t2" ∷ codes "t3" ∷ codes "t4" ∷ codes "t5" ∷ codes "t6" ∷ [])) ≡ main_is_ill
unfolding known_functions
ill_with_name_of_object = refl
