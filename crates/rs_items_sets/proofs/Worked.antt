-- Names, worked out by hand from the rule.
use Rattle.std.proofs.Common.{◌≡◌, [], ◌∷◌, Some, None, codes, refl}
use Rattle.std.specs.Fmt.{digits}
use Rattle.rs_items_sets.specs.Names.{candidate, names_from, reserved}
use Rattle.rs_items_sets.specs.declared.scope.NameScope.TheVariants.{Fields, Function, Module}
use Rattle.rs_text.specs.Names.{keywords, path_words}

-- the locals of `int fn = 1, self = 2, x = 3; { int x = 4; }`
locals : names_from [] Function (codes "fn" ∷ codes "self" ∷ codes "x" ∷ codes "x" ∷ []) ≡ codes "r#fn" ∷ codes "self_0" ∷ codes "x" ∷ codes "x_0" ∷ []
unfolding digits keywords path_words reserved
locals = refl

-- a suffix that another name has is passed over
passed_over : names_from (codes "x_1" ∷ []) Function (codes "x" ∷ codes "x_0" ∷ codes "x" ∷ codes "x" ∷ []) ≡ codes "x_1" ∷ codes "x" ∷ codes "x_0" ∷ codes "x_2" ∷ codes "x_3" ∷ []
unfolding digits keywords path_words reserved
passed_over = refl

-- behind a keyword's `r#` its other candidates have a suffix alone
keyword_twice : names_from [] Fields (codes "type" ∷ codes "type" ∷ []) ≡ codes "r#type" ∷ codes "type_0" ∷ []
unfolding digits keywords path_words reserved
keyword_twice = refl

-- `main` in the set of a module is the crate's own, and `main_0` is the function's
main_first : candidate Module (codes "main") 0 ≡ None
unfolding path_words reserved
main_first = refl

main_next : candidate Module (codes "main") 1 ≡ None
unfolding digits
main_next = refl

main_last : candidate Module (codes "main") 2 ≡ Some (codes "main_1")
unfolding digits
main_last = refl

-- a local may be named `main`, and a field `main_0` where `main` is taken
main_local : candidate Function (codes "main") 0 ≡ Some (codes "main")
unfolding keywords path_words reserved
main_local = refl

main_field : candidate Fields (codes "main") 1 ≡ Some (codes "main_0")
unfolding digits
main_field = refl

-- words of types and of paths are no candidates for themselves
type_word : names_from [] Function (codes "i32" ∷ codes "crate" ∷ codes "Option" ∷ []) ≡ codes "i32_0" ∷ codes "crate_0" ∷ codes "Option_0" ∷ []
unfolding digits keywords path_words reserved
type_word = refl
