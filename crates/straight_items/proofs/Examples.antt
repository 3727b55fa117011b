-- Worked examples of the definitions.
use Rattle.std.proofs.Common.{◌≡◌, Some, None, codes, refl}
use Rattle.std.specs.Fmt.{digits}
use Rattle.straight_items.specs.declared.scope.NameScope.TheVariants.{Module, Function, Fields}
use Rattle.straight_items.specs.Modules.{module_name}
use Rattle.straight_items.specs.Names.{reserved, candidate}
use Rattle.straight_rust_tree.specs.Names.{path_words, keywords}

-- a keyword is written behind `r#`, and its other candidates have a suffix alone
keyword_first : candidate Module (codes "type") 0 ≡ Some (codes "r#type")
unfolding path_words reserved keywords
keyword_first = refl

keyword_next : candidate Module (codes "type") 1 ≡ Some (codes "type_0")
unfolding digits
keyword_next = refl

-- suffixes begin at 0
suffix_first : candidate Function (codes "x") 1 ≡ Some (codes "x_0")
unfolding digits
suffix_first = refl

suffix_eleventh : candidate Function (codes "x") 11 ≡ Some (codes "x_10")
unfolding digits
suffix_eleventh = refl

-- a name that is no identifier, also behind `r#`, and a reserved one are no candidates for themselves
crate_first : candidate Fields (codes "crate") 0 ≡ None
unfolding path_words reserved
crate_first = refl

int_first : candidate Function (codes "i32") 0 ≡ None
unfolding path_words reserved
int_first = refl

int_next : candidate Function (codes "i32") 1 ≡ Some (codes "i32_0")
unfolding digits
int_next = refl

-- `main` in the set of a module is the crate's own, and `main_0` is the function's
main_first : candidate Module (codes "main") 0 ≡ None
unfolding path_words reserved
main_first = refl

main_next : candidate Module (codes "main") 1 ≡ None
unfolding digits
main_next = refl

main_last : candidate Module (codes "main") 2 ≡ Some (codes "main_1")
unfolding digits
main_last = refl

-- in the set of a function a local may be named `main`, and a field `main_0` where `main` is taken
main_local : candidate Function (codes "main") 0 ≡ Some (codes "main")
unfolding path_words reserved keywords
main_local = refl

main_field : candidate Fields (codes "main") 1 ≡ Some (codes "main_0")
unfolding digits
main_field = refl

-- modules
plain_module : module_name (codes "dir/a.b/c.c") ≡ codes "c"
unfolding path_words reserved keywords
plain_module = refl

main_module : module_name (codes "main.c") ≡ codes "main_0"
unfolding path_words reserved keywords
main_module = refl

keyword_module : module_name (codes "fn.c") ≡ codes "fn_0"
unfolding path_words reserved keywords
keyword_module = refl

digit_module : module_name (codes "9-a.c") ≡ codes "c_9_a"
unfolding path_words reserved keywords
digit_module = refl

empty_module : module_name (codes "dir/") ≡ codes "c_"
unfolding path_words reserved keywords
empty_module = refl
