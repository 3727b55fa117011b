-- Names of modules, worked out by hand from the rule: the last component, without its last dot and what follows.
use Rattle.std.proofs.Common.{◌≡◌, [], ◌∷◌, codes, refl}
use Rattle.std.specs.Fmt.{digits}
use Rattle.rs_items_modules.specs.Modules.{module_names}
use Rattle.rs_items_sets.specs.Names.{reserved}
use Rattle.rs_text.specs.Names.{keywords, path_words}

-- a file of another directory has the same stem
same_stems : module_names (codes "list.c" ∷ codes "a.b/list.c" ∷ codes "list" ∷ []) ≡ codes "list" ∷ codes "list_0" ∷ codes "list_1" ∷ []
unfolding keywords path_words reserved digits
same_stems = refl

-- `main` is the crate's own
main_module : module_names (codes "main.c" ∷ codes "main_0.c" ∷ codes "src/main.c" ∷ []) ≡ codes "main_0" ∷ codes "main_0_0" ∷ codes "main_1" ∷ []
unfolding keywords path_words reserved digits
main_module = refl

-- what no module is named, also behind `r#`: keywords, words of paths, and names with a meaning of their own
kept_back : module_names (codes "fn.c" ∷ codes "self.c" ∷ codes "Self.c" ∷ codes "i32.c" ∷ codes "None.c" ∷ codes "core.c" ∷ [])
    ≡ codes "fn_0" ∷ codes "self_0" ∷ codes "Self_0" ∷ codes "i32_0" ∷ codes "None_0" ∷ codes "core_0" ∷ []
unfolding keywords path_words reserved digits
kept_back = refl

-- bytes that can't stand in an identifier, and words that begin with a digit
other_bytes : module_names (codes "my-list.test.c" ∷ codes "9a.c" ∷ codes "x y.c" ∷ codes "~.c" ∷ []) ≡ codes "my_list_test" ∷ codes "c_9a" ∷ codes "x_y" ∷ codes "c__" ∷ []
unfolding keywords path_words reserved digits
other_bytes = refl

-- a dot that comes first, none, the last of two, and no name at all
dots : module_names (codes ".c" ∷ codes "x" ∷ codes "x..c" ∷ codes "..c" ∷ codes "dir/" ∷ []) ≡ codes "_c" ∷ codes "x" ∷ codes "x_" ∷ codes "c__" ∷ codes "c_" ∷ []
unfolding keywords path_words reserved digits
dots = refl
