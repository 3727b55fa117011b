-- Lists of specifiers, parameters and statements.
use Rattle.std.proofs.Common.{◌≡◌, ℕ, ◌≤◌, Bool, false, List, [], ◌∷◌, ◌++◌, length, map, refl, ap, ◌∙◌, arith}
use Rattle.straight_tree.specs.declared.declarator.Param.{Param}
use Rattle.straight_tree.specs.declared.declarator.Spec.{Spec}
use Rattle.straight_tree.specs.declared.stmt.BlockItem.{BlockItem}
use Rattle.straight_tree.specs.declared.unit.External.{External}
use Rattle.straight_tree.specs.Trees.{SpecTree, SpecsTree, ItemTree, ExternalTree}
use Rattle.straight_tree.specs.Views.{spec_view, specs_list, param_view, params, item_view, items, external_view}
use Rattle.straight_decl.specs.CoreOf.{Scope, is_only, is_only_param, items_in, last_of, before_last, core_firsts, core_last, core_stmts, both, program_behind, parted}

-- two specifiers or more, or two parameters, are not one
pub not_one_specifier : (test : SpecTree → Bool) (list : List Spec) → 2 ≤ length list → false ≡ is_only test (specs_list (map spec_view list))
not_one_specifier test [] many = absurd (omega (arith, many))
not_one_specifier test (one ∷ []) many = absurd (omega (arith, many))
not_one_specifier test (one ∷ other ∷ others) many = refl

pub not_one_param : (test : SpecsTree → Bool) (list : List Param) → 2 ≤ length list → false ≡ is_only_param test (params (map param_view list))
not_one_param test [] many = absurd (omega (arith, many))
not_one_param test (one ∷ []) many = absurd (omega (arith, many))
not_one_param test (one ∷ other ∷ others) many = refl

-- the items of a block, in a list of its own and back
pub items_in_items : (list : List ItemTree) → items_in (items list) ≡ list
items_in_items [] = refl
items_in_items (one ∷ others) = ap (λ more. one ∷ more) (items_in_items others)

-- the last of a list that ends with it
pub last_of_snoc : {A : Type 0} (first : A) (more : List A) (last : A) → last_of first (more ++ last ∷ []) ≡ last
last_of_snoc first [] last = refl
last_of_snoc first (next ∷ others) last = last_of_snoc next others last

pub before_last_snoc : {A : Type 0} (first : A) (more : List A) (last : A) → before_last first (more ++ last ∷ []) ≡ first ∷ more
before_last_snoc first [] last = refl
before_last_snoc first (next ∷ others) last = ap (λ list. first ∷ list) (before_last_snoc next others last)

pub core_stmts_snoc : (unit : ℕ) (scope : Scope) (firsts : List ItemTree) (last : ItemTree) → core_stmts unit scope (firsts ++ last ∷ []) ≡ both (core_firsts unit scope firsts) (core_last unit scope last) (λ more one. more ++ one ∷ [])
core_stmts_snoc unit scope [] last = refl
core_stmts_snoc unit scope (first ∷ others) last = rw (before_last_snoc first others last, last_of_snoc first others last) refl

pub map_snoc : {A B : Type 0} (f : A → B) (more : List A) (last : A) → map f (more ++ last ∷ []) ≡ map f more ++ f last ∷ []
map_snoc f [] last = refl
map_snoc f (one ∷ others) last = ap (λ list. f one ∷ list) (map_snoc f others last)

-- the statements of a block, by its last and those before it
pub body_is : (unit : ℕ) (scope : Scope) (list firsts : List BlockItem) (last : BlockItem) → list ≡ firsts ++ last ∷ [] →
    core_stmts unit scope (items_in (items (map item_view list))) ≡ both (core_firsts unit scope (map item_view firsts)) (core_last unit scope (item_view last)) (λ more one. more ++ one ∷ [])
body_is unit scope list firsts last e =
    ap (core_stmts unit scope) (items_in_items (map item_view list) ∙ ap (map item_view) e ∙ map_snoc item_view firsts last)
    ∙ core_stmts_snoc unit scope (map item_view firsts) (item_view last)

-- the program of parts, by their last and those before it
pub behind_is : (unit : ℕ) (has_putchar : Bool) (list firsts : List External) (last : External) → list ≡ firsts ++ last ∷ [] →
    program_behind unit has_putchar (map external_view list) ≡ parted unit has_putchar (map external_view firsts) (external_view last)
behind_is unit has_putchar list firsts last e = ap (λ parts. program_behind unit has_putchar (map external_view parts)) e ∙ ap (program_behind unit has_putchar) (map_snoc external_view firsts last) ∙ behind_snoc (map external_view firsts) (external_view last)
  where
    behind_snoc : (parts : List ExternalTree) (one : ExternalTree) → program_behind unit has_putchar (parts ++ one ∷ []) ≡ parted unit has_putchar parts one
    behind_snoc [] one = refl
    behind_snoc (first ∷ others) one = rw (before_last_snoc first others one, last_of_snoc first others one) refl
