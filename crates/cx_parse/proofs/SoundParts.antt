-- Lists of trees of each kind: their tokens and names are those of the items, and they are valid, stand and are as deep as these.
use Rattle.std.proofs.Common.{◌≡◌, ℕ, suc, ◌≤◌, List, [], ◌∷◌, ◌++◌, length, map, refl, ap, arith}
use Rattle.cx_lex.specs.declared.token.Token.{Token}
use Rattle.cx_parse.proofs.Lists.{each_of}
use Rattle.cx_parse.proofs.SoundLists.{Fine}
use Rattle.cx_parse.proofs.Stood.{ExprFits, MemberDeclFits, MemberDeclaratorFits, EnumeratorFits, ParamFits, EntryFits, DesignatorFits}
use Rattle.cx_tree.specs.Depth.{exprs_depth, expr_depth, member_decls_depth, member_decl_depth, member_declarators_depth, member_declarator_depth, enumerators_depth, enumerator_depth, params_depth, param_depth, entries_depth, entry_depth, designators_depth, designator_depth}
use Rattle.cx_tree.specs.Levels.{assignment_level}
use Rattle.cx_tree.specs.Names.{Binding, new_exprs, new_expr, ExprsStand, new_member_decls, new_member_decl, MemberDeclsStand, new_member_declarators, new_member_declarator, MemberDeclaratorsStand, new_enumerators, new_enumerator, EnumeratorsStand, new_params, new_param, ParamsStand, new_entries, new_entry, EntriesStand, new_designators, new_designator, DesignatorsStand}
use Rattle.cx_tree.specs.Tokens.{exprs_tokens, expr_tokens, member_decls_tokens, member_decl_tokens, member_declarators_tokens, member_declarator_tokens, enumerators_tokens, enumerator_tokens, params_tokens, param_tokens, entries_tokens, entry_tokens, designators_tokens, designator_tokens}
use Rattle.cx_tree.specs.Trees.{ExprTree, MemberDeclTree, MemberDeclaratorTree, EnumeratorTree, ParamTree, EntryTree, DesignatorTree}
use Rattle.cx_tree.specs.Valid.{AreValidArgs, exprs_count, AreValidMemberDecls, member_decls_count, AreValidMemberDeclarators, member_declarators_count, AreValidEnumerators, enumerators_count, AreValidParams, params_count, AreValidEntries, entries_count, AreValidDesignators}
use Rattle.cx_tree.specs.Views.{exprs, member_decls, member_declarators, enumerators, params, entries, designators}

-- ---- exprs

pub exprs_tokens_are : (items : List ExprTree) → exprs_tokens (exprs items) ≡ map expr_tokens items
exprs_tokens_are [] = refl
exprs_tokens_are (x ∷ xs) = ap (λ (ts : List (List Token)). expr_tokens x ∷ ts) (exprs_tokens_are xs)

pub exprs_new : (items : List ExprTree) → new_exprs (exprs items) ≡ each_of new_expr items
exprs_new [] = refl
exprs_new (x ∷ xs) = ap (λ (bs : List Binding). new_expr x ++ bs) (exprs_new xs)

pub exprs_many : (items : List ExprTree) → exprs_count (exprs items) ≡ length items
exprs_many [] = refl
exprs_many (x ∷ xs) = ap suc (exprs_many xs)

pub exprs_valid : (most : ℕ) (names : List Binding) (items : List ExprTree) → Fine new_expr (ExprFits most assignment_level) names items → AreValidArgs (exprs items)
exprs_valid most names [] fine = tt
exprs_valid most names (x ∷ xs) fine = (fine.0.valid, exprs_valid most (names ++ new_expr x) xs fine.1)

pub exprs_stand : (most : ℕ) (names : List Binding) (items : List ExprTree) → Fine new_expr (ExprFits most assignment_level) names items → ExprsStand names (exprs items)
exprs_stand most names [] fine = tt
exprs_stand most names (x ∷ xs) fine = (fine.0.stands, exprs_stand most (names ++ new_expr x) xs fine.1)

pub exprs_deep : (most : ℕ) (names : List Binding) (items : List ExprTree) → Fine new_expr (ExprFits most assignment_level) names items → exprs_depth (exprs items) ≤ most
exprs_deep most names [] fine = omega arith
exprs_deep most names (x ∷ xs) fine = let one : expr_depth x ≤ most = fine.0.deep in let more = exprs_deep most (names ++ new_expr x) xs fine.1 in omega (arith, one, more)

-- ---- member decls

pub member_decls_tokens_are : (items : List MemberDeclTree) → member_decls_tokens (member_decls items) ≡ each_of member_decl_tokens items
member_decls_tokens_are [] = refl
member_decls_tokens_are (x ∷ xs) = ap (λ (ts : List Token). member_decl_tokens x ++ ts) (member_decls_tokens_are xs)

pub member_decls_new : (items : List MemberDeclTree) → new_member_decls (member_decls items) ≡ each_of new_member_decl items
member_decls_new [] = refl
member_decls_new (x ∷ xs) = ap (λ (bs : List Binding). new_member_decl x ++ bs) (member_decls_new xs)

pub member_decls_many : (items : List MemberDeclTree) → member_decls_count (member_decls items) ≡ length items
member_decls_many [] = refl
member_decls_many (x ∷ xs) = ap suc (member_decls_many xs)

pub member_decls_valid : (most : ℕ) (names : List Binding) (items : List MemberDeclTree) → Fine new_member_decl (MemberDeclFits most) names items → AreValidMemberDecls (member_decls items)
member_decls_valid most names [] fine = tt
member_decls_valid most names (x ∷ xs) fine = (fine.0.valid, member_decls_valid most (names ++ new_member_decl x) xs fine.1)

pub member_decls_stand : (most : ℕ) (names : List Binding) (items : List MemberDeclTree) → Fine new_member_decl (MemberDeclFits most) names items → MemberDeclsStand names (member_decls items)
member_decls_stand most names [] fine = tt
member_decls_stand most names (x ∷ xs) fine = (fine.0.stands, member_decls_stand most (names ++ new_member_decl x) xs fine.1)

pub member_decls_deep : (most : ℕ) (names : List Binding) (items : List MemberDeclTree) → Fine new_member_decl (MemberDeclFits most) names items → member_decls_depth (member_decls items) ≤ most
member_decls_deep most names [] fine = omega arith
member_decls_deep most names (x ∷ xs) fine = let one : member_decl_depth x ≤ most = fine.0.deep in let more = member_decls_deep most (names ++ new_member_decl x) xs fine.1 in omega (arith, one, more)

-- ---- member declarators

pub member_declarators_tokens_are : (items : List MemberDeclaratorTree) → member_declarators_tokens (member_declarators items) ≡ map member_declarator_tokens items
member_declarators_tokens_are [] = refl
member_declarators_tokens_are (x ∷ xs) = ap (λ (ts : List (List Token)). member_declarator_tokens x ∷ ts) (member_declarators_tokens_are xs)

pub member_declarators_new : (items : List MemberDeclaratorTree) → new_member_declarators (member_declarators items) ≡ each_of new_member_declarator items
member_declarators_new [] = refl
member_declarators_new (x ∷ xs) = ap (λ (bs : List Binding). new_member_declarator x ++ bs) (member_declarators_new xs)

pub member_declarators_many : (items : List MemberDeclaratorTree) → member_declarators_count (member_declarators items) ≡ length items
member_declarators_many [] = refl
member_declarators_many (x ∷ xs) = ap suc (member_declarators_many xs)

pub member_declarators_valid : (most : ℕ) (names : List Binding) (items : List MemberDeclaratorTree) → Fine new_member_declarator (MemberDeclaratorFits most) names items → AreValidMemberDeclarators (member_declarators items)
member_declarators_valid most names [] fine = tt
member_declarators_valid most names (x ∷ xs) fine = (fine.0.valid, member_declarators_valid most (names ++ new_member_declarator x) xs fine.1)

pub member_declarators_stand : (most : ℕ) (names : List Binding) (items : List MemberDeclaratorTree) → Fine new_member_declarator (MemberDeclaratorFits most) names items → MemberDeclaratorsStand names (member_declarators items)
member_declarators_stand most names [] fine = tt
member_declarators_stand most names (x ∷ xs) fine = (fine.0.stands, member_declarators_stand most (names ++ new_member_declarator x) xs fine.1)

pub member_declarators_deep : (most : ℕ) (names : List Binding) (items : List MemberDeclaratorTree) → Fine new_member_declarator (MemberDeclaratorFits most) names items → member_declarators_depth (member_declarators items) ≤ most
member_declarators_deep most names [] fine = omega arith
member_declarators_deep most names (x ∷ xs) fine = let one : member_declarator_depth x ≤ most = fine.0.deep in let more = member_declarators_deep most (names ++ new_member_declarator x) xs fine.1 in omega (arith, one, more)

-- ---- enumerators

pub enumerators_tokens_are : (items : List EnumeratorTree) → enumerators_tokens (enumerators items) ≡ map enumerator_tokens items
enumerators_tokens_are [] = refl
enumerators_tokens_are (x ∷ xs) = ap (λ (ts : List (List Token)). enumerator_tokens x ∷ ts) (enumerators_tokens_are xs)

pub enumerators_new : (items : List EnumeratorTree) → new_enumerators (enumerators items) ≡ each_of new_enumerator items
enumerators_new [] = refl
enumerators_new (x ∷ xs) = ap (λ (bs : List Binding). new_enumerator x ++ bs) (enumerators_new xs)

pub enumerators_many : (items : List EnumeratorTree) → enumerators_count (enumerators items) ≡ length items
enumerators_many [] = refl
enumerators_many (x ∷ xs) = ap suc (enumerators_many xs)

pub enumerators_valid : (most : ℕ) (names : List Binding) (items : List EnumeratorTree) → Fine new_enumerator (EnumeratorFits most) names items → AreValidEnumerators (enumerators items)
enumerators_valid most names [] fine = tt
enumerators_valid most names (x ∷ xs) fine = (fine.0.valid, enumerators_valid most (names ++ new_enumerator x) xs fine.1)

pub enumerators_stand : (most : ℕ) (names : List Binding) (items : List EnumeratorTree) → Fine new_enumerator (EnumeratorFits most) names items → EnumeratorsStand names (enumerators items)
enumerators_stand most names [] fine = tt
enumerators_stand most names (x ∷ xs) fine = (fine.0.stands, enumerators_stand most (names ++ new_enumerator x) xs fine.1)

pub enumerators_deep : (most : ℕ) (names : List Binding) (items : List EnumeratorTree) → Fine new_enumerator (EnumeratorFits most) names items → enumerators_depth (enumerators items) ≤ most
enumerators_deep most names [] fine = omega arith
enumerators_deep most names (x ∷ xs) fine = let one : enumerator_depth x ≤ most = fine.0.deep in let more = enumerators_deep most (names ++ new_enumerator x) xs fine.1 in omega (arith, one, more)

-- ---- params

pub params_tokens_are : (items : List ParamTree) → params_tokens (params items) ≡ map param_tokens items
params_tokens_are [] = refl
params_tokens_are (x ∷ xs) = ap (λ (ts : List (List Token)). param_tokens x ∷ ts) (params_tokens_are xs)

pub params_new : (items : List ParamTree) → new_params (params items) ≡ each_of new_param items
params_new [] = refl
params_new (x ∷ xs) = ap (λ (bs : List Binding). new_param x ++ bs) (params_new xs)

pub params_many : (items : List ParamTree) → params_count (params items) ≡ length items
params_many [] = refl
params_many (x ∷ xs) = ap suc (params_many xs)

pub params_valid : (most : ℕ) (names : List Binding) (items : List ParamTree) → Fine new_param (ParamFits most) names items → AreValidParams (params items)
params_valid most names [] fine = tt
params_valid most names (x ∷ xs) fine = (fine.0.valid, params_valid most (names ++ new_param x) xs fine.1)

pub params_stand : (most : ℕ) (names : List Binding) (items : List ParamTree) → Fine new_param (ParamFits most) names items → ParamsStand names (params items)
params_stand most names [] fine = tt
params_stand most names (x ∷ xs) fine = (fine.0.stands, params_stand most (names ++ new_param x) xs fine.1)

pub params_deep : (most : ℕ) (names : List Binding) (items : List ParamTree) → Fine new_param (ParamFits most) names items → params_depth (params items) ≤ most
params_deep most names [] fine = omega arith
params_deep most names (x ∷ xs) fine = let one : param_depth x ≤ most = fine.0.deep in let more = params_deep most (names ++ new_param x) xs fine.1 in omega (arith, one, more)

-- ---- entries

pub entries_tokens_are : (items : List EntryTree) → entries_tokens (entries items) ≡ map entry_tokens items
entries_tokens_are [] = refl
entries_tokens_are (x ∷ xs) = ap (λ (ts : List (List Token)). entry_tokens x ∷ ts) (entries_tokens_are xs)

pub entries_new : (items : List EntryTree) → new_entries (entries items) ≡ each_of new_entry items
entries_new [] = refl
entries_new (x ∷ xs) = ap (λ (bs : List Binding). new_entry x ++ bs) (entries_new xs)

pub entries_many : (items : List EntryTree) → entries_count (entries items) ≡ length items
entries_many [] = refl
entries_many (x ∷ xs) = ap suc (entries_many xs)

pub entries_valid : (most : ℕ) (names : List Binding) (items : List EntryTree) → Fine new_entry (EntryFits most) names items → AreValidEntries (entries items)
entries_valid most names [] fine = tt
entries_valid most names (x ∷ xs) fine = (fine.0.valid, entries_valid most (names ++ new_entry x) xs fine.1)

pub entries_stand : (most : ℕ) (names : List Binding) (items : List EntryTree) → Fine new_entry (EntryFits most) names items → EntriesStand names (entries items)
entries_stand most names [] fine = tt
entries_stand most names (x ∷ xs) fine = (fine.0.stands, entries_stand most (names ++ new_entry x) xs fine.1)

pub entries_deep : (most : ℕ) (names : List Binding) (items : List EntryTree) → Fine new_entry (EntryFits most) names items → entries_depth (entries items) ≤ most
entries_deep most names [] fine = omega arith
entries_deep most names (x ∷ xs) fine = let one : entry_depth x ≤ most = fine.0.deep in let more = entries_deep most (names ++ new_entry x) xs fine.1 in omega (arith, one, more)

-- ---- designators

pub designators_tokens_are : (items : List DesignatorTree) → designators_tokens (designators items) ≡ each_of designator_tokens items
designators_tokens_are [] = refl
designators_tokens_are (x ∷ xs) = ap (λ (ts : List Token). designator_tokens x ++ ts) (designators_tokens_are xs)

pub designators_new : (items : List DesignatorTree) → new_designators (designators items) ≡ each_of new_designator items
designators_new [] = refl
designators_new (x ∷ xs) = ap (λ (bs : List Binding). new_designator x ++ bs) (designators_new xs)

pub designators_valid : (most : ℕ) (names : List Binding) (items : List DesignatorTree) → Fine new_designator (DesignatorFits most) names items → AreValidDesignators (designators items)
designators_valid most names [] fine = tt
designators_valid most names (x ∷ xs) fine = (fine.0.valid, designators_valid most (names ++ new_designator x) xs fine.1)

pub designators_stand : (most : ℕ) (names : List Binding) (items : List DesignatorTree) → Fine new_designator (DesignatorFits most) names items → DesignatorsStand names (designators items)
designators_stand most names [] fine = tt
designators_stand most names (x ∷ xs) fine = (fine.0.stands, designators_stand most (names ++ new_designator x) xs fine.1)

pub designators_deep : (most : ℕ) (names : List Binding) (items : List DesignatorTree) → Fine new_designator (DesignatorFits most) names items → designators_depth (designators items) ≤ most
designators_deep most names [] fine = omega arith
designators_deep most names (x ∷ xs) fine = let one : designator_depth x ≤ most = fine.0.deep in let more = designators_deep most (names ++ new_designator x) xs fine.1 in omega (arith, one, more)
