-- The depth of a list with one more item is the greater of the list's and the item's.
use Rattle.std.proofs.Common.{◌≡◌, ℕ, List, [], ◌∷◌, ◌++◌, map, max, ap, ◌∙◌, arith}
use Rattle.std.proofs.lemmas.List.{map-append}
use Rattle.cx_tree.specs.Depth.{exprs_depth, expr_depth, params_depth, param_depth, designators_depth, designator_depth, entries_depth, entry_depth, enumerators_depth, enumerator_depth, member_declarators_depth, member_declarator_depth, member_decls_depth, member_decl_depth, specs_depth, spec_depth}
use Rattle.cx_tree.specs.Trees.{ExprTree, ParamTree, DesignatorTree, EntryTree, EnumeratorTree, MemberDeclaratorTree, MemberDeclTree, SpecTree}
use Rattle.cx_tree.specs.Views.{exprs, expr_view, params, param_view, designators, designator_view, entries, entry_view, enumerators, enumerator_view, member_declarators, member_declarator_view, member_decls, member_decl_view, specs, spec_view}
use Rattle.cx_tree.specs.declared.declarator.Param.{Param}
use Rattle.cx_tree.specs.declared.expr.Expr.{Expr}
use Rattle.cx_tree.specs.declared.initialiser.Designator.{Designator}
use Rattle.cx_tree.specs.declared.initialiser.Entry.{Entry}
use Rattle.cx_tree.specs.declared.specifier.Enumerator.{Enumerator}
use Rattle.cx_tree.specs.declared.specifier.MemberDecl.{MemberDecl}
use Rattle.cx_tree.specs.declared.specifier.MemberDeclarator.{MemberDeclarator}
use Rattle.cx_tree.specs.declared.specifier.Spec.{Spec}

exprs_more : (all : List ExprTree) (one : ExprTree) → exprs_depth (exprs (all ++ one ∷ [])) ≡ max (exprs_depth (exprs all)) (expr_depth one)
exprs_more [] one = omega arith
exprs_more (first ∷ all) one = omega (arith, exprs_more all one)

pub exprs_pushed : (all : List Expr) (one : Expr) (new : List Expr) (depth more total : ℕ) → new ≡ all ++ one ∷ [] → total ≡ max depth more
    → more ≡ expr_depth (expr_view one) → depth ≡ exprs_depth (exprs (map expr_view all)) → total ≡ exprs_depth (exprs (map expr_view new))
exprs_pushed all one new depth more total list deep item measured =
    let e : exprs_depth (exprs (map expr_view new)) ≡ max (exprs_depth (exprs (map expr_view all))) (expr_depth (expr_view one)) =
    ap (λ (l : List Expr). exprs_depth (exprs (map expr_view l))) list
    ∙ ap (λ (l : List ExprTree). exprs_depth (exprs l)) (map-append expr_view all (one ∷ []))
    ∙ exprs_more (map expr_view all) (expr_view one) in
    omega (arith, e, deep, item, measured)

params_more : (all : List ParamTree) (one : ParamTree) → params_depth (params (all ++ one ∷ [])) ≡ max (params_depth (params all)) (param_depth one)
params_more [] one = omega arith
params_more (first ∷ all) one = omega (arith, params_more all one)

pub params_pushed : (all : List Param) (one : Param) (new : List Param) (depth more total : ℕ) → new ≡ all ++ one ∷ [] → total ≡ max depth more
    → more ≡ param_depth (param_view one) → depth ≡ params_depth (params (map param_view all)) → total ≡ params_depth (params (map param_view new))
params_pushed all one new depth more total list deep item measured =
    let e : params_depth (params (map param_view new)) ≡ max (params_depth (params (map param_view all))) (param_depth (param_view one)) =
    ap (λ (l : List Param). params_depth (params (map param_view l))) list
    ∙ ap (λ (l : List ParamTree). params_depth (params l)) (map-append param_view all (one ∷ []))
    ∙ params_more (map param_view all) (param_view one) in
    omega (arith, e, deep, item, measured)

designators_more : (all : List DesignatorTree) (one : DesignatorTree) → designators_depth (designators (all ++ one ∷ [])) ≡ max (designators_depth (designators all)) (designator_depth one)
designators_more [] one = omega arith
designators_more (first ∷ all) one = omega (arith, designators_more all one)

pub designators_pushed : (all : List Designator) (one : Designator) (new : List Designator) (depth more total : ℕ) → new ≡ all ++ one ∷ [] → total ≡ max depth more
    → more ≡ designator_depth (designator_view one) → depth ≡ designators_depth (designators (map designator_view all)) → total ≡ designators_depth (designators (map designator_view new))
designators_pushed all one new depth more total list deep item measured =
    let e : designators_depth (designators (map designator_view new)) ≡ max (designators_depth (designators (map designator_view all))) (designator_depth (designator_view one)) =
    ap (λ (l : List Designator). designators_depth (designators (map designator_view l))) list
    ∙ ap (λ (l : List DesignatorTree). designators_depth (designators l)) (map-append designator_view all (one ∷ []))
    ∙ designators_more (map designator_view all) (designator_view one) in
    omega (arith, e, deep, item, measured)

entries_more : (all : List EntryTree) (one : EntryTree) → entries_depth (entries (all ++ one ∷ [])) ≡ max (entries_depth (entries all)) (entry_depth one)
entries_more [] one = omega arith
entries_more (first ∷ all) one = omega (arith, entries_more all one)

pub entries_pushed : (all : List Entry) (one : Entry) (new : List Entry) (depth more total : ℕ) → new ≡ all ++ one ∷ [] → total ≡ max depth more
    → more ≡ entry_depth (entry_view one) → depth ≡ entries_depth (entries (map entry_view all)) → total ≡ entries_depth (entries (map entry_view new))
entries_pushed all one new depth more total list deep item measured =
    let e : entries_depth (entries (map entry_view new)) ≡ max (entries_depth (entries (map entry_view all))) (entry_depth (entry_view one)) =
    ap (λ (l : List Entry). entries_depth (entries (map entry_view l))) list
    ∙ ap (λ (l : List EntryTree). entries_depth (entries l)) (map-append entry_view all (one ∷ []))
    ∙ entries_more (map entry_view all) (entry_view one) in
    omega (arith, e, deep, item, measured)

enumerators_more : (all : List EnumeratorTree) (one : EnumeratorTree) → enumerators_depth (enumerators (all ++ one ∷ [])) ≡ max (enumerators_depth (enumerators all)) (enumerator_depth one)
enumerators_more [] one = omega arith
enumerators_more (first ∷ all) one = omega (arith, enumerators_more all one)

pub enumerators_pushed : (all : List Enumerator) (one : Enumerator) (new : List Enumerator) (depth more total : ℕ) → new ≡ all ++ one ∷ [] → total ≡ max depth more
    → more ≡ enumerator_depth (enumerator_view one) → depth ≡ enumerators_depth (enumerators (map enumerator_view all)) → total ≡ enumerators_depth (enumerators (map enumerator_view new))
enumerators_pushed all one new depth more total list deep item measured =
    let e : enumerators_depth (enumerators (map enumerator_view new)) ≡ max (enumerators_depth (enumerators (map enumerator_view all))) (enumerator_depth (enumerator_view one)) =
    ap (λ (l : List Enumerator). enumerators_depth (enumerators (map enumerator_view l))) list
    ∙ ap (λ (l : List EnumeratorTree). enumerators_depth (enumerators l)) (map-append enumerator_view all (one ∷ []))
    ∙ enumerators_more (map enumerator_view all) (enumerator_view one) in
    omega (arith, e, deep, item, measured)

member_declarators_more : (all : List MemberDeclaratorTree) (one : MemberDeclaratorTree) → member_declarators_depth (member_declarators (all ++ one ∷ [])) ≡ max (member_declarators_depth (member_declarators all)) (member_declarator_depth one)
member_declarators_more [] one = omega arith
member_declarators_more (first ∷ all) one = omega (arith, member_declarators_more all one)

pub member_declarators_pushed : (all : List MemberDeclarator) (one : MemberDeclarator) (new : List MemberDeclarator) (depth more total : ℕ) → new ≡ all ++ one ∷ [] → total ≡ max depth more
    → more ≡ member_declarator_depth (member_declarator_view one) → depth ≡ member_declarators_depth (member_declarators (map member_declarator_view all)) → total ≡ member_declarators_depth (member_declarators (map member_declarator_view new))
member_declarators_pushed all one new depth more total list deep item measured =
    let e : member_declarators_depth (member_declarators (map member_declarator_view new)) ≡ max (member_declarators_depth (member_declarators (map member_declarator_view all))) (member_declarator_depth (member_declarator_view one)) =
    ap (λ (l : List MemberDeclarator). member_declarators_depth (member_declarators (map member_declarator_view l))) list
    ∙ ap (λ (l : List MemberDeclaratorTree). member_declarators_depth (member_declarators l)) (map-append member_declarator_view all (one ∷ []))
    ∙ member_declarators_more (map member_declarator_view all) (member_declarator_view one) in
    omega (arith, e, deep, item, measured)

member_decls_more : (all : List MemberDeclTree) (one : MemberDeclTree) → member_decls_depth (member_decls (all ++ one ∷ [])) ≡ max (member_decls_depth (member_decls all)) (member_decl_depth one)
member_decls_more [] one = omega arith
member_decls_more (first ∷ all) one = omega (arith, member_decls_more all one)

pub member_decls_pushed : (all : List MemberDecl) (one : MemberDecl) (new : List MemberDecl) (depth more total : ℕ) → new ≡ all ++ one ∷ [] → total ≡ max depth more
    → more ≡ member_decl_depth (member_decl_view one) → depth ≡ member_decls_depth (member_decls (map member_decl_view all)) → total ≡ member_decls_depth (member_decls (map member_decl_view new))
member_decls_pushed all one new depth more total list deep item measured =
    let e : member_decls_depth (member_decls (map member_decl_view new)) ≡ max (member_decls_depth (member_decls (map member_decl_view all))) (member_decl_depth (member_decl_view one)) =
    ap (λ (l : List MemberDecl). member_decls_depth (member_decls (map member_decl_view l))) list
    ∙ ap (λ (l : List MemberDeclTree). member_decls_depth (member_decls l)) (map-append member_decl_view all (one ∷ []))
    ∙ member_decls_more (map member_decl_view all) (member_decl_view one) in
    omega (arith, e, deep, item, measured)

specs_more : (all : List SpecTree) (one : SpecTree) → specs_depth (specs (all ++ one ∷ [])) ≡ max (specs_depth (specs all)) (spec_depth one)
specs_more [] one = omega arith
specs_more (first ∷ all) one = omega (arith, specs_more all one)

pub specs_pushed : (all : List Spec) (one : Spec) (new : List Spec) (depth more total : ℕ) → new ≡ all ++ one ∷ [] → total ≡ max depth more
    → more ≡ spec_depth (spec_view one) → depth ≡ specs_depth (specs (map spec_view all)) → total ≡ specs_depth (specs (map spec_view new))
specs_pushed all one new depth more total list deep item measured =
    let e : specs_depth (specs (map spec_view new)) ≡ max (specs_depth (specs (map spec_view all))) (spec_depth (spec_view one)) =
    ap (λ (l : List Spec). specs_depth (specs (map spec_view l))) list
    ∙ ap (λ (l : List SpecTree). specs_depth (specs l)) (map-append spec_view all (one ∷ []))
    ∙ specs_more (map spec_view all) (spec_view one) in
    omega (arith, e, deep, item, measured)
