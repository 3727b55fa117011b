use Rattle.std.proofs.Common.{◌≡◌, ◌-◌, ◌^◌, min, max, map, drop}
use Rattle.cx_tree.specs.Depth as depth
use Rattle.cx_tree.specs.Views.{designator_view, designators, entry_view, entries, enumerator_view, enumerators, expr_view, exprs, member_decl_view, member_decls, member_declarator_view, member_declarators, param_view, params, spec_view, specs}
use Rattle.cx_print.proofs.depths.+tree_depths.Given as goal

abbrev pub invariant-declarators::params_depth-loop-param : goal.invariant-declarators::params_depth-loop-param
invariant-declarators::params_depth-loop-param l = max l.deepest (min (depth.params_depth (params (map param_view (drop l.param-index l.list)))) (2 ^ 64 - 1)) ≡ min (depth.params_depth (params (map param_view l.list))) (2 ^ 64 - 1)

abbrev pub invariant-exprs::exprs_depth-loop-expr : goal.invariant-exprs::exprs_depth-loop-expr
invariant-exprs::exprs_depth-loop-expr l = max l.deepest (min (depth.exprs_depth (exprs (map expr_view (drop l.expr-index l.expr-items)))) (2 ^ 64 - 1)) ≡ min (depth.exprs_depth (exprs (map expr_view l.expr-items))) (2 ^ 64 - 1)

abbrev pub invariant-initialisers::designators_depth-loop-designator : goal.invariant-initialisers::designators_depth-loop-designator
invariant-initialisers::designators_depth-loop-designator l = max l.deepest (min (depth.designators_depth (designators (map designator_view (drop l.designator-index l.list)))) (2 ^ 64 - 1)) ≡ min (depth.designators_depth (designators (map designator_view l.list))) (2 ^ 64 - 1)

abbrev pub invariant-initialisers::initialiser_list_depth-loop-entry : goal.invariant-initialisers::initialiser_list_depth-loop-entry
invariant-initialisers::initialiser_list_depth-loop-entry l = max l.deepest (min (depth.entries_depth (entries (map entry_view (drop l.entry-index l.entry-items)))) (2 ^ 64 - 1)) ≡ min (depth.entries_depth (entries (map entry_view l.entry-items))) (2 ^ 64 - 1)

abbrev pub invariant-specifiers::enumerators_depth-loop-enumerator : goal.invariant-specifiers::enumerators_depth-loop-enumerator
invariant-specifiers::enumerators_depth-loop-enumerator l = max l.deepest (min (depth.enumerators_depth (enumerators (map enumerator_view (drop l.enumerator-index l.enumerator-items)))) (2 ^ 64 - 1)) ≡ min (depth.enumerators_depth (enumerators (map enumerator_view l.enumerator-items))) (2 ^ 64 - 1)

abbrev pub invariant-specifiers::member_declarators_depth-loop-declarator : goal.invariant-specifiers::member_declarators_depth-loop-declarator
invariant-specifiers::member_declarators_depth-loop-declarator l = max l.deepest (min (depth.member_declarators_depth (member_declarators (map member_declarator_view (drop l.declarator-index l.list)))) (2 ^ 64 - 1)) ≡ min (depth.member_declarators_depth (member_declarators (map member_declarator_view l.list))) (2 ^ 64 - 1)

abbrev pub invariant-specifiers::members_depth-loop-decl : goal.invariant-specifiers::members_depth-loop-decl
invariant-specifiers::members_depth-loop-decl l = max l.deepest (min (depth.member_decls_depth (member_decls (map member_decl_view (drop l.decl-index l.decl-items)))) (2 ^ 64 - 1)) ≡ min (depth.member_decls_depth (member_decls (map member_decl_view l.decl-items))) (2 ^ 64 - 1)

abbrev pub invariant-specifiers::specs_depth-loop-spec : goal.invariant-specifiers::specs_depth-loop-spec
invariant-specifiers::specs_depth-loop-spec l = max l.deepest (min (depth.specs_depth (specs (map spec_view (drop l.spec-index l.list)))) (2 ^ 64 - 1)) ≡ min (depth.specs_depth (specs (map spec_view l.list))) (2 ^ 64 - 1)
