use Rattle.std.proofs.Common.{◌≡◌, [], map, option_map, drop, pos, false}
use Rattle.cx_walk.specs.Loops.{behind}
use Rattle.cx_walk.specs.Walks as walks
use Rattle.cx_context.specs.Views.{scope_of}
use Rattle.cx_core.specs.Views.{view_type, view_member}
use Rattle.cx_operands.specs.Views.{view_operand}
use Rattle.cx_rules.specs.Shapes.{no_specs_yet}
use Rattle.cx_scope.specs.Views.{view_param}
use Rattle.cx_shapes.specs.Views.{view_specs}
use Rattle.cx_tree.specs.Views.{expr_view, exprs as expr_trees, spec_view, specs as spec_trees, member_decl_view, member_decls as member_decl_trees, member_declarator_view, member_declarators as member_declarator_trees, enumerator_view, enumerators as enumerator_trees, param_view as param_tree_view, params as param_trees, entry_view, entries as entry_trees, designator_view, designators as designator_trees}
use Rattle.cx_init.specs.Views.{view_filling, view_target}
use Rattle.cx_parts.specs.Views.{view_at}
use Rattle.cx_walk.proofs.walk.+walk.Given as goal

-- the expressions that are left give the rest
abbrev pub invariant-exprs-loop-one : goal.invariant-exprs-loop-one
invariant-exprs-loop-one l =
    behind (map view_operand l.done) (walks.exprs_walk (expr_trees (map expr_view (drop l.one-index l.list))) (scope_of l.context))
    ≡ walks.exprs_walk (expr_trees (map expr_view l.fn.list)) (scope_of l.fn.context)

abbrev pub invariant-specifiers-loop-one : goal.invariant-specifiers-loop-one
invariant-specifiers-loop-one l =
    walks.specs_walk l.alone (view_specs l.all) (spec_trees (map spec_view (drop l.one-index l.list))) (scope_of l.context)
    ≡ walks.specs_walk l.alone no_specs_yet (spec_trees (map spec_view l.fn.list)) (scope_of l.fn.context)

abbrev pub invariant-member_decls-loop-index : goal.invariant-member_decls-loop-index
invariant-member_decls-loop-index l =
    walks.member_decls_walk (map view_member l.members) (member_decl_trees (map member_decl_view (drop l.index l.list))) (scope_of l.context)
    ≡ walks.member_decls_walk [] (member_decl_trees (map member_decl_view l.fn.list)) (scope_of l.fn.context)

abbrev pub invariant-member_declarators-loop-index : goal.invariant-member_declarators-loop-index
invariant-member_declarators-loop-index l =
    walks.member_declarators_walk l.is_last (map view_member l.members) (view_type l.from) (member_declarator_trees (map member_declarator_view (drop l.index l.list))) (scope_of l.context)
    ≡ walks.member_declarators_walk l.is_last (map view_member l.fn.members) (view_type l.from) (member_declarator_trees (map member_declarator_view l.fn.list)) (scope_of l.fn.context)

abbrev pub invariant-enumerators-loop-one : goal.invariant-enumerators-loop-one
invariant-enumerators-loop-one l =
    walks.enumerators_walk l.next l.negative (enumerator_trees (map enumerator_view (drop l.one-index l.list))) (scope_of l.context)
    ≡ walks.enumerators_walk (pos 0) false (enumerator_trees (map enumerator_view l.fn.list)) (scope_of l.fn.context)

abbrev pub invariant-params-loop-one : goal.invariant-params-loop-one
invariant-params-loop-one l =
    behind (map view_param l.done) (walks.params_walk l.alone (param_trees (map param_tree_view (drop l.one-index l.list))) (scope_of l.context))
    ≡ walks.params_walk l.fn.is_only (param_trees (map param_tree_view l.fn.list)) (scope_of l.fn.context)

abbrev pub invariant-entries_given-loop-one : goal.invariant-entries_given-loop-one
invariant-entries_given-loop-one l =
    walks.entries_walk (view_target l.target) (view_filling l.filling) (entry_trees (map entry_view (drop l.one-index l.list))) (scope_of l.context)
    ≡ walks.entries_walk (view_target l.target) (view_filling l.fn.filling) (entry_trees (map entry_view l.fn.list)) (scope_of l.fn.context)

abbrev pub invariant-designators-loop-one : goal.invariant-designators-loop-one
invariant-designators-loop-one l =
    walks.designators_walk (option_map view_at l.at) (designator_trees (map designator_view (drop l.one-index l.list))) (scope_of l.context)
    ≡ walks.designators_walk (option_map view_at l.fn.from) (designator_trees (map designator_view l.fn.list)) (scope_of l.fn.context)
