use Rattle.std.proofs.Common.{◌≡◌, ◌≤◌, ◌+◌, ◌-◌, ◌*◌, suc, map, length}
use Rattle.straight_parse.specs.Declarators.{param, function, stops_functions, measured_declarator}
use Rattle.straight_parse.specs.Lists.{list_read, many, stops_commas, next_item}
use Rattle.straight_tree.specs.Views.{declarator_view, param_view}
use Rattle.straight_parse.proofs.declarators.+declarator.Given as goal

abbrev pub decreases-declarator : goal.decreases-declarator
decreases-declarator l = 7 * l.depth

abbrev pub decreases-functions_behind : goal.decreases-functions_behind
decreases-functions_behind l = 7 * l.depth + 6

abbrev pub decreases-function : goal.decreases-function
decreases-function l = 7 * l.depth + 5

abbrev pub decreases-params : goal.decreases-params
decreases-params l = 7 * l.depth + 4

abbrev pub decreases-params_behind : goal.decreases-params_behind
decreases-params_behind l = 7 * l.depth + 3

abbrev pub decreases-next_param : goal.decreases-next_param
decreases-next_param l = 7 * l.depth + 1

abbrev pub decreases-param : goal.decreases-param
decreases-param l = 7 * l.depth

abbrev pub decreases-param_from : goal.decreases-param_from
decreases-param_from l = 7 * l.depth + 3

abbrev pub decreases-declarator_or_missing : goal.decreases-declarator_or_missing
decreases-declarator_or_missing l = 7 * l.depth + 1

abbrev pub invariant-params_behind-loop-turn : goal.invariant-params_behind-loop-turn
invariant-params_behind-loop-turn l =
    (l.list.depth ≤ l.depth)
    × (many stops_commas (next_item (param l.depth)) (suc (length l.initial.cursor) - l._turn) (list_read (map param_view l.list.list) l.list.depth l.list.lines) l.cursor
    ≡ many stops_commas (next_item (param l.depth)) (suc (length l.initial.cursor)) (list_read (map param_view l.initial.list.list) l.initial.list.depth l.initial.list.lines) l.initial.cursor)

abbrev pub invariant-functions_behind-loop-turn : goal.invariant-functions_behind-loop-turn
invariant-functions_behind-loop-turn l =
    (l.of.depth ≤ suc l.depth)
    × (many stops_functions (function (param l.depth) l.depth) (suc (length l.initial.cursor) - l._turn) (measured_declarator (declarator_view l.of.tree) l.of.depth) l.cursor
    ≡ many stops_functions (function (param l.depth) l.depth) (suc (length l.initial.cursor)) (measured_declarator (declarator_view l.initial.of.tree) l.initial.of.depth) l.initial.cursor)
