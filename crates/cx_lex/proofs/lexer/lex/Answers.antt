use Rattle.std.proofs.Common.{◌≡◌, ◌+◌, ◌-◌, ◌≤◌, true, List, length, take, drop, sym, ap, subst, arith, length-take, length-drop}
use Rattle.std.proofs.lemmas.List.{take_rest}
use Rattle.cr_base.specs.declared.refusal.Stop.{Stop}
use Rattle.cx_lex.specs.declared.token.Token.{Token}
use Rattle.cx_lex.specs.Tokens.{Spells}
use Rattle.cx_lex.proofs.SpellLemmas.{ReadTo, read_same, Stopped, read_start, read_end, stopped, piece_within, line_within, next_place, only_from_list}
use Rattle.cx_lex.proofs.lexer.lex.Goals as goal
use Rattle.cx_lex.proofs.lexer.lex.Goals.{After-loop-at, After-stop_at, In-Ok}

pub loop-at-init : goal.loop-at-init
loop-at-init c = subst (λ (tokens : List Token). ReadTo c.args.bytes.now tokens 0 1 true) (sym c.new-tokens.ensures) (read_start c.args.bytes.now)

-- ---- a refusal, or want of memory

stop : (c : After-stop_at) → Stopped c.args.bytes.now c.args.unit c.stop_at.result
stop c =
    subst (λ (s : Stop). Stopped c.args.bytes.now c.args.unit s) (sym c.stop_at.ensures)
    (stopped c.args.bytes.now c.loop-at.tokens c.loop-at.at c.loop-at.place.line c.loop-at.place.first c.loop-at.invariant c.loop-at-test.true c.args.unit c.in-Err.fault c.in-Err.ensures)

pub returns-in-Err-clause-refused : goal.returns-in-Err-clause-refused
returns-in-Err-clause-refused c = (stop (goal.at.returns-in-Err-clause-refused c).After-stop_at).refused

pub returns-in-Err-clause-only : goal.returns-in-Err-clause-only
returns-in-Err-clause-only c = (stop (goal.at.returns-in-Err-clause-only c).After-stop_at).only

pub returns-in-Err-clause-first : goal.returns-in-Err-clause-first
returns-in-Err-clause-first c = (stop (goal.at.returns-in-Err-clause-first c).After-stop_at).first

-- ---- the next piece

within : (c : In-Ok) → (1 ≤ c.in-Ok.piece.size) × (c.loop-at.at + c.in-Ok.piece.size ≤ length c.args.bytes.now)
within c =
    piece_within c.args.bytes.now c.loop-at.tokens c.loop-at.at c.loop-at.place.line c.loop-at.place.first c.loop-at.invariant c.loop-at-test.true c.in-Ok.piece.size c.in-Ok.piece.kind c.in-Ok.ensures

front_length : (c : In-Ok) → length (take c.in-Ok.piece.size (take (length c.args.bytes.now - c.loop-at.at) (drop c.loop-at.at c.args.bytes.now))) ≡ c.in-Ok.piece.size
front_length c =
    let bytes = c.args.bytes.now in
    let at = c.loop-at.at in
    let sizes = within c in
    omega (arith, sizes.1, length-take c.in-Ok.piece.size (take (length bytes - at) (drop at bytes)), ap length (take_rest bytes at), length-drop at bytes)

pub slice_bounds-behind-end : goal.slice_bounds-behind-end
slice_bounds-behind-end c = sym (front_length (goal.at.slice_bounds-behind-end c).In-Ok)

pub behind-place-requires : goal.behind-place-requires
behind-place-requires c =
    let d = (goal.at.behind-place-requires c).In-Ok in
    let sizes = within d in
    let line = line_within c.args.bytes.now c.loop-at.tokens c.loop-at.at c.loop-at.place.line c.loop-at.place.first c.loop-at.invariant c.loop-at-test.true in
    omega (arith, front_length d, sizes.1, line, c.requires)

pub overflow_add-at : goal.overflow_add-at
overflow_add-at c =
    let sizes = within (goal.at.overflow_add-at c).In-Ok in
    omega (arith, sizes.1, c.requires)

pub loop-at-smaller : goal.loop-at-smaller
loop-at-smaller c =
    let sizes = within (goal.at.loop-at-smaller c).In-Ok in
    omega (arith, sizes.0, sizes.1)

pub loop-at-preserved : goal.loop-at-preserved
loop-at-preserved c =
    let next = next_place c.args.bytes.now c.loop-at.tokens c.loop-at.at c.loop-at.place.line c.loop-at.place.first c.loop-at.invariant c.loop-at-test.true c.in-Ok.piece.size c.in-Ok.piece.kind c.in-Ok.ensures in
    let place = c.behind-place.ensures in
    read_same (sym c.in_ok-add.ensures) (sym place.line) (sym place.first) next

-- ---- the end

spelled : (c : After-loop-at) → length c.args.bytes.now ≤ c.loop-at.at → Spells c.args.bytes.now c.loop-at.tokens
spelled c end = read_end c.args.bytes.now c.loop-at.tokens c.loop-at.at c.loop-at.place.line c.loop-at.place.first c.loop-at.invariant end

pub returns-clause-spelled : goal.returns-clause-spelled
returns-clause-spelled c = spelled c c.loop-at-test.false

pub returns-clause-only : goal.returns-clause-only
returns-clause-only c = λ others other. only_from_list c.args.bytes.now c.args.unit c.loop-at.tokens others (spelled c c.loop-at-test.false) other
