use Rattle.std.proofs.Common.{◌≡◌, Some, length, sym, ap, ◌∙◌}
use Rattle.rs_lex.specs.Views.{kinds_seen, piece_seen, piece_in}
use Rattle.rs_lex.proofs.LexLemmas.{IsSize, seen, read_goes_on, size_within, shorter}
use Rattle.rs_lex.proofs.lexer.lex.Goals as goal
use Rattle.rs_lex.proofs.lexer.lex.Goals.{In-Ok-Some}

found : (c : In-Ok-Some) → Some (seen (kinds_seen c.in-Ok-Some.piece.kind) c.in-Ok-Some.piece.size) ≡ piece_in c.loop-rest.rest.now
found c = ap piece_seen (sym c.in-Ok-Some.field-0-is) ∙ c.in-Ok-Some.ensures

sizes : (c : In-Ok-Some) → IsSize c.in-Ok-Some.piece.size (length c.loop-rest.rest.now)
sizes c = size_within c.loop-rest.rest.now (kinds_seen c.in-Ok-Some.piece.kind) c.in-Ok-Some.piece.size (found c)

pub line_behind-line-requires : goal.line_behind-line-requires
line_behind-line-requires c = (sizes (goal.at.line_behind-line-requires c).In-Ok-Some).1

pub behind-rest-requires : goal.behind-rest-requires
behind-rest-requires c = (sizes (goal.at.behind-rest-requires c).In-Ok-Some).1

pub loop-rest-smaller : goal.loop-rest-smaller
loop-rest-smaller c = shorter _ _ _ (sizes (goal.at.loop-rest-smaller c).In-Ok-Some) c.behind-rest.ensures

pub loop-rest-preserved : goal.loop-rest-preserved
loop-rest-preserved c =
    read_goes_on c.args.text.now c.loop-rest.tokens c.add.new.tokens c.loop-rest.angles.open c.add.new.angles.open c.loop-rest.angles.last c.add.new.angles.last
    c.loop-rest.rest.now c.behind-rest.result.now (kinds_seen c.in-Ok-Some.piece.kind) c.in-Ok-Some.piece.size c.loop-rest.invariant (found (goal.at.loop-rest-preserved c).In-Ok-Some)
    c.in-Ok.ensures.tokens c.in-Ok.ensures.count c.in-Ok.ensures.last c.in-Ok.ensures.within c.behind-rest.ensures
