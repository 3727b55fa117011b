-- Nests and pieces of a list, as they are kept.
use Rattle.emit_nests.specs.Views.{nest_view}
use Rattle.emit_rules.specs.Chains as chains
use Rattle.emit_sorting.specs.declared.chaining.Piece.{Piece}
use Rattle.emit_sorting.specs.declared.chaining.Ranked.{Ranked}

abbrev pub ranked_view : Ranked → chains.Ranked
ranked_view ranked = record { nest = nest_view ranked.nest; from = ranked.from }

abbrev pub piece_view : Piece → chains.Piece
piece_view piece = record { start = piece.start; nest = nest_view piece.nest }
