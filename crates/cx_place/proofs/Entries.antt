-- Entries of a list, one after the other.
use Rattle.std.proofs.Common.{◌≡◌, ◌≤◌, false, List, [], ◌∷◌, ◌++◌, length, map, refl, sym, ap, ◌∙◌, arith}
use Rattle.cx_core.specs.Trees.{CTypes}
use Rattle.cx_place.specs.Placing.{CPlacing, entries_placed, holds_text}
use Rattle.cx_place.specs.Views.{entries_of, view_entry}
use Rattle.cx_place.specs.declared.given.Entry.{Entry}
use Rattle.cx_rules.specs.Pieces.{CTarget}

-- one more entry at the end
placed_last : (types : CTypes) (target : CTarget) (entries : List Entry) (one : Entry) (placing : CPlacing)
    → entries_placed types target (entries_of (map view_entry (entries ++ one ∷ []))) placing ≡ entries_placed types target (entries_of (view_entry one ∷ [])) (entries_placed types target (entries_of (map view_entry entries)) placing)
placed_last types target [] one placing = refl
placed_last types target (first ∷ others) one placing =
    placed_last types target others one (entries_placed types target (entries_of (view_entry first ∷ [])) placing)

-- one more entry was placed behind those so far
pub placed_more : (types : CTypes) (target : CTarget) (entries : List Entry) (one : Entry) (before so_far after : CPlacing)
    → so_far ≡ entries_placed types target (entries_of (map view_entry entries)) before
    → after ≡ entries_placed types target (entries_of (view_entry one ∷ [])) so_far
    → after ≡ entries_placed types target (entries_of (map view_entry (entries ++ one ∷ []))) before
placed_more types target entries one before so_far after earlier this =
    this ∙ ap (entries_placed types target (entries_of (view_entry one ∷ []))) earlier ∙ sym (placed_last types target entries one before)

-- a list of several entries doesn't stand for a string literal
pub none_of_many : (entries : List Entry) → 2 ≤ length entries → false ≡ holds_text (entries_of (map view_entry entries))
none_of_many [] many = absurd (omega arith)
none_of_many (one ∷ []) many = absurd (omega arith)
none_of_many (one ∷ (other ∷ others)) many = refl
