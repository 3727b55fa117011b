-- The plain tree of each initialiser.
use Rattle.std.specs.Prelude.{List, [], ◌∷◌, map}
use Rattle.cx_core.specs.Views.{view_expr}
use Rattle.cx_init.specs.Views.{view_filling, view_stored}
use Rattle.cx_place.specs.Initialisers.{CGiven, given_value, given_text, given_list, CEntries, no_entries, more_entries}
use Rattle.cx_place.specs.Placing.{CPlacing, CWhole}
use Rattle.cx_place.specs.declared.given.Entry.{Entry}
use Rattle.cx_place.specs.declared.given.Given.{Given}
use Rattle.cx_place.specs.declared.given.Given.TheFolds.{fold-Given, fold-Entry}
use Rattle.cx_place.specs.declared.given.Given.TheOpen as g
use Rattle.cx_place.specs.declared.given.To.{To}
use Rattle.cx_place.specs.declared.placing.Placing.{Placing}
use Rattle.cx_place.specs.declared.wholes.Whole.{Whole}

-- an entry of a list
pub record CEntry : Type 0 where
  pub at : List To
  pub given : CGiven

abbrev pub entries_of : List CEntry → CEntries
entries_of [] = no_entries
entries_of (first ∷ others) = more_entries first.at first.given (entries_of others)

abbrev given_form : g.Given-F CGiven CEntry → CGiven
given_form (g.Value one) = given_value (view_expr one)
given_form (g.Text bytes object place) = given_text bytes object place
given_form (g.List entries) = given_list (entries_of entries)

abbrev pub view_given : Given → CGiven
view_given = fold-Given CGiven CEntry given_form (λ one. record { at = one.at; given = one.given })

abbrev pub view_entry : Entry → CEntry
view_entry = fold-Entry CGiven CEntry given_form (λ one. record { at = one.at; given = one.given })

abbrev pub view_placing : Placing → CPlacing
view_placing placing = record { filling = view_filling placing.filling; rules = placing.rules }

abbrev pub view_whole : Whole → CWhole
view_whole whole = record { stored = map view_stored whole.stored; rules = whole.rules }
