-- Where a run stands in a function, and what it does next, as the engine holds them.
use Rattle.std.specs.Prelude.{ℕ, pos, Bool, List, [], ◌∷◌, map, reverse}
use Rattle.cx_core.specs.declared.program.CoreObject.{CoreObject}
use Rattle.cx_core.specs.Trees.{CPut, put, CPuts, place_of}
use Rattle.cx_core.specs.Views.{puts_of, view_expr, view_object, view_put, view_stmt}
use Rattle.cx_mean.specs.Moves.{CBehind, in_body, of_statics, CPurpose, puts_it, drops_it, turns_on, gives_it, chooses_by, CGoal, does_form, follows, CMove, values, reaches, begins, leaves, calls_main, goes_nowhere}
use Rattle.cx_mean.specs.Operands.{CValue, scalar, missing}
use Rattle.cx_mean.specs.Paths.{CLevel, CSite, site_at}
use Rattle.cx_mean.specs.State.{statics_in, value_at_end}
use Rattle.mem_bytes.specs.declared.value.Value.TheVariants.{Whole as Number}
use Rattle.cx_moves.specs.declared.moves.Behind.{Behind}
use Rattle.cx_moves.specs.declared.moves.Behind.TheVariants as behind
use Rattle.cx_moves.specs.declared.moves.Goal.{Goal}
use Rattle.cx_moves.specs.declared.moves.Goal.TheVariants as goal
use Rattle.cx_moves.specs.declared.moves.Left.{Left}
use Rattle.cx_moves.specs.declared.moves.Left.TheVariants as left
use Rattle.cx_moves.specs.declared.moves.Move.{Move}
use Rattle.cx_moves.specs.declared.moves.Move.TheVariants as move
use Rattle.cx_moves.specs.declared.moves.Purpose.{Purpose}
use Rattle.cx_moves.specs.declared.moves.Purpose.TheVariants as purpose
use Rattle.cx_moves.specs.declared.sites.Level.{Level}
use Rattle.cx_moves.specs.declared.sites.Site.{Site}
use Rattle.cx_moves.specs.declared.ways.Opened.{Opened}
use Rattle.cx_moves.specs.Ways.{form_of, view_rest, view_way}

-- ---- sites

abbrev pub view_level : Level → CLevel
view_level level = record { slots = level.slots; form = form_of (view_stmt level.stmt.now); rest = view_rest level.rest }

-- the open statements, which are held the outermost first
abbrev pub levels_of : List Level → List CLevel
levels_of levels = reverse (map view_level levels)

abbrev pub view_site : Site → CSite
view_site site = record {
  levels = levels_of site.levels;
  bottom = record { params = site.params; at_end = value_at_end site.is_main };
}

-- ---- moves

abbrev pub view_left : Left → CValue
view_left left.Nothing = missing
view_left left.Zero = scalar (Number (pos 0))

abbrev pub view_behind : CSite → Behind → CBehind
view_behind site behind.Body = in_body site
view_behind site (behind.Statics objects) = of_statics (statics_in (map view_object objects.now))

-- the value of a put is stored
abbrev pub stores_put : ℕ → CPut → CPuts → CBehind → CPurpose
stores_put object (put spot type value) others behind =
    puts_it (place_of value) (record { object = object; spot = spot; type = type; others = others; behind = behind })

abbrev pub view_purpose : CSite → Purpose → CPurpose
view_purpose site (purpose.Puts one) =
    stores_put one.object (view_put one.put.now) (puts_of (map view_put one.others.now)) (view_behind site one.behind)
view_purpose site purpose.Drops = drops_it site
view_purpose site purpose.Turns = turns_on site
view_purpose site (purpose.Gives place) = gives_it place site
view_purpose site (purpose.Chooses place) = chooses_by place site

abbrev pub view_goal : List Opened → Goal → CGoal
view_goal way (goal.Does place) = does_form place
view_goal way (goal.Follows target) = follows (view_way target.now way)

-- an object of the innermost open statement begins; there always is one then
abbrev pub begins_in : ℕ → List ℕ → CGoal → CSite → CMove
begins_in object others goal site = elim site.levels as (λ _. CMove) [
  | [] ↦ calls_main
  | level ∷ outer ↦ begins (record { object = object; others = others; level = level; outer = site_at outer site.bottom; goal = goal })
]

abbrev pub view_move : Site → Move → CMove
view_move site (move.Values value purpose) = values (view_expr value.now) (view_purpose (view_site site) purpose)
view_move site (move.Reaches stmt) = reaches (view_stmt stmt.now) (view_site site)
view_move site (move.Begins object others goal) = begins_in object others.now (view_goal site.way goal) (view_site site)
view_move site (move.Leaves left) = leaves (view_left left) (view_site site)
view_move site move.CallsMain = calls_main
view_move site (move.Nowhere place) = goes_nowhere place
