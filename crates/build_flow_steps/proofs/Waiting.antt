-- Wherever a run of C stands at a place it waits at the events that it has shown, or is stuck.
use Rattle.std.proofs.Common.{◌≡◌, ◌∙◌, ℕ, List, [], ◌∷◌, Option, inl, inr, sym, subst}
use Rattle.cr_runs.specs.Owes.{IsBad, GoesOn}
use Rattle.cr_runs.specs.Runs.{bad, tick}
use Rattle.cr_runs_rules.proofs.Rules.{goes_at_a_step}
use Rattle.cr_runs_rules.specs.Steps.{StepsTo, Waits}
use Rattle.cr_world.specs.World.{World, blocks_of, events_of}
use Rattle.cx_core.specs.Trees.{CExpr, place_of}
use Rattle.cx_mean.specs.Moves.{chooses_by, turns_on, follows, CMove, values, reaches, begins, leaves, goes_nowhere, following}
use Rattle.cx_mean.specs.Operands.{stuck, stops, Frame as CFrame}
use Rattle.cx_mean.specs.Paths.{CLevel, CSite, site_at, with_level, CWay, arrives, opens}
use Rattle.build_flow_moves.proofs.Waiting.{choice_waits, turn_waits}
use Rattle.build_flow_moves.specs.Coded.{AtPlace, reaches_it, tests_it, turns_it, ends_it, on_the_way, stuck_there}
use Rattle.build_flow_moves.specs.Parts.{Stage}
use Rattle.build_flow_nodes.specs.Points.{FlowPlace, Point}

module _ (a : Stage) (at : FlowPlace → Option Point) (world : World) where
  abbrev WaitsAt : CMove → Type 0
  WaitsAt move = Waits (a.goes move world) events_of (events_of world)

  way_waits : (way : CWay) (site : CSite) → WaitsAt (following way site)
  way_waits (arrives s) site = inr (goes_at_a_step events_of world (a.goes (reaches s site) world) _ (λ k. a.unfolds (reaches s site) world k))
  way_waits (opens [] form rest way) site = way_waits way (with_level (record { slots = []; form = form; rest = rest }) site)
  way_waits (opens (first ∷ others) form rest way) site =
      inr (goes_at_a_step events_of world (a.goes (following (opens (first ∷ others) form rest way) site) world) _ (λ k. a.unfolds (following (opens (first ∷ others) form rest way) site) world k))

  pub place_waits : (place : FlowPlace) (move : CMove) (slots : CFrame) → AtPlace a at place move slots → WaitsAt move
  place_waits place move slots (reaches_it path ctx number levels s coded there) =
      inr (goes_at_a_step events_of world (a.goes (reaches s (site_at levels a.bottom)) world) _ (λ k. a.unfolds (reaches s (site_at levels a.bottom)) world k))
  place_waits place move slots (tests_it path around number level outer e opened has) =
      inr (choice_waits a.setting a.statics a.goes a.unfolds a.bounded world e (place_of e) (site_at (level ∷ outer) a.bottom))
  place_waits place move slots (turns_it path around number level outer e opened has) = inr (turn_waits a.setting a.statics a.goes a.unfolds a.bounded world e (site_at (level ∷ outer) a.bottom))
  place_waits place move slots ends_it =
      inr (goes_at_a_step events_of world (a.goes (leaves a.bottom.at_end (site_at [] a.bottom)) world) _ (λ k. a.unfolds (leaves a.bottom.at_end (site_at [] a.bottom)) world k))
  place_waits place move slots (on_the_way choice target ctx levels way objects first rest coded ways some there) = way_waits way (site_at levels a.bottom)
  place_waits place move slots (stuck_there spot where_it_is frame) =
      inl (0, subst IsBad (sym (a.unfolds (goes_nowhere where_it_is) world 0)) tt)
