-- In which ways statements end, as it is found out.
use Rattle.std.specs.Prelude.{◌≡◌, ℕ, Bool, false, List}
use Rattle.rs_mean_ends.specs.Ways.{Way, goes, by_break}
use Rattle.rs_text.specs.Names.{is_among}
use Rattle.emit_stmts.specs.declared.ends.Ends.{Ends}

-- whether control goes on behind them, and by which labels it leaves them
pub record EndsBy (ways : Way → Bool) (ends : Ends) : Type 0 where
  pub goes_on : ends.goes ≡ ways goes
  pub breaks : (label : List ℕ) → is_among ends.breaks label ≡ ways (by_break label)

abbrev pub in_no_way : Way → Bool
in_no_way way = false
